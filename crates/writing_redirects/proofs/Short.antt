-- What fits is short: an identity has at most 255 octets, a nonce at most 256.
use Prim.Native.Nat.{ℕ, ◌≤◌}
use mathlib.Core.Path.{◌≡◌, refl}
use mathlib.Core.Bool.{Bool, true, false, cond, not, ◌&&◌, ◌||◌, false≢true}
use mathlib.Core.List.{List}
use native.Mathlib.Omega.{arith}
use borrow.Author.Tests.{eqb-true, leb-true, not-false}
use lib.Dec.{eqb, leb}
use lib.ListN.{length}
use Rattle.octets.specs.Limits.{ip4_octets, ip6_octets}
use Rattle.octets.proofs.Small.{both, neither}
use Rattle.redirect.specs.Wire.{ip4_identity, ip6_identity, fqdn_identity, fqdn_least, fqdn_most}
use Rattle.redirect.specs.Wire.{nonce_least, nonce_most}
use Rattle.redirect.specs.Identity.{identity_fits, nonce_fits, no_nonce_or}
use Rattle.redirect.specs.Write.{unfit}

pub identity_short : (named : Bool) (identity_type n : ℕ) → identity_fits named identity_type n ≡ true → n ≤ fqdn_most
unfolding identity_fits
identity_short named identity_type n e =
    go (eqb identity_type ip4_identity) (eqb identity_type ip6_identity) (eqb identity_type fqdn_identity) named e
  where
    go : (a b c d : Bool)
        → cond a (eqb n ip4_octets)
        (cond b (eqb n ip6_octets) (cond c (d && (leb fqdn_least n && leb n fqdn_most)) false)) ≡ true → n ≤ fqdn_most
    go true b c d e = let m = eqb-true n ip4_octets e in omega arith
    go false true c d e = let m = eqb-true n ip6_octets e in omega arith
    go false false true true e = leb-true n fqdn_most (both (leb fqdn_least n) (leb n fqdn_most) e).1
    go false false true false e = absurd (false≢true e)
    go false false false d e = absurd (false≢true e)

pub nonce_short : (n : ℕ) → no_nonce_or n ≡ true → n ≤ nonce_most
unfolding no_nonce_or nonce_fits
nonce_short n e = go (eqb n 0) refl e
  where
    go : (b : Bool) → eqb n 0 ≡ b → b || (leb nonce_least n && leb n nonce_most) ≡ true → n ≤ nonce_most
    go true p e = let m = eqb-true n 0 p in omega arith
    go false p e = leb-true n nonce_most (both (leb nonce_least n) (leb n nonce_most) e).1

-- what is not unfit fits into an output that is long enough for all
pub room_for : (named : Bool) (identity_type : ℕ) (identity nonce : List ℕ) → unfit named identity_type identity nonce ≡ false
    → (length identity ≤ fqdn_most) × (length nonce ≤ nonce_most)
room_for named identity_type identity nonce e =
    let f = neither (not (identity_fits named identity_type (length identity))) (not (no_nonce_or (length nonce))) e in (
      identity_short named identity_type (length identity) (not-false _ f.0),
      nonce_short (length nonce) (not-false _ f.1),
    )
