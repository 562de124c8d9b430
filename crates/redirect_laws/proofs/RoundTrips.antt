-- Both round trips of the data.
use Prim.Native.Nat.{ℕ, ◌≤◌}
use mathlib.Core.Path.{◌≡◌, refl, sym, ap, ◌∙◌}
use mathlib.Core.List.{List, [], ◌∷◌, ◌++◌}
use mathlib.Core.Bool.{Bool, true, false, cond, ◌||◌, not}
use borrow.Author.Tests.{eq-eqb, eqb-true, le-ltb, not-false}
use lib.Dec.{eqb}
use lib.ListN.{length}
use Rattle.octets.specs.declared.number.Number.TheVariants.{BadRedirect}
use Rattle.octets.specs.Numbers.{number_of}
use Rattle.octets.specs.Checks.{first_failed}
use Rattle.octets.proofs.Checks.{all_passed}
use Rattle.octets.proofs.Small.{neither, empty}
use Rattle.redirect.specs.Wire.{redirect_room}
use Rattle.redirect.specs.Identity.{identity_fits, no_nonce_or}
use Rattle.redirect.specs.Read.{identity_type, identity_size, identity_in, nonce_size, nonce_in, cut}
use Rattle.redirect.specs.Read.{redirect_malformed, from_malformed, redirect_checks, from_checks, supported_checks}
use Rattle.redirect.specs.Write.{gateway_octets, unfit, write_checks}
use Rattle.redirect_laws.specs.RoundTrips.{redirect_written, redirect_read, from_written, from_read, Reads, ReadsFrom}
use Rattle.redirect_laws.specs.RoundTrips.{RoundTrips}
use Rattle.redirect_laws.proofs.Parsed.{identity_long, nonce_long, again, made_whole, made_identity, made_nonce}

-- what writes has an identity that fits
fits : (named : Bool) (t : ℕ) (identity nonce : List ℕ) (room : ℕ)
    → first_failed (write_checks (unfit named t identity nonce) room) ≡ 0
    → identity_fits named t (length identity) ≡ true
fits named t identity nonce room e =
    let p = all_passed (write_checks (unfit named t identity nonce) room) refl e in
    not-false _ (neither (not (identity_fits named t (length identity))) (not (no_nonce_or (length nonce))) p.1.0).0

redirect_reads : (t : ℕ) (identity nonce : List ℕ) (room : ℕ) → redirect_written t identity nonce room ≡ 0
    → Reads (gateway_octets t identity nonce) t identity nonce
unfolding gateway_octets redirect_malformed
redirect_reads t identity nonce room e =
    record {
      number = rw (made_whole t identity nonce, fits true t identity nonce room e);
      type_is = refl;
      identity_is = made_identity t identity nonce;
      nonce_is = made_nonce t identity nonce;
    }

from_reads : (t : ℕ) (identity : List ℕ) (room : ℕ) → from_written t identity room ≡ 0
    → ReadsFrom (gateway_octets t identity []) t identity
unfolding gateway_octets from_malformed
from_reads t identity room e =
    let whole = made_whole t identity [] in
    let none : nonce_size (t ∷ length identity ∷ identity ++ []) ≡ 0 =
    sym (nonce_long (t ∷ length identity ∷ identity ++ []) whole) ∙ ap length (made_nonce t identity []) in
    record {
      number = rw (whole, fits false t identity [] room e, eq-eqb _ 0 none);
      type_is = refl;
      identity_is = made_identity t identity [];
    }

-- what is read as a REDIRECT
module _ (octets : List ℕ) (e : redirect_read octets ≡ 0) where
  read_right : (cut octets ≡ false) × (identity_fits true (identity_type octets) (identity_size octets) ≡ true)
  unfolding redirect_malformed
  read_right =
      let p = all_passed (redirect_checks octets) refl e in
      let n = neither (cut octets) (not (identity_fits true (identity_type octets) (identity_size octets))) p.0 in
      (n.0, not-false _ n.1)

  redirect_octets : gateway_octets (identity_type octets) (identity_in octets) (nonce_in octets) ≡ octets
  redirect_octets = again octets read_right.0

  redirect_writes : (room : ℕ) → redirect_room ≤ room
      → redirect_written (identity_type octets) (identity_in octets) (nonce_in octets) room
      ≡ cond (no_nonce_or (length (nonce_in octets))) 0 (number_of BadRedirect)
  redirect_writes room h =
      rw (le-ltb room redirect_room h, identity_long octets read_right.0, read_right.1)
      (turned (no_nonce_or (length (nonce_in octets))))
    where
      turned : (b : Bool) → cond (not b) (number_of BadRedirect) 0 ≡ cond b 0 (number_of BadRedirect)
      turned true = refl
      turned false = refl

-- what is read as a REDIRECTED_FROM
module _ (octets : List ℕ) (e : from_read octets ≡ 0) where
  abbrev wrong : Bool
  wrong = not (identity_fits false (identity_type octets) (identity_size octets))

  from_right : (cut octets ≡ false) × (wrong ≡ false) × (nonce_size octets ≡ 0)
  unfolding from_malformed
  from_right =
      let p = all_passed (from_checks octets) refl e in
      let n = neither (cut octets) (wrong || not (eqb (nonce_size octets) 0)) p.0 in
      let m = neither wrong (not (eqb (nonce_size octets) 0)) n.1 in
      (n.0, m.0, eqb-true (nonce_size octets) 0 (not-false _ m.1))

  none : nonce_in octets ≡ []
  none = empty (nonce_in octets) (nonce_long octets from_right.0 ∙ from_right.2)

  from_octets : gateway_octets (identity_type octets) (identity_in octets) [] ≡ octets
  from_octets =
      ap (λ (l : List ℕ). gateway_octets (identity_type octets) (identity_in octets) l) (sym none)
      ∙ again octets from_right.0

  from_writes : (room : ℕ) → redirect_room ≤ room → from_written (identity_type octets) (identity_in octets) room ≡ 0
  unfolding no_nonce_or
  from_writes room h =
      let right = identity_fits false (identity_type octets) (identity_size octets) in
      rw (le-ltb room redirect_room h, identity_long octets from_right.0, not-false right from_right.1)

supported_octets : (octets : List ℕ) → first_failed (supported_checks octets) ≡ 0 → octets ≡ []
supported_octets octets e =
    let p = all_passed (supported_checks octets) refl e in
    empty octets (eqb-true (length octets) 0 (not-false _ p.0))

pub round_trips : RoundTrips
round_trips =
    record {
      redirect_reads = redirect_reads;
      redirect_octets = redirect_octets;
      redirect_writes = λ octets room e h. redirect_writes octets e room h;
      from_reads = from_reads;
      from_octets = from_octets;
      from_writes = λ octets room e h. from_writes octets e room h;
      supported_reads = refl;
      supported_octets = supported_octets;
    }
