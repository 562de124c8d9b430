-- The parts of the data of a REDIRECT: of data that is not cut, and of data that was put together.
use Prim.Native.Nat.{ℕ, ◌+◌, ◌≤◌}
use mathlib.Core.Path.{◌≡◌, refl, sym, ◌∙◌}
use mathlib.Core.List.{List, [], ◌∷◌, ◌++◌}
use mathlib.Core.Bool.{false}
use native.Mathlib.Omega.{arith}
use borrow.Author.Tests.{le-ltb, ltb-false}
use lib.ListN.{length, take, drop, length-append, length-drop, take-append-drop}
use lib.Seq.{take_all, take-append_seam, drop_at, drop-drop, length-take-le}
use Rattle.values.proofs.Stands.{part_there}
use Rattle.redirect.specs.Wire.{identity_header}
use Rattle.redirect.specs.Read.{identity_type, identity_size, identity_in, nonce_at, nonce_size, nonce_in, cut}
use Rattle.redirect.specs.Write.{gateway_octets}

module _ (octets : List ℕ) (whole : cut octets ≡ false) where
  inside : nonce_at octets ≤ length octets
  inside = ltb-false (length octets) (nonce_at octets) whole

  identity_is : identity_in octets ≡ take (identity_size octets) (drop identity_header octets)
  identity_is = part_there octets identity_header (identity_size octets) (λ e. omega arith) inside

  pub identity_long : length (identity_in octets) ≡ identity_size octets
  identity_long =
      rw identity_is
      (length-take-le (identity_size octets) (drop identity_header octets)
      (omega (arith, inside, length-drop identity_header octets)))

  nonce_is : nonce_in octets ≡ drop (identity_size octets) (drop identity_header octets)
  nonce_is =
      part_there octets (nonce_at octets) (nonce_size octets) (λ e. omega arith) (omega (arith, inside))
      ∙ take_all (nonce_size octets) (drop (nonce_at octets) octets) (omega (arith, length-drop (nonce_at octets) octets))
      ∙ sym (drop-drop (identity_size octets) identity_header octets)

  pub nonce_long : length (nonce_in octets) ≡ nonce_size octets
  nonce_long =
      rw (nonce_is, drop-drop (identity_size octets) identity_header octets) (length-drop (nonce_at octets) octets)

  -- with the identity and the nonce put together again, these are the octets behind the header
  behind : identity_in octets ++ nonce_in octets ≡ drop identity_header octets
  behind = rw (identity_is, nonce_is) (take-append-drop (identity_size octets) (drop identity_header octets))

-- data of two octets or more begins with these
front : (octets : List ℕ) → identity_header ≤ length octets
    → identity_type octets ∷ identity_size octets ∷ drop identity_header octets ≡ octets
front [] h = absurd (omega arith)
front (x ∷ []) h = absurd (omega arith)
front (x ∷ y ∷ octets) h = refl

pub again : (octets : List ℕ) → cut octets ≡ false
    → gateway_octets (identity_type octets) (identity_in octets) (nonce_in octets) ≡ octets
unfolding gateway_octets
again octets whole =
    rw (identity_long octets whole, behind octets whole) (front octets (omega (arith, inside octets whole)))

-- data put together of an identity and a nonce
module _ (t : ℕ) (identity nonce : List ℕ) where
  abbrev made : List ℕ
  made = t ∷ length identity ∷ identity ++ nonce

  made_long : length made ≡ identity_header + length identity + length nonce
  made_long = simp length-append (omega arith)

  pub made_whole : cut made ≡ false
  made_whole = le-ltb (length made) (identity_header + length identity) (omega (arith, made_long))

  pub made_identity : identity_in made ≡ identity
  made_identity = identity_is made made_whole ∙ take-append_seam identity nonce

  pub made_nonce : nonce_in made ≡ nonce
  made_nonce = nonce_is made made_whole ∙ drop_at identity nonce (length identity) refl
