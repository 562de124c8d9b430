-- What a writer leaves: three parts placed one behind the other are the data.
use Prim.Native.Nat.{ℕ, ◌+◌, ◌≤◌}
use mathlib.Core.Path.{◌≡◌}
use mathlib.Core.List.{List, [], ◌∷◌}
use native.Mathlib.Omega.{arith}
use lib.ListN.{length, length-append}
use Rattle.writing.specs.Notify.{placed}
use Rattle.writing.proofs.Placed.{placed_then}
use Rattle.redirect.specs.Wire.{identity_header}
use Rattle.redirect.specs.Write.{gateway_octets}

module _ (identity_type : ℕ) (identity nonce : List ℕ) where
  abbrev front : List ℕ
  front = identity_type ∷ length identity ∷ []

  pub octets_length : length (gateway_octets identity_type identity nonce)
      ≡ identity_header + length identity + length nonce
  unfolding gateway_octets
  octets_length = simp length-append (omega arith)

  -- `a`, `b` and `c` are what was left after each of the three
  pub all_put : (out a b c : List ℕ) → identity_header + length identity + length nonce ≤ length out
      → a ≡ placed out 0 front → b ≡ placed a identity_header identity
      → c ≡ placed b (identity_header + length identity) nonce
      → c ≡ placed out 0 (gateway_octets identity_type identity nonce)
  unfolding gateway_octets
  all_put out a b c fits p q r =
      let two = placed_then out a b 0 identity_header front identity (omega arith) p (omega arith) q in
      placed_then out b c 0 (identity_header + length identity) (identity_type ∷ length identity ∷ identity) nonce
      (omega arith) two (omega arith) r
