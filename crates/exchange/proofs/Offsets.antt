-- Octets at their offsets, and the numbers that two of them make.
use Prim.Native.Nat.{ℕ, suc, ◌+◌, ◌*◌, ◌/◌, ◌%◌, ◌<◌}
use mathlib.Core.Path.{◌≡◌}
use mathlib.Core.List.{List, ◌∷◌}
use native.Mathlib.Nat.{mul-add-div_right, div-eq_of_lt, mul-add-mod_self_right, mod-eq_of_lt, add-zero}
use native.Mathlib.Numerals.{add-one}
use native.Mathlib.Omega.{arith}
use lib.ListN.{length, get_or, drop}
use lib.Seq.{drop-cons}
use Rattle.octets.specs.Octets.{be16}

-- two octets and the number that they make
module _ (h l : ℕ) (small : l < 256) where
  pub high : (h * 256 + l) / 256 ≡ h
  high = rw (mul-add-div_right {m = 256} (omega arith) h l, div-eq_of_lt small, add-zero)

  pub low : (h * 256 + l) % 256 ≡ l
  low = rw (mul-add-mod_self_right h 256 l, mod-eq_of_lt small)

module _ (body : List ℕ) (at : ℕ) where
  pub here : at < length body → drop at body ≡ get_or body at 0 ∷ drop (at + 1) body
  here h = rw add-one (drop-cons body at 0 h)

  -- the octet k further on
  pub on : (k : ℕ) → at + k < length body → drop (at + k) body ≡ get_or body (at + k) 0 ∷ drop (at + (k + 1)) body
  on k h = let e : at + (k + 1) ≡ suc (at + k) = omega arith in rw e (drop-cons body (at + k) 0 h)

  pub be16_on : (k : ℕ) → be16 body (at + k) ≡ get_or body (at + k) 0 * 256 + get_or body (at + (k + 1)) 0
  be16_on k = let e : at + k + 1 ≡ at + (k + 1) = omega arith in rw e
