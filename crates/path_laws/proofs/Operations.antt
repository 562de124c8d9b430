-- What a sum, a difference, a product and a half of floats from 0 to a bound are bounded by. Assumes nothing.
use Prim.Native.Nat.{ℕ, ◌+◌, ◌-◌, ◌*◌, ◌^◌, ◌≤◌, ◌<◌}
use mathlib.Core.Path.{◌≡◌, sym}
use mathlib.Core.Bool.{false}
use native.Mathlib.Nat.{le_trans, le_of_eq, sub-le, add-le-add, add-mul, mul-pos, mul-one, mul_assoc, mul_comm}
use native.Mathlib.Nat.{mul_left_comm, mul-le-mul_left, mul-le-mul_right}
use native.Mathlib.Omega.{arith}
use lib.Dec.{lit<}
use lib.IntN.{ℤ}
use lib.Ieee.{Float, fin, Format, prec, up, down, add, sub, mul, div, lt}
use lib.Ieee.Fits.{down_pos}
use Rattle.paths.specs.Update.{two}
use Rattle.path_laws.proofs.Within.{Within, within, round_within}

-- a fraction a / c ≤ B, over c times another denominator
wider : (a B c d : ℕ) → a ≤ B * c → a * d ≤ B * (c * d)
wider a B c d h = le_trans (mul-le-mul_right d h) (le_of_eq (mul_assoc B c d))

module _ (f : Format) where
  pub sum_within : {B C : ℕ} {x y : Float} → B + C < 2 ^ prec f → Within B x → Within C y → Within (B + C) (add f x y)
  unfolding add
  sum_within {B} {C} small (within {m = m} {e = e} h) (within {m = n} {e = d} k) =
      round_within f (B + C) (m * up e * down d + n * up d * down e) (down e * down d) small
      (mul-pos (down_pos e) (down_pos d))
      (le_trans (add-le-add (wider (m * up e) B (down e) (down d) h) (wider (n * up d) C (down d) (down e) k))
      (le_of_eq (simp (add-mul, mul_comm (down d) (down e)))))

  -- of a whole number of powers of two and a float
  pub product_within : (m : ℕ) (e : ℤ) {B : ℕ} (C : ℕ) {x : Float} → C < 2 ^ prec f → m * up e * B ≤ C * down e
      → Within B x → Within C (mul f (fin false m e) x)
  unfolding mul
  product_within m e {B} C small h (within {m = n} {e = d} k) =
      round_within f C (m * up e * (n * up d)) (down e * down d) small (mul-pos (down_pos e) (down_pos d))
      (le_trans (mul-le-mul_left (m * up e) k)
      (le_trans (le_of_eq (sym (mul_assoc (m * up e) B (down d)))) (wider (m * up e * B) C (down e) (down d) h)))

  pub half_within : {B : ℕ} {x : Float} → B < 2 ^ prec f → Within B x → Within B (div f x two)
  unfolding div
  half_within {B} small (within {m = m} {e = e} h) =
      round_within f B (m * up e * 1) (2 * down e) small (mul-pos (lit< tt) (down_pos e))
      (rw (mul-one, mul_left_comm) (omega arith))

  -- of which the second is not above the first: no larger than the first
  pub difference_within : {B C : ℕ} {x y : Float} → B < 2 ^ prec f → lt x y ≡ false → Within B x → Within C y
      → Within B (sub f x y)
  unfolding sub lt
  difference_within {B} small l (within {m = m} {e = e} h) (within {m = n} {e = d} k) =
      let a = m * up e * down d in
      let b = n * up d * down e in
      rw l
      (round_within f B (a - b) (down e * down d) small (mul-pos (down_pos e) (down_pos d))
      (le_trans (sub-le a b) (wider (m * up e) B (down e) (down d) h)))
