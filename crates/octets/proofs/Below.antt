-- Laws of a test over every number below a bound.
use Prim.Native.Nat.{ℕ, zero, suc, ◌+◌, ◌<◌}
use mathlib.Core.Path.{◌≡◌, refl}
use mathlib.Core.Bool.{Bool, true, false, ◌&&◌}
use native.Mathlib.Numerals.{add-one}
use native.Mathlib.Omega.{arith}
use native.Mathlib.Decide.{dec_lt}
use Rattle.octets.specs.Lists.{all_below}

and-false : (b x : Bool) → x ≡ false → b && x ≡ false
and-false true x e = e
and-false false x e = refl

module _ (f : ℕ → Bool) where
  pub one_more : (n : ℕ) → all_below f n ≡ true → f n ≡ true → all_below f (n + 1) ≡ true
  one_more n h e = rw (add-one n, e, h)

  -- where one fails, all fail
  pub one_fails : (i n : ℕ) → i < n → f i ≡ false → all_below f n ≡ false
  one_fails i zero h e = absurd (omega arith)
  one_fails i (suc n) h e = go (dec_lt i n) (λ l. one_fails i n l e)
    where
      go : Dec (i < n) → (i < n → all_below f n ≡ false) → f n && all_below f n ≡ false
      go (yes l) r = and-false (f n) (all_below f n) (r l)
      go (no l) r = let same : n ≡ i = omega arith in rw (same, e)
