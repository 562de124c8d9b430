-- Less than 300 seconds before, by the difference of two times.
use Prim.Native.Nat.{ℕ, ◌+◌, ◌-◌, ◌≤◌}
use mathlib.Core.Path.{◌≡◌, refl, sym}
use mathlib.Core.Bool.{Bool, true, false}
use borrow.Author.Tests.{lt-ltb, le-ltb, ltb-true, ltb-false}
use native.Mathlib.Omega.{arith}
use lib.Dec.{ltb}
use Rattle.redirecting.specs.Limits.{period_seconds}

pub by_difference : (t time : ℕ) → t ≤ time → ltb (time - t) period_seconds ≡ ltb time (t + period_seconds)
by_difference t time h = go (ltb (time - t) period_seconds) refl
  where
    go : (b : Bool) → ltb (time - t) period_seconds ≡ b → b ≡ ltb time (t + period_seconds)
    go true e = sym (lt-ltb time (t + period_seconds) (omega (arith, ltb-true (time - t) period_seconds e)))
    go false e = sym (le-ltb time (t + period_seconds) (omega (arith, ltb-false (time - t) period_seconds e)))
