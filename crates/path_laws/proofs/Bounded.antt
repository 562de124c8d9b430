-- P4: from a start on both numbers of every path are in range. Assumes nothing.
use Prim.Native.Nat.{◌*◌}
use mathlib.Core.Path.{◌≡◌, refl}
use mathlib.Core.Bool.{Bool, true, false}
use native.Mathlib.Nat.{le_trans, le_of_eq, mul-one}
use native.Mathlib.Omega.{arith}
use lib.Dec.{T, lit<}
use lib.Pow.{pow_pos}
use lib.Ieee.{Float, fin, binary64, up, down, of_int, le, is_nan}
use lib.Ieee.Fits.{down_pos}
use lib.Ieee.Exact.{HasValue}
use lib.Ieee.Order.{le_of_values}
use Rattle.paths.specs.Limits.{milliseconds_most}
use Rattle.paths.specs.Update.{zero64, millis}
use Rattle.path_laws.specs.Bounded.{InRange, Bounded}
use Rattle.path_laws.proofs.Within.{within, whole_exact}
use Rattle.path_laws.proofs.Updates.{Timed}
use Rattle.path_laws.proofs.Run.{run_from_held}

is_true : (b : Bool) → T b → b ≡ true
is_true true t = refl
is_true false t = absurd t

-- 60,000 as a float is 60,000
most_exact : HasValue (millis milliseconds_most) false milliseconds_most 1
unfolding of_int
most_exact = whole_exact binary64 milliseconds_most (lit< tt)

pub in_range : {x : Float} → Timed x → InRange x
unfolding is_nan
in_range (within {m = m} {e = e} h) =
    let x = fin false m e in
    let most = millis milliseconds_most in
    let a = m * up e in
    let d = down_pos e in
    record {
      number = refl;
      least =
          is_true (le zero64 x)
          (le_of_values zero64 x 0 1 a (down e) (pow_pos 0) d (refl, refl) (refl, refl) (omega arith));
      most =
          is_true (le x most)
          (le_of_values x most a (down e) milliseconds_most 1 d (pow_pos 0) (refl, refl) most_exact
          (le_trans (le_of_eq (mul-one a)) h));
    }

pub bounded : Bounded
bounded n s cs k h =
    let kept = (run_from_held n s cs h).path k in
    record { smoothed = in_range kept.smoothed; spread = in_range kept.spread }
