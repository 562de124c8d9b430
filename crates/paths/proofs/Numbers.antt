-- A float that is a number equals itself, and a NaN does not. Assumes nothing.
use Prim.Native.Nat.{◌*◌}
use mathlib.Core.Path.{◌≡◌, refl}
use mathlib.Core.Bool.{true, false, not}
use borrow.Author.Tests.{eq-eqb}
use lib.Ieee.{Float, nan, inf, fin, eq, is_nan, up, down}

pub equals_itself : (x : Float) → eq x x ≡ not (is_nan x)
unfolding eq is_nan
equals_itself nan = refl
equals_itself (inf true) = refl
equals_itself (inf false) = refl
equals_itself (fin true m e) = rw (eq-eqb (m * up e * down e) _ refl)
equals_itself (fin false m e) = rw (eq-eqb (m * up e * down e) _ refl)
