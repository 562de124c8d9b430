-- The loop's invariant: `best` is the best of the first paths.
use mathlib.Core.Path.{◌≡◌}
use Prim.Native.Nat.{ℕ}
use mathlib.Core.List.{List}
use lib.Ieee.{Float}
use Rattle.paths.specs.Choice.{best_of}
use Rattle.paths.specs.Best.{as_best}
use Rattle.paths.specs.Columns.{columns, path_at}
use Rattle.host_paths.proofs.quickest.Given as goal

abbrev pub invariant-loop-ordinal : goal.invariant-loop-ordinal
invariant-loop-ordinal l =
    (sampled : List ℕ) (milliseconds spread : List Float)
    → as_best l.best ≡ best_of (path_at (columns l.count l.event sampled milliseconds l.smoothed spread)) l.ordinal
