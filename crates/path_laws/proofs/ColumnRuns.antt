-- What calls leave of columns stands for what they leave of the paths, so the laws of paths are laws of columns.
-- Assumes nothing.
use Prim.Native.Nat.{ℕ, ◌≤◌}
use mathlib.Core.List.{List, [], ◌∷◌}
use native.Mathlib.Nat.{le_trans, le_of_eq}
use native.Mathlib.Omega.{arith}
use borrow.Author.Tests.{le-ltb}
use Rattle.paths.specs.Limits.{paths_most}
use Rattle.paths.specs.Calls.{Paths, started}
use Rattle.paths.specs.Columns.{Columns, paths_of, started_columns}
use Rattle.path_laws.specs.Agree.{StandsFor}
use Rattle.path_laws.specs.Bounded.{Call, start, sample, loss, step, run, run_from}
use Rattle.path_laws.specs.ColumnRuns.{step_columns, run_columns, run_columns_from, BoundedColumns, NoneHeardColumns}
use Rattle.path_laws.proofs.Run.{run_from_held}
use Rattle.path_laws.proofs.Bounded.{bounded}
use Rattle.path_laws.proofs.NoneHeard.{tells_silent}
use Rattle.path_laws.proofs.Agree.{new_stands, calls_agree}

step_stands : (call : Call) (c : Columns) (s : Paths) → StandsFor c s → StandsFor (step_columns call c) (step call s)
step_stands (start n) c s h = ((calls_agree c s h).start n).after
step_stands (sample ordinal r) c s h = ((calls_agree c s h).sample ordinal r).after
step_stands (loss ordinal waited) c s h = ((calls_agree c s h).loss ordinal waited).after

run_stands : (cs : List Call) (c : Columns) (s : Paths) → StandsFor c s → StandsFor (run_columns cs c) (run cs s)
run_stands [] c s h = h
run_stands (call ∷ cs) c s h = run_stands cs (step_columns call c) (step call s) (step_stands call c s h)

-- whatever was there before the start
started_stands : (n : ℕ) (c : Columns) (s : Paths) → n ≤ paths_most
    → StandsFor (started_columns n c).after (started n s).after
unfolding started_columns
started_stands n c s h = rw (le-ltb paths_most n h) (new_stands n)

run_from_stands : (n : ℕ) (c : Columns) (cs : List Call) → n ≤ paths_most
    → StandsFor (run_columns_from n c cs) (run_from n (paths_of c) cs)
run_from_stands n c cs h =
    run_stands cs (started_columns n c).after (started n (paths_of c)).after (started_stands n c (paths_of c) h)

pub bounded_columns : BoundedColumns
bounded_columns n c cs k h inside = rw ((run_from_stands n c cs h).path k inside) (bounded n (paths_of c) cs k h)

pub none_heard_columns : NoneHeardColumns
none_heard_columns n c cs h =
    let stands = run_from_stands n c cs h in
    let held = run_from_held n (paths_of c) cs h in
    let few = le_trans (le_of_eq stands.count) held.count in
    tells_silent (paths_of (run_columns_from n c cs)) few
    (λ j below. rw (stands.path j (omega arith)) (held.path j))
