-- Trusted. The same over columns, which is what the exported calls take: from a start on both numbers of each of the
-- eight paths stay between 0 and 60,000 milliseconds, and 52 says that on none a round trip was heard last.
--
--   step_columns        what a call leaves of columns; run_columns: what calls leave, one after the other
--   run_columns_from     what calls leave after a start
--   BoundedColumns     that both numbers of every path stay in range
--   NoneHeardColumns   that 52 is told exactly where no path was last heard with a round trip
use Rattle.std.specs.Prelude.{ℕ, ◌≤◌, ◌<◌, List, [], ◌∷◌}
use Rattle.paths.specs.Limits.{paths_most}
use Rattle.paths.specs.Columns.{Columns, path_at, paths_of, started_columns, sampled_columns, lost_columns}
use Rattle.path_laws.specs.Bounded.{Call, start, sample, loss, BothInRange, TellsSilent}

-- a call that is refused leaves the columns as they were
abbrev pub step_columns : Call → Columns → Columns
step_columns (start n) c = (started_columns n c).after
step_columns (sample ordinal r) c = (sampled_columns c ordinal r).after
step_columns (loss ordinal waited) c = (lost_columns c ordinal waited).after

abbrev pub run_columns : List Call → Columns → Columns
run_columns [] c = c
run_columns (call ∷ cs) c = run_columns cs (step_columns call c)

abbrev pub run_columns_from : ℕ → Columns → List Call → Columns
run_columns_from n c cs = run_columns cs (started_columns n c).after

-- whatever the columns held before the start, and for each of the eight places
abbrev pub BoundedColumns : Type 0
BoundedColumns =
    (n : ℕ) (c : Columns) (cs : List Call) (k : ℕ) → n ≤ paths_most → k < paths_most
    → BothInRange (path_at (run_columns_from n c cs) k)

abbrev pub NoneHeardColumns : Type 0
NoneHeardColumns =
    (n : ℕ) (c : Columns) (cs : List Call) → n ≤ paths_most → TellsSilent (paths_of (run_columns_from n c cs))
