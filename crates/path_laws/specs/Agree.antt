-- Trusted. Each call on the columns that a host lends is the call on the paths that they stand for.
--
--   Whole        every column has its eight places
--   StandsFor    columns stand for paths
--   SameAnswer   an answer with columns and one with paths are the same
--   CallsAgree   of columns that stand for paths: every call on them is the call on these
use Rattle.std.specs.Prelude.{ℕ, ◌<◌, ◌≡◌, length}
use Rattle.paths.specs.Limits.{paths_most}
use Rattle.paths.specs.Calls.{Paths, Answer, started, sampled, lost}
use Rattle.paths.specs.Choice.{choice}
use Rattle.paths.specs.Columns.{Columns, path_at, paths_of, started_columns, sampled_columns, lost_columns}

-- as each that is lent has by its type
pub record Whole (c : Columns) : Type 0 where
  pub event : length c.event ≡ paths_most
  pub sampled : length c.sampled ≡ paths_most
  pub milliseconds : length c.milliseconds ≡ paths_most
  pub smoothed : length c.smoothed ≡ paths_most
  pub spread : length c.spread ≡ paths_most

pub record StandsFor (c : Columns) (s : Paths) : Type 0 where
  pub whole : Whole c
  pub count : c.count ≡ s.count
  pub path : (k : ℕ) → k < paths_most → path_at c k ≡ s.path k

pub record SameAnswer (a : Answer Columns) (b : Answer Paths) : Type 0 where
  pub number : a.number ≡ b.number
  pub after : StandsFor a.after b.after

pub record CallsAgree (c : Columns) (s : Paths) : Type 0 where
  pub start : (count : ℕ) → SameAnswer (started_columns count c) (started count s)
  pub sample : (k r : ℕ) → SameAnswer (sampled_columns c k r) (sampled s k r)
  pub loss : (k waited : ℕ) → SameAnswer (lost_columns c k waited) (lost s k waited)
  pub choose : choice (paths_of c) ≡ choice s
