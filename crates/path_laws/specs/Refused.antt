-- Trusted. What is refused changes nothing (02, E10: "all change nothing"): of paths and of the columns that are lent.
--
--   Unchanged     an answer with another number than 0 leaves the state as it was
--   RefusedKeep   this of every call
use Rattle.std.specs.Prelude.{ℕ, ◌≡◌, false, eqb}
use Rattle.paths.specs.Calls.{Paths, Answer, started, sampled, lost}
use Rattle.paths.specs.Columns.{Columns, started_columns, sampled_columns, lost_columns}

abbrev pub Unchanged : {S : Type 0} → S → Answer S → Type 0
Unchanged s a = eqb a.number 0 ≡ false → a.after ≡ s

pub record RefusedKeep (s : Paths) (c : Columns) : Type 0 where
  pub start : (count : ℕ) → Unchanged s (started count s)
  pub sample : (k r : ℕ) → Unchanged s (sampled s k r)
  pub loss : (k waited : ℕ) → Unchanged s (lost s k waited)
  pub start_columns : (count : ℕ) → Unchanged c (started_columns count c)
  pub sample_columns : (k r : ℕ) → Unchanged c (sampled_columns c k r)
  pub loss_columns : (k waited : ℕ) → Unchanged c (lost_columns c k waited)
