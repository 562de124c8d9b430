-- Trusted. What it is to be chosen (02, E10: "Chosen is the least smoothed time among roads last heard with a round
-- trip, lowest ordinal on a tie"), said without a procedure.
--
--   IsChosen        a path is the chosen one
--   NoneQualifies   there is none
--   Chooses         what is told of paths where each answer is given exactly where it is due, as `choice` is
use Rattle.std.specs.Prelude.{ℕ, ◌≤◌, ◌<◌, ◌≡◌, true, false}
use Rattle.std.specs.Float.Ieee.{lt, le}
use Rattle.octets.specs.declared.number.Number.TheVariants.{Done, NoSuchPath, NoPathQualifies}
use Rattle.octets.specs.Numbers.{number_of}
use Rattle.paths.specs.Limits.{paths_most}
use Rattle.paths.specs.Calls.{Paths}
use Rattle.paths.specs.Choice.{qualifies, told}
use Rattle.paths.specs.declared.choice.PathChoice.{PathChoice}

pub record IsChosen (s : Paths) (k : ℕ) : Type 0 where
  pub within : k < s.count
  pub qualified : qualifies (s.path k) ≡ true
  -- "the least smoothed time among roads last heard with a round trip"
  pub least : (j : ℕ) → j < s.count → qualifies (s.path j) ≡ true
      → le (s.path k).smoothed (s.path j).smoothed ≡ true
  -- "lowest ordinal on a tie"
  pub lowest : (j : ℕ) → j < k → qualifies (s.path j) ≡ true
      → lt (s.path k).smoothed (s.path j).smoothed ≡ true

abbrev pub NoneQualifies : Paths → Type 0
NoneQualifies s = (j : ℕ) → j < s.count → qualifies (s.path j) ≡ false

-- what is told of paths, each answer exactly where it is due
pub record Chooses (s : Paths) (c : PathChoice) : Type 0 where
  pub chosen : c.number ≡ number_of Done → (s.count ≤ paths_most) × IsChosen s c.ordinal
  pub chosen_told : (k : ℕ) → s.count ≤ paths_most → IsChosen s k → c ≡ told (number_of Done) k
  pub none : c.number ≡ number_of NoPathQualifies → (s.count ≤ paths_most) × NoneQualifies s
  pub none_told : s.count ≤ paths_most → NoneQualifies s → c ≡ told (number_of NoPathQualifies) 0
  pub over : c.number ≡ number_of NoSuchPath → paths_most < s.count
  pub over_told : paths_most < s.count → c ≡ told (number_of NoSuchPath) 0
