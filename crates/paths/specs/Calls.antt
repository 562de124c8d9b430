-- Trusted. The calls that change paths (02, E10), with what they are refused with.
--
--   Paths           so many of them, and each by its ordinal
--   Answer          a call's number and what it leaves
--   unless_refused   what a call makes of the state, or the state as it was with the number of the first check that fails
--   start_checks     what a start is refused with; event_checks: a sample or a loss, by its path (`path_check`) and by its
--                   milliseconds (`milliseconds_check`)
--   started         a start with so many paths; sampled, lost: a round trip or a loss on one of them
use Rattle.std.specs.Prelude.{ℕ, List, [], ◌∷◌, cond, ◌||◌, eqb, ltb, leb}
use Rattle.octets.specs.declared.number.Number.TheVariants.{NoSuchPath, TooManyMilliseconds}
use Rattle.octets.specs.Checks.{Check, ◌gives◌, first_failed}
use Rattle.paths.specs.Limits.{paths_most, milliseconds_most}
use Rattle.paths.specs.Update.{new_path, sampled_path, lost_path}
use Rattle.paths.specs.declared.path.Path.{Path}

-- "ordinals from 0"; those from `count` on name no path
pub record Paths : Type 0 where
  pub count : ℕ
  pub path : ℕ → Path

pub record Answer (S : Type 0) : Type 0 where
  pub number : ℕ
  pub after : S

abbrev pub answer : {S : Type 0} → ℕ → S → Answer S
answer number after = record { number = number; after = after }

-- "all change nothing"
abbrev pub unless_refused : {S : Type 0} → List Check → S → S → Answer S
unless_refused checks changed s =
    let number = first_failed checks in
    answer number (cond (eqb number 0) changed s)

-- "number given first"; "50 ... over 8"
abbrev pub start_checks : ℕ → List Check
start_checks count = ltb paths_most count gives NoSuchPath ∷ []

-- "50 no such road or over 8, 51 sample or wait too large"
abbrev pub path_check : ℕ → ℕ → Check
path_check count ordinal = (ltb paths_most count || leb count ordinal) gives NoSuchPath

abbrev pub milliseconds_check : ℕ → Check
milliseconds_check milliseconds = ltb milliseconds_most milliseconds gives TooManyMilliseconds

abbrev pub event_checks : ℕ → ℕ → ℕ → List Check
event_checks count ordinal milliseconds = path_check count ordinal ∷ milliseconds_check milliseconds ∷ []

abbrev pub started : ℕ → Paths → Answer Paths
started count s = unless_refused (start_checks count) (record { count = count; path = λ k. new_path }) s

-- one path is another, and all others stay
abbrev pub set_path : Paths → ℕ → Path → Paths
set_path s ordinal p = record { count = s.count; path = λ k. cond (eqb k ordinal) p (s.path k) }

abbrev pub sampled : Paths → ℕ → ℕ → Answer Paths
sampled s ordinal r =
    unless_refused (event_checks s.count ordinal r) (set_path s ordinal (sampled_path (s.path ordinal) r)) s

abbrev pub lost : Paths → ℕ → ℕ → Answer Paths
lost s ordinal waited =
    unless_refused (event_checks s.count ordinal waited) (set_path s ordinal (lost_path (s.path ordinal) waited)) s
