-- Trusted. From a start on both numbers of every path stay between 0 and 60,000 milliseconds, whatever calls follow
-- (02, E10: "R and waits are whole numbers from 0 to 60,000"). So a NaN is never reached, and that no path qualifies
-- says that on none a round trip was heard last.
--
--   Call          a start, a sample or a loss, with its arguments
--   step          what a call leaves; run: what calls leave, one after the other
--   run_from       what calls leave after a start
--   InRange       a number from 0 to 60,000, and no NaN; BothInRange: both numbers of a path
--   Bounded       that both numbers of every path stay in range
--   Silent        no path was last heard with a round trip
--   TellsSilent   52 is told exactly where this is so
--   NoneHeard     that it is, from a start on
use Rattle.std.specs.Prelude.{ℕ, ◌≤◌, ◌<◌, ◌≡◌, List, [], ◌∷◌, true, false, Float}
use Rattle.std.specs.Float.Ieee.{le, is_nan}
use Rattle.octets.specs.declared.number.Number.TheVariants.{NoPathQualifies}
use Rattle.octets.specs.Numbers.{number_of}
use Rattle.paths.specs.Limits.{paths_most, milliseconds_most}
use Rattle.paths.specs.Update.{zero64, millis}
use Rattle.paths.specs.Calls.{Paths, started, sampled, lost}
use Rattle.paths.specs.Choice.{is_round_trip, choice}
use Rattle.paths.specs.declared.path.Path.{Path}

pub data Call : Type 0 where
  -- so many paths
  start : ℕ → Call
  -- an ordinal and milliseconds
  sample loss : ℕ → ℕ → Call

-- a call that is refused leaves the state as it was
abbrev pub step : Call → Paths → Paths
step (start n) s = (started n s).after
step (sample ordinal r) s = (sampled s ordinal r).after
step (loss ordinal waited) s = (lost s ordinal waited).after

abbrev pub run : List Call → Paths → Paths
run [] s = s
run (c ∷ cs) s = run cs (step c s)

abbrev pub run_from : ℕ → Paths → List Call → Paths
run_from n s cs = run cs (started n s).after

pub record InRange (x : Float) : Type 0 where
  pub number : is_nan x ≡ false
  pub least : le zero64 x ≡ true
  pub most : le x (millis milliseconds_most) ≡ true

pub record BothInRange (p : Path) : Type 0 where
  pub smoothed : InRange p.smoothed
  pub spread : InRange p.spread

-- whatever the state was before the start, and for every ordinal
abbrev pub Bounded : Type 0
Bounded =
    (n : ℕ) (s : Paths) (cs : List Call) (k : ℕ) → n ≤ paths_most → BothInRange ((run_from n s cs).path k)

abbrev pub Silent : Paths → Type 0
Silent s = (j : ℕ) → j < s.count → is_round_trip (s.path j).last ≡ false

-- "52 no road qualifies"
pub record TellsSilent (s : Paths) : Type 0 where
  pub count : s.count ≤ paths_most
  pub silent : (choice s).number ≡ number_of NoPathQualifies → Silent s
  pub told : Silent s → (choice s).number ≡ number_of NoPathQualifies

abbrev pub NoneHeard : Type 0
NoneHeard = (n : ℕ) (s : Paths) (cs : List Call) → n ≤ paths_most → TellsSilent (run_from n s cs)
