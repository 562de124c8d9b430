-- Inner. The best path so far as the code holds it, and a call's number and path as it passes them on.
--
--   is_quicker    whether a smoothed round trip takes the place of the best so far, if there is one
--   as_best       the best so far, by its ordinal and its smoothed round trip, as `Choice.antt` has it
--   choice_told   what is told of a choice
use Rattle.std.specs.Prelude.{ℕ, Bool, true, false, not, ◌&&◌, Float, Option, None, Some, Result, Ok, Err}
use Rattle.std.specs.Float.Ieee.{lt, is_nan}
use Rattle.octets.specs.declared.number.Number.{Number}
use Rattle.octets.specs.declared.number.Number.TheVariants.{Done}
use Rattle.octets.specs.Numbers.{number_of}
use Rattle.paths.specs.Update.{zero64}
use Rattle.paths.specs.Choice.{Best, best, told}
use Rattle.paths.specs.declared.choice.PathChoice.{PathChoice}

abbrev pub is_quicker : Option (ℕ × Float) → Float → Bool
is_quicker None x = not (is_nan x)
is_quicker (Some b) x = not (is_nan x) && lt x b.1

abbrev pub as_best : Option (ℕ × Float) → Best
as_best None = best false 0 zero64
as_best (Some b) = best true b.0 b.1

abbrev pub choice_told : Result ℕ Number → PathChoice
choice_told (Ok ordinal) = told (number_of Done) ordinal
choice_told (Err n) = told (number_of n) 0
