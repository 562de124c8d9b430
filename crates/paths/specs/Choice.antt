-- Trusted. The path that is chosen (02, E10: "Chosen is the least smoothed time among roads last heard with a round trip,
-- lowest ordinal on a tie; NaN doesn't qualify"), as it is computed; `path_laws/specs/Chosen.antt` has what it means.
--
--   qualifies   whether a path may be chosen
--   best_of      the best of the first paths, looked at one after the other
--   choice      what is told: a number and, with 0, the chosen path's ordinal
use Rattle.std.specs.Prelude.{ℕ, zero, suc, Bool, true, false, cond, not, ◌&&◌, ◌||◌, ltb, Float}
use Rattle.std.specs.Float.Ieee.{lt, is_nan}
use Rattle.octets.specs.declared.number.Number.TheVariants.{Done, NoSuchPath, NoPathQualifies}
use Rattle.octets.specs.Numbers.{number_of}
use Rattle.paths.specs.Limits.{paths_most}
use Rattle.paths.specs.Update.{zero64}
use Rattle.paths.specs.Calls.{Paths}
use Rattle.paths.specs.declared.path.LastEvent.{LastEvent}
use Rattle.paths.specs.declared.path.LastEvent.TheVariants.{Nothing, RoundTrip, Loss}
use Rattle.paths.specs.declared.path.Path.{Path}
use Rattle.paths.specs.declared.choice.PathChoice.{PathChoice}

-- "last heard with a round trip"
abbrev pub is_round_trip : LastEvent → Bool
is_round_trip Nothing = false
is_round_trip (RoundTrip x) = true
is_round_trip (Loss x) = false

-- "NaN doesn't qualify"; an infinity does
abbrev pub qualifies : Path → Bool
qualifies p = is_round_trip p.last && not (is_nan p.smoothed)

-- the best of those looked at: whether there is one, its ordinal and its smoothed time
pub record Best : Type 0 where
  pub found : Bool
  pub ordinal : ℕ
  pub smoothed : Float

abbrev pub best : Bool → ℕ → Float → Best
best found k x = record { found = found; ordinal = k; smoothed = x }

-- "the least ..., lowest ordinal on a tie": a later one takes the place of the best so far only if it is less
abbrev pub is_better : Bool → Bool → Float → Float → Bool
is_better qualified found least x = qualified && (not found || lt x least)

abbrev pub better_of : Bool → Best → ℕ → Float → Best
better_of qualified b k x = cond (is_better qualified b.found b.smoothed x) (best true k x) b

unfoldable pub best_of : (ℕ → Path) → ℕ → Best
best_of path zero = best false 0 zero64
best_of path (suc k) = better_of (qualifies (path k)) (best_of path k) k (path k).smoothed

abbrev pub told : ℕ → ℕ → PathChoice
told number ordinal = record { number = number; ordinal = ordinal }

-- "52 no road qualifies"
abbrev pub pick : Bool → ℕ → PathChoice
pick found ordinal = cond found (told (number_of Done) ordinal) (told (number_of NoPathQualifies) 0)

-- "50 ... over 8"
abbrev pub choice : Paths → PathChoice
choice s =
    let b = best_of s.path s.count in
    cond (ltb paths_most s.count) (told (number_of NoSuchPath) 0) (pick b.found b.ordinal)
