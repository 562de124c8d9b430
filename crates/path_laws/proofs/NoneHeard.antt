-- From a start on 52 is told exactly where no path was last heard with a round trip: no NaN keeps one from qualifying.
-- Assumes nothing.
use Prim.Native.Nat.{ℕ, ◌≤◌, ◌<◌}
use mathlib.Core.Path.{◌≡◌, refl, sym, ◌∙◌}
use mathlib.Core.Bool.{Bool, true, false, cond, ◌&&◌}
use native.Mathlib.Omega.{arith}
use borrow.Author.Tests.{le-ltb}
use Rattle.octets.specs.declared.number.Number.TheVariants.{NoPathQualifies}
use Rattle.octets.specs.Numbers.{number_of}
use Rattle.paths.specs.Limits.{paths_most}
use Rattle.paths.specs.Calls.{Paths}
use Rattle.paths.specs.Choice.{is_round_trip, qualifies, best_of, choice}
use Rattle.paths.specs.declared.path.Path.{Path}
use Rattle.path_laws.specs.Bounded.{run_from, TellsSilent, NoneHeard}
use Rattle.path_laws.proofs.Updates.{Kept}
use Rattle.path_laws.proofs.Run.{run_from_held}
use Rattle.path_laws.proofs.Bounded.{in_range}
use Rattle.path_laws.proofs.Found.{none_qualifies, none_found}

-- with no NaN
heard : {p : Path} → Kept p → qualifies p ≡ is_round_trip p.last
heard {p} k = rw (in_range k.smoothed).number (go (is_round_trip p.last))
  where
    go : (b : Bool) → b && true ≡ b
    go true = refl
    go false = refl

-- at a count that is no more than 8 it turns on whether a best one is found
number_told : (s : Paths) → s.count ≤ paths_most → (found : Bool) → (best_of s.path s.count).found ≡ found
    → (choice s).number ≡ cond found 0 (number_of NoPathQualifies)
number_told s h true e = rw (le-ltb paths_most s.count h, e)
number_told s h false e = rw (le-ltb paths_most s.count h, e)

not_found : (s : Paths) → s.count ≤ paths_most → (choice s).number ≡ number_of NoPathQualifies
    → (best_of s.path s.count).found ≡ false
not_found s h e = go (best_of s.path s.count).found (sym (number_told s h _ refl) ∙ e)
  where
    go : (found : Bool) → cond found 0 (number_of NoPathQualifies) ≡ number_of NoPathQualifies → found ≡ false
    go true e = absurd (omega arith)
    go false e = refl

-- of those that are counted: places after them may hold anything
pub tells_silent : (s : Paths) → s.count ≤ paths_most → ((j : ℕ) → j < s.count → Kept (s.path j)) → TellsSilent s
tells_silent s few kept =
    record {
      count = few;
      silent =
          λ e j below.
          sym (heard (kept j below)) ∙ none_qualifies s.path s.count (not_found s few e) j below;
      told =
          λ none.
          number_told s few false
          (none_found s.path s.count (λ j below. heard (kept j below) ∙ none j below));
    }

pub none_heard_lem : NoneHeard
none_heard_lem n s cs h =
    let held = run_from_held n s cs h in
    tells_silent (run_from n s cs) held.count (λ j below. held.path j)
