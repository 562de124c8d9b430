-- The numbers of every path are from 0 to 60,000 and the paths are at most 8: after a start, and after every call on
-- such paths. Assumes nothing.
use Prim.Native.Nat.{ℕ, ◌≤◌}
use mathlib.Core.Path.{◌≡◌, refl}
use mathlib.Core.List.{List, [], ◌∷◌}
use mathlib.Core.Bool.{true}
use borrow.Author.Tests.{ltb-false, le-ltb, eqb-true}
use lib.Dec.{eqb}
use Rattle.octets.specs.Lists.{all}
use Rattle.octets.specs.Checks.{Check, first_failed}
use Rattle.octets.proofs.Small.{chosen}
use Rattle.octets.proofs.Checks.{AllPassed, refuses, all_passed}
use Rattle.paths.specs.Limits.{paths_most, milliseconds_most}
use Rattle.paths.specs.Update.{new_path, sampled_path, lost_path}
use Rattle.paths.specs.Calls.{Paths, unless_refused, started, start_checks, event_checks, set_path}
use Rattle.paths.specs.declared.path.Path.{Path}
use Rattle.path_laws.specs.Bounded.{Call, start, sample, loss, step, run, run_from}
use Rattle.path_laws.proofs.Updates.{Kept, new_kept, sampled_kept}

pub record Held (s : Paths) : Type 0 where
  pub count : s.count ≤ paths_most
  pub path : (k : ℕ) → Kept (s.path k)

-- what a call leaves is held if it was, and if all checks passing makes what it changes held
unless_refused_held : (checks : List Check) (changed s : Paths) → all refuses checks ≡ true
    → (AllPassed checks → Held changed) → Held s → Held (unless_refused checks changed s).after
unless_refused_held checks changed s a h k =
    let number = first_failed checks in
    chosen Held (eqb number 0) (λ e. h (all_passed checks a (eqb-true number 0 e))) (λ e. k)

new_held : (n : ℕ) → n ≤ paths_most → Held (record { count = n; path = λ k. new_path })
new_held n h = record { count = h; path = λ k. new_kept }

started_held : (n : ℕ) (s : Paths) → n ≤ paths_most → Held (started n s).after
started_held n s h = rw (le-ltb paths_most n h) (new_held n h)

set-held : (s : Paths) (ordinal : ℕ) (p : Path) → Held s → Kept p → Held (set_path s ordinal p)
set-held s ordinal p h k =
    record { count = h.count; path = λ j. chosen Kept (eqb j ordinal) (λ e. k) (λ e. h.path j) }

-- a sample or a loss makes such a path of one, where its milliseconds pass
event_held : (s : Paths) (ordinal ms : ℕ) (p : Path) → (ms ≤ milliseconds_most → Kept p) → Held s
    → Held (unless_refused (event_checks s.count ordinal ms) (set_path s ordinal p) s).after
event_held s ordinal ms p k h =
    unless_refused_held (event_checks s.count ordinal ms) (set_path s ordinal p) s refl
    (λ passed. set-held s ordinal p h (k (ltb-false milliseconds_most ms passed.1.0))) h

step_held : (c : Call) (s : Paths) → Held s → Held (step c s)
step_held (start n) s h =
    unless_refused_held (start_checks n) (record { count = n; path = λ k. new_path }) s refl
    (λ passed. new_held n (ltb-false paths_most n passed.0)) h
step_held (sample ordinal r) s h =
    let p = s.path ordinal in
    event_held s ordinal r (sampled_path p r) (λ fits. sampled_kept p r fits (h.path ordinal)) h
step_held (loss ordinal waited) s h =
    let k = h.path ordinal in
    event_held s ordinal waited (lost_path (s.path ordinal) waited)
    (λ fits. record { smoothed = k.smoothed; spread = k.spread }) h

run_held : (cs : List Call) (s : Paths) → Held s → Held (run cs s)
run_held [] s h = h
run_held (c ∷ cs) s h = run_held cs (step c s) (step_held c s h)

pub run_from_held : (n : ℕ) (s : Paths) (cs : List Call) → n ≤ paths_most → Held (run_from n s cs)
run_from_held n s cs h = run_held cs (started n s).after (started_held n s h)
