-- Each call on columns is the call on the paths that they stand for. Assumes nothing.
use Prim.Native.Nat.{ℕ, zero, suc, ◌<◌}
use mathlib.Core.Path.{◌≡◌, refl, ap, ◌∙◌}
use mathlib.Core.List.{List}
use mathlib.Core.Bool.{Bool, true, false, cond}
use borrow.Author.Rules.{below_length}
use native.Mathlib.Omega.{arith}
use borrow.Author.Tests.{eqb-true, eqb-false, ltb-false}
use lib.Dec.{eqb, ltb}
use lib.ListN.{length-set, get_or-replicate}
use lib.Seq.{get_or-set_same, get_or-set_other}
use lib.Ieee.{Float, nan}
use Rattle.octets.specs.declared.number.Number.TheVariants.{NoSuchPath}
use Rattle.octets.specs.Numbers.{number_of}
use Rattle.octets.specs.Checks.{Check, first_failed}
use Rattle.octets.proofs.Small.{chosen}
use Rattle.paths.specs.Limits.{paths_most}
use Rattle.paths.specs.Update.{zero64, millis, new_path, first_path, later_path, sampled_path, lost_path}
use Rattle.paths.specs.Calls.{Paths, unless_refused, start_checks, event_checks, set_path}
use Rattle.paths.specs.Choice.{best_of, told, pick, choice}
use Rattle.paths.specs.Columns.{Columns, path_at, paths_of, hear_at, store_at, none_heard}
use Rattle.paths.specs.Columns.{started_columns, sampled_columns, lost_columns}
use Rattle.paths.specs.declared.path.Path.{Path}
use Rattle.paths.proofs.Laws.{in_place}
use Rattle.path_laws.specs.Agree.{Whole, StandsFor, SameAnswer, CallsAgree}

pub stands_for_own : (c : Columns) → Whole c → StandsFor c (paths_of c)
stands_for_own c w = record { whole = w; count = refl; path = λ k inside. refl }

pub new_stands : (n : ℕ) → StandsFor (none_heard n) (record { count = n; path = λ k. new_path })
new_stands n =
    record {
      whole = record { event = refl; sampled = refl; milliseconds = refl; smoothed = refl; spread = refl };
      count = refl;
      path =
          λ k inside.
          rw (get_or-replicate {A = ℕ} paths_most k 0 0 inside, get_or-replicate paths_most k zero64 nan inside);
    }

-- ---- one path that is changed, where there is a place for it
module _ (c : Columns) (s : Paths) (st : StandsFor c s) (ordinal : ℕ) (inside : ordinal < paths_most) where
  -- `changed` has f of the path at the ordinal, and elsewhere what c has
  set-stands : {changed : Columns} (f : Path → Path) → Whole changed → changed.count ≡ c.count
      → path_at changed ordinal ≡ f (path_at c ordinal)
      → ((k : ℕ) → (k ≡ ordinal → ⊥) → path_at changed k ≡ path_at c k)
      → StandsFor changed (set_path s ordinal (f (s.path ordinal)))
  set-stands {changed} f w count there elsewhere =
      record {
        whole = w;
        count = count ∙ st.count;
        path =
            λ k below.
            chosen (λ (p : Path). path_at changed k ≡ p) (eqb k ordinal)
            (λ e. ap (path_at changed) (eqb-true k ordinal e) ∙ there ∙ ap f (st.path ordinal inside))
            (λ e. elsewhere k (eqb-false k ordinal e) ∙ st.path k below);
      }

  -- a path with a round trip is read as it was stored
  stored : (later : Bool) (r : Float) → let p = cond later (later_path (path_at c ordinal) r) (first_path r) in
      path_at (store_at c ordinal p) ordinal ≡ p
  stored true r = search (get_or-set_same, below_length)
  stored false r = search (get_or-set_same, below_length)

  sample_stands : (r : ℕ)
      → StandsFor (store_at c ordinal (sampled_path (path_at c ordinal) r))
      (set_path s ordinal (sampled_path (s.path ordinal) r))
  sample_stands r =
      set-stands (λ p. sampled_path p r) (search length-set) refl (stored (path_at c ordinal).sampled (millis r))
      (λ k other. simp get_or-set_other)

  loss_stands : (waited : ℕ)
      → StandsFor (hear_at c ordinal (lost_path (path_at c ordinal) waited).last)
      (set_path s ordinal (lost_path (s.path ordinal) waited))
  loss_stands waited =
      set-stands (λ p. lost_path p waited) (search length-set) refl (search (get_or-set_same, below_length))
      (λ k other. simp get_or-set_other)

-- ---- the calls
-- what is not refused changes both alike, and what is refused changes neither
same_answer : (c changed : Columns) (s t : Paths) (checks others : List Check) → first_failed checks ≡ first_failed others
    → StandsFor c s → (first_failed others ≡ 0 → StandsFor changed t)
    → SameAnswer (unless_refused checks changed c) (unless_refused others t s)
same_answer c changed s t checks others e st h =
    let number = first_failed others in
    record { number = e; after = rw e (go (eqb number 0) (λ d. h (eqb-true number 0 d))) }
  where
    go : (b : Bool) → (b ≡ true → StandsFor changed t) → StandsFor (cond b changed c) (cond b t s)
    go true h = h refl
    go false h = st

event_agrees : (c changed : Columns) (s t : Paths) (ordinal ms : ℕ) → StandsFor c s
    → (ordinal < paths_most → StandsFor changed t)
    → SameAnswer (unless_refused (event_checks c.count ordinal ms) changed c)
    (unless_refused (event_checks s.count ordinal ms) t s)
event_agrees c changed s t ordinal ms st h =
    same_answer c changed s t (event_checks c.count ordinal ms) (event_checks s.count ordinal ms)
    (ap (λ (n : ℕ). first_failed (event_checks n ordinal ms)) st.count) st
    (λ e. h (in_place s.count ordinal ms e))

-- the best of the first n goes by these alone
same_best : (f g : ℕ → Path) (n : ℕ) → ((k : ℕ) → k < n → f k ≡ g k) → best_of f n ≡ best_of g n
unfolding best_of
same_best f g zero h = refl
same_best f g (suc n) h = rw (h n (omega arith), same_best f g n (λ k l. h k (omega arith)))

same_choice : (c : Columns) (s : Paths) → StandsFor c s → choice (paths_of c) ≡ choice s
same_choice c s st = rw st.count (go (ltb paths_most s.count) refl)
  where
    go : (over : Bool) → ltb paths_most s.count ≡ over → let at = best_of (path_at c) s.count in
        let b = best_of s.path s.count in
        cond over (told (number_of NoSuchPath) 0) (pick at.found at.ordinal)
        ≡ cond over (told (number_of NoSuchPath) 0) (pick b.found b.ordinal)
    go true e = refl
    go false e =
        let few = ltb-false paths_most s.count e in
        rw (same_best (path_at c) s.path s.count (λ k l. st.path k (omega arith)))

pub calls_agree : (c : Columns) (s : Paths) → StandsFor c s → CallsAgree c s
unfolding started_columns sampled_columns lost_columns
calls_agree c s st =
    record {
      start = λ n. same_answer c _ s _ (start_checks n) (start_checks n) refl st (λ e. new_stands n);
      sample = λ k r. event_agrees c _ s _ k r st (λ inside. sample_stands c s st k inside r);
      loss = λ k waited. event_agrees c _ s _ k waited st (λ inside. loss_stands c s st k inside waited);
      choose = same_choice c s st;
    }
