-- The chosen path has the least smoothed time of those that qualify, and the lowest ordinal on a tie; each answer of
-- `choice` is given exactly where it is due. Assumes nothing.
use Prim.Native.Nat.{ℕ, zero, suc, ◌≤◌, ◌<◌}
use mathlib.Core.Path.{◌≡◌, refl, sym, ◌∙◌, ap, subst}
use mathlib.Core.Bool.{Bool, true, false, cond, not, true≢false}
use native.Mathlib.Omega.{arith}
use borrow.Author.Tests.{not-true, ltb-true, ltb-false, eqb-true, eqb-false}
use lib.Dec.{ltb, eqb}
use lib.Ieee.{Float, lt, le, is_nan}
use Rattle.octets.specs.declared.number.Number.TheVariants.{Done, NoSuchPath, NoPathQualifies}
use Rattle.octets.specs.Numbers.{number_of}
use Rattle.octets.proofs.Small.{both}
use Rattle.paths.specs.Limits.{paths_most}
use Rattle.paths.specs.Calls.{Paths}
use Rattle.paths.specs.Choice.{is_round_trip, qualifies, Best, better_of, best_of, told, pick, choice}
use Rattle.paths.specs.declared.path.Path.{Path}
use Rattle.path_laws.specs.Chosen.{IsChosen, NoneQualifies, Chooses}
use Rattle.path_laws.proofs.FloatOrder.{lt_cotrans, not_lt_le, le_not_lt, lt_le, le_itself}

-- who qualifies is no NaN
no_nan : (p : Path) → qualifies p ≡ true → is_nan p.smoothed ≡ false
no_nan p q = not-true (is_nan p.smoothed) (both (is_round_trip p.last) (not (is_nan p.smoothed)) q).1

upto : (P : ℕ → Type 0) (n : ℕ) → ((j : ℕ) → j < n → P j) → P n → (j : ℕ) → j < suc n → P j
upto P n h k j l = go (eqb j n) refl
  where
    go : (b : Bool) → eqb j n ≡ b → P j
    go true e = subst P (sym (eqb-true j n e)) k
    go false e = h j (omega (arith, eqb-false j n e))

not_better : (b : Best) (k : ℕ) (x : Float) → b.found ≡ true → lt x b.smoothed ≡ false → better_of true b k x ≡ b
not_better b k x f l = rw (f, l)

-- ---- what the best of the first n is
module _ (path : ℕ → Path) where
  abbrev time : ℕ → Float
  time k = (path k).smoothed

  abbrev first : ℕ → Paths
  first n = record { count = n; path = path }

  data Seen (n : ℕ) (b : Best) : Type 0 where
    nothing : b.found ≡ false → NoneQualifies (first n) → Seen n b
    something : b.found ≡ true → IsChosen (first n) b.ordinal → b.smoothed ≡ time b.ordinal → Seen n b

  -- the best so far stays: path n does not qualify, or is not below it
  stays : (n k : ℕ) → IsChosen (first n) k → (qualifies (path n) ≡ true → le (time k) (time n) ≡ true)
      → IsChosen (first (suc n)) k
  stays n k i h =
      let w = i.within in
      record {
        within = omega arith;
        qualified = i.qualified;
        least = upto (λ j. qualifies (path j) ≡ true → le (time k) (time j) ≡ true) n i.least h;
        lowest = i.lowest;
      }

  -- path n is the best of n + 1: those before it that qualify are above it
  takes : (n : ℕ) → qualifies (path n) ≡ true
      → ((j : ℕ) → j < n → qualifies (path j) ≡ true → lt (time n) (time j) ≡ true) → IsChosen (first (suc n)) n
  takes n q h =
      record {
        within = omega arith;
        qualified = q;
        least =
            upto (λ j. qualifies (path j) ≡ true → le (time n) (time j) ≡ true) n
            (λ j l r. lt_le (time n) (time j) (h j l r)) (λ r. le_itself (time n) (no_nan (path n) r));
        lowest = h;
      }

  step : (n : ℕ) (b : Best) → Seen n b → Seen (suc n) (better_of (qualifies (path n)) b n (time n))
  step n b h = go (qualifies (path n)) refl h
    where
      judged : b.found ≡ true → IsChosen (first n) b.ordinal → b.smoothed ≡ time b.ordinal
          → qualifies (path n) ≡ true → (t : Bool) → lt (time n) b.smoothed ≡ t
          → Seen (suc n) (better_of true b n (time n))
      judged f i v q true l =
          rw (f, l)
          (something refl
          (takes n q
          (λ j m r.
          lt_cotrans (time n) (time j) (time b.ordinal) (no_nan (path j) r) (rw v at l) (le_not_lt (time b.ordinal) (time j) (i.least j m r))))
          refl)
      judged f i v q false l =
          let best-no-nan = no_nan (path b.ordinal) i.qualified in
          rw (not_better b n (time n) f l)
          (something f
          (stays n b.ordinal i
          (λ r. not_lt_le (time b.ordinal) (time n) best-no-nan (no_nan (path n) r) (rw v at l))) v)

      go : (q : Bool) → qualifies (path n) ≡ q → Seen n b → Seen (suc n) (better_of q b n (time n))
      go false q (nothing f a) = nothing f (upto (λ j. qualifies (path j) ≡ false) n a q)
      go false q (something f i v) = something f (stays n b.ordinal i (λ r. absurd (true≢false (sym r ∙ q)))) v
      go true q (nothing f a) =
          rw f (something refl (takes n q (λ j l r. absurd (true≢false (sym r ∙ a j l)))) refl)
      go true q (something f i v) = judged f i v q (lt (time n) b.smoothed) refl

  seen : (n : ℕ) → Seen n (best_of path n)
  unfolding best_of
  seen zero = nothing refl (λ j l. absurd (omega arith))
  seen (suc n) = step n (best_of path n) (seen n)

-- no two paths meet what it is to be chosen
one : (s : Paths) (k l : ℕ) → IsChosen s k → IsChosen s l → k < l → ⊥
one s k l i j h =
    let below = j.lowest k h i.qualified in
    true≢false (sym below ∙ le_not_lt (s.path k).smoothed (s.path l).smoothed (i.least l j.within j.qualified))

only : (s : Paths) (k l : ℕ) → IsChosen s k → IsChosen s l → k ≡ l
only s k l i j = go (ltb k l) refl (ltb l k) refl
  where
    go : (a : Bool) → ltb k l ≡ a → (b : Bool) → ltb l k ≡ b → k ≡ l
    go true e b f = absurd (one s k l i j (ltb-true k l e))
    go false e true f = absurd (one s l k j i (ltb-true l k f))
    go false e false f = omega (arith, ltb-false k l e, ltb-false l k f)

-- ---- the answers
module _ (s : Paths) where
  over_chooses : paths_most < s.count → Chooses s (told (number_of NoSuchPath) 0)
  over_chooses o =
      record {
        chosen = λ e. absurd (omega arith);
        chosen_told = λ k h i. absurd (omega arith);
        none = λ e. absurd (omega arith);
        none_told = λ h n. absurd (omega arith);
        over = λ e. o;
        over_told = λ h. refl;
      }

  none_chooses : s.count ≤ paths_most → NoneQualifies s → Chooses s (told (number_of NoPathQualifies) 0)
  none_chooses h n =
      record {
        chosen = λ e. absurd (omega arith);
        chosen_told = λ k _ i. absurd (true≢false (sym i.qualified ∙ n k i.within));
        none = λ e. (h, n);
        none_told = λ _ _. refl;
        over = λ e. absurd (omega arith);
        over_told = λ o. absurd (omega arith);
      }

  one_chooses : (k : ℕ) → s.count ≤ paths_most → IsChosen s k → Chooses s (told (number_of Done) k)
  one_chooses k h i =
      record {
        chosen = λ e. (h, i);
        chosen_told = λ l _ j. ap (told (number_of Done)) (only s k l i j);
        none = λ e. absurd (omega arith);
        none_told = λ _ n. absurd (true≢false (sym i.qualified ∙ n k i.within));
        over = λ e. absurd (omega arith);
        over_told = λ o. absurd (omega arith);
      }

  pub chooses : Chooses s (choice s)
  chooses = go (ltb paths_most s.count) refl (best_of s.path s.count) (seen s.path s.count)
    where
      go : (over : Bool) → ltb paths_most s.count ≡ over → (b : Best) → Seen s.path s.count b
          → Chooses s (cond over (told (number_of NoSuchPath) 0) (pick b.found b.ordinal))
      go true e b h = over_chooses (ltb-true paths_most s.count e)
      go false e b (nothing f n) = rw f (none_chooses (ltb-false paths_most s.count e) n)
      go false e b (something f i v) = rw f (one_chooses b.ordinal (ltb-false paths_most s.count e) i)
