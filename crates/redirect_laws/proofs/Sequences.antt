-- Decisions one after the other: no sixth inside 300 seconds, and the five times kept decide as all would.
use Prim.Native.Nat.{ℕ, ◌+◌, ◌-◌, ◌≤◌, ◌<◌, min}
use mathlib.Core.Path.{◌≡◌, refl, sym, ap, ◌∙◌}
use mathlib.Core.List.{List, [], ◌∷◌, ◌++◌, append_assoc, append-nil}
use mathlib.Core.Bool.{Bool, true, false}
use native.Mathlib.Omega.{arith}
use native.Mathlib.Decide.{dec_lt}
use borrow.Author.Tests.{ltb-false, le-ltb, leb-true, leb-false, le-leb, lt-leb, eqb-true, eqb-false, eq-eqb, ne_eqb}
use lib.Dec.{eqb, leb}
use lib.ListN.{length, get_or, take, length-take, take-append-drop}
use lib.Seq.{get_or-take}
use Rattle.octets.proofs.Checks.{all_passed}
use Rattle.redirecting.specs.Limits.{redirects_most, period_seconds}
use Rattle.redirecting.specs.Times.{kept, fresh, latest, before_last, is_recent, how_many, five_recent}
use Rattle.deciding_redirects.specs.Decision.{Asked, decision_checks, decision_number, after_decision}
use Rattle.redirecting.specs.declared.times.Accepted.{Accepted}
use Rattle.redirecting.proofs.Count.{both_counted}
use Rattle.redirect_laws.specs.Sequences.{accepted_times, record_after, Rising, Spaced, Sparse}
use Rattle.redirect_laws.specs.Sequences.{NoSixth, NoSixthFromAny, Sufficient}
use Rattle.redirect_laws.proofs.Decided.{keeps, changes_none, kept_last}
use Rattle.redirect_laws.proofs.Last.{last_five, last_long, last_all, last_at, last_more, latest_last}
use Rattle.redirect_laws.proofs.Last.{last_behind, latest_behind}
use Rattle.redirect_laws.proofs.Sparse.{none_pass, one_misses, at_most, more_rising, more_spaced}

-- one that is not recent lies 300 seconds back
back : (time t : ℕ) → is_recent time t ≡ false → t + period_seconds ≤ time
unfolding is_recent
back time t e = ltb-false time (t + period_seconds) e

-- five kept times that do not refuse: one of them lies 300 seconds back
one_back : (five : List ℕ) (time : ℕ) → length five ≡ redirects_most → five_recent five time ≡ false
    → (i : ℕ) × (i < redirects_most) × (get_or five i 0 + period_seconds ≤ time)
unfolding five_recent
one_back five time long e =
    let fewer = leb-false redirects_most (how_many (is_recent time) five) e in
    let w = one_misses (is_recent time) five (omega arith) in
    (w.0, omega (arith, w.1), back time (get_or five w.0 0) w.2)

-- ---- what an acceptance says of those accepted before: x was kept at the start, h was accepted since
module _ (x h : List ℕ) (r : Accepted) (held : kept r ≡ last_five (x ++ h)) (rising : Rising h) (a : Asked)
    (e : decision_number (kept r) a ≡ 0) where
  not_refused : (before_last (kept r) a.time ≡ false) × (five_recent (kept r) a.time ≡ false)
  unfolding decision_number
  not_refused = let p = all_passed (decision_checks (kept r) a) refl e in (p.1.1.1.0, p.1.1.1.1.0)

  not_before : 0 < length h → latest h ≤ a.time
  unfolding before_last
  not_before some =
      let same : latest (kept r) ≡ latest h =
      ap latest held ∙ latest_last (x ++ h) ∙ latest_behind x h some in
      omega (arith, ltb-false a.time (latest (kept r)) not_refused.0, same)

  fifth : redirects_most ≤ length h → get_or h (length h - redirects_most) 0 + period_seconds ≤ a.time
  fifth five =
      let same : kept r ≡ last_five h = held ∙ last_behind x h five in
      let quiet : five_recent (last_five h) a.time ≡ false = rw (← same) not_refused.1 in
      let w = one_back (last_five h) a.time (omega (arith, last_long h)) quiet in
      let at = last_at h w.0 in
      let g = rising (length h - redirects_most) (length h - redirects_most + w.0) (omega arith) (omega (arith, w.1)) in
      omega (arith, w.2, at, g)

  -- the record then keeps the last five with this one
  held_more : kept (after_decision r a) ≡ last_five (x ++ (h ++ a.time ∷ []))
  held_more =
      ap kept (keeps r a e) ∙ kept_last r a.time ∙ ap (λ (l : List ℕ). last_five (l ++ a.time ∷ [])) held
      ∙ last_more (x ++ h) a.time ∙ ap last_five (append_assoc x h (a.time ∷ []))

-- ---- the whole sequence
-- `all` are those accepted, and `end` the record that is left
record Good (x all : List ℕ) (end : Accepted) : Type 0 where
  rising : Rising all
  spaced : Spaced all
  held : kept end ≡ last_five (x ++ all)

module _ (r : Accepted) (a : Asked) (xs : List Asked) where
  taken : decision_number (kept r) a ≡ 0 → accepted_times r (a ∷ xs) ≡ a.time ∷ accepted_times (after_decision r a) xs
  unfolding accepted_times
  taken e = rw (eq-eqb (decision_number (kept r) a) 0 e)

  left_out : (decision_number (kept r) a ≡ 0 → ⊥) → accepted_times r (a ∷ xs) ≡ accepted_times (after_decision r a) xs
  unfolding accepted_times
  left_out e = rw (ne_eqb (decision_number (kept r) a) 0 e)

  steps : record_after r (a ∷ xs) ≡ record_after (after_decision r a) xs
  unfolding record_after
  steps = refl

holds : (xs : List Asked) (x h : List ℕ) (r : Accepted) → kept r ≡ last_five (x ++ h) → Rising h → Spaced h
    → Good x (h ++ accepted_times r xs) (record_after r xs)
holds [] x h r held rising spaced =
    unfold accepted_times record_after in
    rw (append-nil h) (record { rising = rising; spaced = spaced; held = held })
holds (a ∷ xs) x h r held rising spaced = go (eqb (decision_number (kept r) a) 0) refl (holds xs x)
  where
    go : (b : Bool) → eqb (decision_number (kept r) a) 0 ≡ b
        → ((h : List ℕ) (r : Accepted) → kept r ≡ last_five (x ++ h) → Rising h → Spaced h
        → Good x (h ++ accepted_times r xs) (record_after r xs))
        → Good x (h ++ accepted_times r (a ∷ xs)) (record_after r (a ∷ xs))
    go true e ih =
        let z = eqb-true (decision_number (kept r) a) 0 e in
        let before = not_before x h r held rising a z in
        let back = fifth x h r held rising a z in
        let all = ih (h ++ a.time ∷ []) (after_decision r a) (held_more x h r held rising a z)
        (more_rising h a.time rising spaced before back) (more_spaced h a.time rising spaced before back) in
        rw (taken r a xs z, steps r a xs, ← append_assoc h (a.time ∷ []) (accepted_times (after_decision r a) xs)) all
    go false e ih =
        let z = eqb-false (decision_number (kept r) a) 0 e in
        rw (left_out r a xs z, steps r a xs, changes_none r a z) (ih h r held rising spaced)

from_any : (r : Accepted) (xs : List Asked) → Good (kept r) (accepted_times r xs) (record_after r xs)
from_any r xs =
    holds xs (kept r) [] r start (λ i j a l. absurd (omega arith)) (λ i j a l. absurd (omega arith))
  where
    start : kept r ≡ last_five (kept r ++ [])
    start =
        let short = length-take (min r.count redirects_most) r.times in
        rw (append-nil (kept r)) (sym (last_all (kept r) (omega (arith, short))))

sparse : {x all : List ℕ} {end : Accepted} → Good x all end → Sparse all
sparse {x} {all} {end} g =
    record { rising = g.rising; spaced = g.spaced; at_most = λ from. at_most from all g.spaced }

pub no_sixth_from_any : NoSixthFromAny
no_sixth_from_any r xs = sparse (from_any r xs)

pub no_sixth : NoSixth
no_sixth xs = no_sixth_from_any fresh xs

-- ---- the last five of all accepted times refuse as all of them do
module _ (h : List ℕ) (rising : Rising h) (time : ℕ) where
  abbrev recent : ℕ → Bool
  recent = is_recent time

  abbrev earlier : ℕ
  earlier = length h - redirects_most

  split : how_many recent (take earlier h) + how_many recent (last_five h) ≡ how_many recent h
  split = sym (both_counted recent (take earlier h) (last_five h)) ∙ ap (how_many recent) (take-append-drop earlier h)

  -- where one of the last five lies 300 seconds back, so does every earlier one
  none_earlier : redirects_most < length h → five_recent (last_five h) time ≡ false → how_many recent (take earlier h) ≡ 0
  unfolding is_recent
  none_earlier more quiet =
      let w = one_back (last_five h) time (omega (arith, last_long h)) quiet in
      none_pass recent (take earlier h) (λ i l. old w.0 w.1 w.2 i (omega (arith, length-take earlier h)))
    where
      old : (k : ℕ) → k < redirects_most → get_or (last_five h) k 0 + period_seconds ≤ time → (i : ℕ) → i < earlier
          → is_recent time (get_or (take earlier h) i 0) ≡ false
      old k l b i m =
          let g = rising i (earlier + k) (omega arith) (omega arith) in
          rw (get_or-take earlier h i 0 m)
          (le-ltb time (get_or h i 0 + period_seconds) (omega (arith, last_at h k, g)))

  same_five : five_recent (last_five h) time ≡ five_recent h time
  unfolding five_recent
  same_five = go (dec_lt redirects_most (length h)) (leb redirects_most (how_many recent (last_five h))) refl
    where
      go : Dec (redirects_most < length h) → (b : Bool) → leb redirects_most (how_many recent (last_five h)) ≡ b
          → b ≡ leb redirects_most (how_many recent h)
      go (no l) b e = sym e ∙ ap (λ (k : List ℕ). leb redirects_most (how_many recent k)) (last_all h (omega arith))
      go (yes l) true e =
          let m = leb-true redirects_most (how_many recent (last_five h)) e in
          sym (le-leb redirects_most (how_many recent h) (omega (arith, split)))
      go (yes l) false e =
          let m = leb-false redirects_most (how_many recent (last_five h)) e in
          sym (lt-leb redirects_most (how_many recent h) (omega (arith, split, none_earlier l e)))

  same_last : before_last (last_five h) time ≡ before_last h time
  unfolding before_last
  same_last = rw (latest_last h)

pub sufficient : Sufficient
unfolding decision_number
sufficient xs a =
    let g = from_any fresh xs in
    let all = accepted_times fresh xs in
    rw (g.held, same_last all g.rising a.time, same_five all g.rising a.time)
