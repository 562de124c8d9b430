-- Calls that go by their SPI: those of two SPIs do not see each other, and one of an SPI that no record has is seen by
-- none.
use Prim.Native.Nat.{ℕ}
use mathlib.Core.Path.{◌≡◌, sym, ap, ◌∙◌}
use mathlib.Core.Logic.{◌⊎◌, ⊎_elim}
use mathlib.Core.Bool.{false}
use mathlib.Core.Option.{Option, none}
use native.Mathlib.Decide.{ℕ_discrete}
use Rattle.tables.specs.Tables.{Tables, in_use}
use Rattle.tables.specs.View.{View, view, Change, stays, applied, Proper, BySpi}
use Rattle.records.specs.declared.ike.IkeRecord.{IkeRecord}
use Rattle.views.proofs.View.{place, applied_stays, unseen, place_beside, applied_swap}

-- s was reached from t: an SPI that no record of t has sees in s what it saw in t
abbrev pub Since : Tables → Tables → Type 0
Since t s = (k : ℕ) → in_use k t ≡ false → view k s ≡ view k t

module _ {E A : Type 0} {spi : E → ℕ} {step : E → Tables → Tables} {answer : E → Tables → A}
    (b : BySpi spi step answer) where
  -- what a call does on these tables
  abbrev done : E → Tables → Change
  done e t = b.does e (view (spi e) t)

  own : (e : E) (t : Tables) → Proper (view (spi e) t).entry (done e t)
  own e t = b.proper e (view (spi e) t)

  pub unseen_by : (e : E) (k : ℕ) → (spi e ≡ k → ⊥) → (t : Tables) → view k (step e t) ≡ view k t
  unseen_by e k n t = rw (b.step_is e t) (unseen (spi e) k n t (done e t) (own e t))

  pub place_by_lem : (e : E) (k : ℕ) → (spi e ≡ k → ⊥) → (k ≡ 0 → ⊥) → (t : Tables) → place k (step e t) ≡ place k t
  place_by_lem e k n named t = rw (b.step_is e t) (place_beside (spi e) k n named t (done e t) (own e t))

  -- one call after the other, by what each sees at first
  one_after : (e f : E) → (spi e ≡ spi f → ⊥) → (t : Tables)
      → step f (step e t) ≡ applied (spi f) (done f t) (applied (spi e) (done e t) t)
  one_after e f n t = b.step_is f (step e t) ∙ (rw (unseen_by e (spi f) n t, b.step_is e t))

  step_swap : (e f : E) → (spi e ≡ spi f → ⊥) → (t : Tables) → step f (step e t) ≡ step e (step f t)
  step_swap e f n t =
      one_after e f n t
      ∙ applied_swap (spi e) (spi f) n t (done e t) (done f t) (own e t) (own f t)
      ∙ sym (one_after f e (λ x. n (sym x)) t)

  answer_unseen : (e f : E) → (spi e ≡ spi f → ⊥) → (t : Tables) → answer f (step e t) ≡ answer f t
  answer_unseen e f n t = b.answer_is f (step e t) ∙ (rw (unseen_by e (spi f) n t) (sym (b.answer_is f t)))

  -- a call of an SPI that no record of t has: on all tables that are reached
  module _ (t : Tables) (e : E) (u : in_use (spi e) t ≡ false) where
    idle : (s : Tables) → Since t s → step e s ≡ s
    idle s a =
        let nobody : (view (spi e) s).entry ≡ none = ap (λ (v : View). v.entry) (a (spi e) u) ∙ (rw u) in
        b.step_is e s ∙ (rw (nothing (view (spi e) s).entry nobody (own e s)) (applied_stays (spi e) s))
      where
        nothing : (o : Option IkeRecord) → o ≡ none → Proper o (done e s) → done e s ≡ stays
        nothing o z = rw z (λ p. p)

    idle_answer : (r s : Tables) → Since t r → Since t s → answer e r ≡ answer e s
    idle_answer r s x y = b.answer_is e r ∙ (rw (x (spi e) u, ← y (spi e) u) (sym (b.answer_is e s)))

  pub step_since : (t : Tables) (e : E) (s : Tables) → Since t s → Since t (step e s)
  step_since t e s a k u = go (ℕ_discrete (spi e) k)
    where
      go : Dec (spi e ≡ k) → view k (step e s) ≡ view k t
      go (yes x) = rw (idle t e (rw x u) s a) (a k u)
      go (no n) = unseen_by e k n s ∙ a k u

  -- Calls of two SPIs, or the first of one that no record had at the start: neither sees the other, and the tables end
  -- the same.
  pub apart : (t s : Tables) → Since t s → (e f : E) → (spi e ≡ spi f → ⊥) ⊎ (in_use (spi e) t ≡ false)
      → (step f (step e s) ≡ step e (step f s)) × (answer e (step f s) ≡ answer e s) ×
      (answer f (step e s) ≡ answer f s)
  apart t s a e f =
      ⊎_elim (λ n. (step_swap e f n s, answer_unseen f e (λ x. n (sym x)) s, answer_unseen e f n s)) silent
    where
      silent : in_use (spi e) t ≡ false
          → (step f (step e s) ≡ step e (step f s)) × (answer e (step f s) ≡ answer e s) ×
          (answer f (step e s) ≡ answer f s)
      silent u =
          let later = step_since t f s a in
          let here = idle t e u s a in (
            ap (step f) here ∙ sym (idle t e u (step f s) later),
            idle_answer t e u (step f s) s later a,
            ap (answer f) here,
          )
