-- Calls of any kind that go by their SPI, in another order: those of two SPIs may change places, and so may those of
-- one SPI that say so.
use Prim.Native.Nat.{ℕ}
use mathlib.Core.Path.{◌≡◌, refl, ap, ◌∙◌}
use mathlib.Core.Logic.{◌⊎◌, ⊎_elim}
use mathlib.Core.List.{List}
use mathlib.Core.Bool.{Bool, true, false}
use native.Mathlib.Decide.{ℕ_discrete}
use Rattle.order.specs.Order.{All, Order, after, answered, FreeAnswered}
use Rattle.order.proofs.Orders.{all_of}
use Rattle.order.proofs.Answers.{keeps_state, keeps_answers}
use Rattle.tables.specs.Tables.{Tables, in_use}
use Rattle.tables.specs.View.{View, view, BySpi}
use Rattle.views.proofs.BySpi.{Since, unseen_by, step_since, apart}

module _ {E A : Type 0} {spi : E → ℕ} {step : E → Tables → Tables} {answer : E → Tables → A} (b : BySpi spi step answer)
    (t : Tables) where
  -- of no common IKE SA of the starting tables
  abbrev pub Apart : E → E → Type 0
  Apart e f = (spi e ≡ spi f → ⊥) ⊎ (in_use (spi e) t ≡ false)

  pub answers_kept : {es fs : List E} → Order Apart es fs
      → (Order (FreeAnswered Apart) (answered step answer t es) (answered step answer t fs)) ×
      (after step t es ≡ after step t fs)
  answers_kept {es} o =
      keeps_answers step Apart (λ (e : E). Unit {0}) (Since t) (λ e _ s a. step_since b t e s a) answer (apart b t)
      t (λ k u. refl) (all_of (λ e. tt) es) o

  -- What an SPI's calls go by in its view, `terms`, is as at the start.
  abbrev pub Same : {T : Type 0} → (View → T) → ℕ → Tables → Type 0
  Same terms k s = terms (view k s) ≡ terms (view k t)

  -- Some SPIs are freed. `Fine` is asked of every call of the list, so that those of a freed SPI keep its terms; and
  -- `Both` of two calls of a freed SPI that change places.
  module _ {T : Type 0} (terms : View → T) (freed : ℕ → Bool) (Fine : E → Type 0) (Both : E → E → Type 0)
      (keep : (e : E) → Fine e → freed (spi e) ≡ true → (s : Tables) → Same terms (spi e) s
      → Same terms (spi e) (step e s))
      (swap : (e f : E) → Both e f → (s : Tables) → Same terms (spi e) s → step f (step e s) ≡ step e (step f s)) where
    -- what holds of the tables that are reached
    record Kept (s : Tables) : Type 0 where
      since : Since t s
      same : (k : ℕ) → freed k ≡ true → Same terms k s

    step_kept : (e : E) → Fine e → (s : Tables) → Kept s → Kept (step e s)
    step_kept e f s a = record { since = step_since b t e s a.since; same = λ k o. go k o (ℕ_discrete (spi e) k) }
      where
        go : (k : ℕ) → freed k ≡ true → Dec (spi e ≡ k) → Same terms k (step e s)
        go k o (no n) = ap terms (unseen_by b e k n s) ∙ a.same k o
        go k o (yes x) = rw (← x) (keep e f (ap freed x ∙ o) s (a.same (spi e) (ap freed x ∙ o)))

    pub tables_kept : {es fs : List E} → All Fine es
        → Order (λ (e f : E). Apart e f ⊎ ((freed (spi e) ≡ true) × Both e f)) es fs
        → after step t es ≡ after step t fs
    tables_kept a o =
        keeps_state step (λ (e f : E). Apart e f ⊎ ((freed (spi e) ≡ true) × Both e f)) Fine Kept step_kept
        (λ s i e f. ⊎_elim (λ x. (apart b t s i.since e f x).0) (λ x. swap e f x.1 s (i.same (spi e) x.0)))
        t (record { since = λ k u. refl; same = λ k o. refl }) a o
