-- The best of the first paths is found exactly if one of them qualifies. Assumes nothing.
use Prim.Native.Nat.{ℕ, zero, suc, ◌<◌}
use mathlib.Core.Path.{◌≡◌, refl, sym, ◌∙◌}
use mathlib.Core.Logic.{inl, inr}
use mathlib.Core.Bool.{Bool, true, false, cond, not, ◌&&◌, ◌||◌}
use native.Mathlib.Nat.{eq-or-lt_of_le, le_of_suc-le-suc}
use native.Mathlib.Omega.{arith}
use lib.Ieee.{Float, lt}
use Rattle.octets.proofs.Small.{neither}
use Rattle.paths.specs.Choice.{Best, qualifies, better_of, best_of}
use Rattle.paths.specs.declared.path.Path.{Path}

better_found : (q : Bool) (b : Best) (k : ℕ) (x : Float) → (better_of q b k x).found ≡ q || b.found
better_found q b k x =
    go q b.found (lt x b.smoothed) (record { found = true; ordinal = k; smoothed = x }) b refl refl
  where
    go : (q f l : Bool) (y z : Best) → y.found ≡ true → z.found ≡ f → (cond (q && (not f || l)) y z).found ≡ q || f
    go false f l y z t e = e
    go true false l y z t e = t
    go true true true y z t e = t
    go true true false y z t e = e

module _ (path : ℕ → Path) where
  found_step : (n : ℕ) → (best_of path (suc n)).found ≡ qualifies (path n) || (best_of path n).found
  unfolding best_of
  found_step n = better_found (qualifies (path n)) (best_of path n) n (path n).smoothed

  pub none_qualifies : (n : ℕ) → (best_of path n).found ≡ false → (j : ℕ) → j < n → qualifies (path j) ≡ false
  none_qualifies zero e j h = absurd (omega arith)
  none_qualifies (suc n) e j h =
      let both = neither (qualifies (path n)) (best_of path n).found (sym (found_step n) ∙ e) in
      elim (eq-or-lt_of_le (le_of_suc-le-suc h)) [
        | inl s ↦ rw s both.0
        | inr l ↦ none_qualifies n both.1 j l
      ]

  pub none_found : (n : ℕ) → ((j : ℕ) → j < n → qualifies (path j) ≡ false) → (best_of path n).found ≡ false
  none_found zero h = unfold best_of in refl
  none_found (suc n) h =
      let before = none_found n (λ j l. h j (omega arith)) in
      found_step n ∙ rw (h n (omega arith), before)
