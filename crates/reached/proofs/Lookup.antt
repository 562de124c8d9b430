-- Where no key stands twice, what was closed is found no more.
use Prim.Native.Nat.{ℕ, ◌<◌, ◌≤◌}
use mathlib.Core.Path.{◌≡◌, sym, ap, ◌∙◌}
use mathlib.Core.List.{List}
use native.Mathlib.Omega.{arith}
use native.Mathlib.Decide.{dec_lt, ℕ_discrete}
use lib.ListN.{length, get_or, set, length-set}
use lib.Seq.{get_or-set_same, get_or-set_other}
use Rattle.octets.specs.Lists.{place_of}
use Rattle.octets.proofs.Places.{place_within, place_has}
use Rattle.reached.specs.WellFormed.{Distinct}

module _ {A : Type 0} (key : A → ℕ) (d : A) (xs : List A) (k : ℕ) (y : A) (there : place_of key k xs < length xs)
    (closed : key y ≡ 0) where
  pub finds_closed : Distinct key d xs → (k ≡ 0 → ⊥) → place_of key k (set xs (place_of key k xs) y) ≡ length xs
  finds_closed once n = go (dec_lt q (length xs))
    where
      p : ℕ
      p = place_of key k xs

      q : ℕ
      q = place_of key k (set xs p y)

      within : q ≤ length xs
      within = rw (← length-set xs p y) (place_within key k (set xs p y))

      here : q < length xs → key (get_or (set xs p y) q d) ≡ k
      here l = place_has key k (set xs p y) d (rw (length-set xs p y) l)

      not_here : q < length xs → Dec (q ≡ p) → ⊥
      not_here l (yes e) = n (sym (here l) ∙ ap key (rw e (get_or-set_same xs p y d there)) ∙ closed)
      not_here l (no e) =
          let old = sym (ap key (get_or-set_other xs p q y d e)) ∙ here l in
          e (once q p l there (old ∙ sym (place_has key k xs d there)) (λ z. n (sym old ∙ z)))

      go : Dec (q < length xs) → q ≡ length xs
      go (yes l) = absurd (not_here l (ℕ_discrete q p))
      go (no l) = omega (arith, within)
