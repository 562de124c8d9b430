-- Lists whose elements are all the same.
use Rattle.std.proofs.Common.{◌≡◌, refl, ap, ◌∙◌, ℕ, zero, suc, ◌<◌, List, [], ◌∷◌, length, get_or, arith}
use Rattle.std.proofs.Math.ListN.{replicate}
use Rattle.std.specs.Array.{AllOfLen}

-- a list of n elements that are all d
module _ {A : Type 0} (P : A → Type 0) (d : A) (one : (x : A) → P x → x ≡ d) where
  all_are : (n : ℕ) (xs : List A) → length xs ≡ n → ((i : ℕ) → i < n → P (get_or xs i d)) → xs ≡ replicate n d
  all_are zero [] l h = refl
  all_are zero (x ∷ xs) l h = absurd (omega arith)
  all_are (suc n) [] l h = absurd (omega arith)
  all_are (suc n) (x ∷ xs) l h =
      ap (λ (y : A). y ∷ xs) (one x (h 0 (omega arith)))
      ∙ ap (λ (ys : List A). d ∷ ys) (all_are n xs (omega arith) (λ i k. h (suc i) (omega arith)))

  pub alike : (n : ℕ) (xs : List A) → AllOfLen P xs n → xs ≡ replicate n d
  alike n xs a = all_are n xs a.long (λ i k. a.at i d k)

abbrev pub Zero : ℕ → Type 0
Zero x = x ≡ 0

pub zeros : (n : ℕ) (xs : List ℕ) → AllOfLen Zero xs n → xs ≡ replicate n 0
zeros n xs a = alike Zero 0 (λ x e. e) n xs a
