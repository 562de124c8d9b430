-- A list whose first i elements have been replaced by f of them: what a loop over a slice has made of it after i turns.
use Rattle.std.proofs.Common.{◌≡◌, refl, sym, ap, ◌∙◌, subst, List, [], ◌∷◌, map, ℕ, zero, suc, ◌+◌, ◌<◌, ◌≤◌, add-one, length, set, get_or, arith}
use Rattle.std.proofs.lemmas.List.{set-get_or}

module _ {X : Type 0} (f : X → X) where
  abbrev pub upto : ℕ → List X → List X
  upto zero xs = xs
  upto (suc i) [] = []
  upto (suc i) (x ∷ xs) = f x ∷ upto i xs

  pub length-upto : (i : ℕ) (xs : List X) → length (upto i xs) ≡ length xs
  length-upto zero xs = refl
  length-upto (suc i) [] = refl
  length-upto (suc i) (x ∷ xs) = ap suc (length-upto i xs)

  pub upto_within : (i : ℕ) (xs : List X) → i < length xs → i < length (upto i xs)
  upto_within i xs = subst (λ (m : ℕ). i < m) (sym (length-upto i xs))

  upto_step : (d : X) (i : ℕ) (xs : List X) → i < length xs → set (upto i xs) i (f (get_or (upto i xs) i d)) ≡ upto (suc i) xs
  upto_step d i [] l = absurd (omega arith)
  upto_step d zero (x ∷ xs) l = refl
  upto_step d (suc i) (x ∷ xs) l = ap (λ (ys : List X). f x ∷ ys) (upto_step d i xs (omega arith))

  -- one more
  pub upto_more : (d : X) (i : ℕ) (xs : List X) → i < length xs → set (upto i xs) i (f (get_or (upto i xs) i d)) ≡ upto (i + 1) xs
  upto_more d i xs l = upto_step d i xs l ∙ ap (λ (k : ℕ). upto k xs) (sym (add-one i))

  -- one turn of the loop: what stands at i is replaced, or is what f makes of it already
  pub upto_turn : (d : X) (i : ℕ) (xs out : List X) (y : X) → i < length xs → out ≡ upto i xs → y ≡ f (get_or out i d)
      → set out i y ≡ upto (i + 1) xs
  upto_turn d i xs out y l e m = rw (m, e) (upto_more d i xs l)

  pub upto_kept : (d : X) (i : ℕ) (xs out : List X) → i < length xs → out ≡ upto i xs → f (get_or out i d) ≡ get_or out i d
      → out ≡ upto (i + 1) xs
  upto_kept d i xs out l e m =
      sym (set-get_or out i d) ∙ upto_turn d i xs out (get_or out i d) l e (sym m)

  upto_all : (xs : List X) → upto (length xs) xs ≡ map f xs
  upto_all [] = refl
  upto_all (x ∷ xs) = ap (λ (ys : List X). f x ∷ ys) (upto_all xs)

  -- all of them
  pub upto_end : (i : ℕ) (xs : List X) → i ≡ length xs → upto i xs ≡ map f xs
  upto_end i xs e = ap (λ (k : ℕ). upto k xs) e ∙ upto_all xs

  -- the loop's end: it has come to the length, or past it
  pub upto_done : (i : ℕ) (xs out : List X) → out ≡ upto i xs → i ≤ length out → length out ≤ i → out ≡ map f xs
  upto_done i xs out e l h = e ∙ upto_end i xs (let k : length out ≡ length xs = ap length e ∙ length-upto i xs in omega arith)
