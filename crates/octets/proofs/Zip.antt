-- Two lists joined element by element, and a loop that stores the joined list.
use Prim.Native.Nat.{ℕ, zero, suc, ◌+◌, ◌<◌}
use mathlib.Core.Path.{◌≡◌, refl, sym, ap, ◌∙◌}
use mathlib.Core.List.{List, [], ◌∷◌, zip_with}
use native.Mathlib.Omega.{arith}
use lib.ListN.{length, get_or, set}
use Rattle.octets.proofs.Pad.{copied, stored}

module _ {A B C : Type 0} (f : A → B → C) where
  pub length-zip : (xs : List A) (ys : List B) → length xs ≡ length ys → length (zip_with f xs ys) ≡ length xs
  unfolding zip_with
  length-zip [] ys e = refl
  length-zip (x ∷ xs) [] e = absurd (omega arith)
  length-zip (x ∷ xs) (y ∷ ys) e = ap suc (length-zip xs ys (omega arith))

  pub get_d_zip : (xs : List A) (ys : List B) (i : ℕ) (a : A) (b : B) (c : C) → i < length xs → i < length ys
      → get_or (zip_with f xs ys) i c ≡ f (get_or xs i a) (get_or ys i b)
  unfolding zip_with
  get_d_zip [] ys i a b c h k = absurd (omega arith)
  get_d_zip (x ∷ xs) [] i a b c h k = absurd (omega arith)
  get_d_zip (x ∷ xs) (y ∷ ys) zero a b c h k = refl
  get_d_zip (x ∷ xs) (y ∷ ys) (suc i) a b c h k = get_d_zip xs ys i a b c (omega arith) (omega arith)

  -- The loop's `out` begins as n times z, and holds the first i of the joined list.
  module _ (z : C) (xs : List A) (ys : List B) (n : ℕ) where
    abbrev pub joined : ℕ → List C
    joined i = copied z (zip_with f xs ys) n i

    module _ (long-xs : length xs ≡ n) (long-ys : length ys ≡ n) where
      long : length (zip_with f xs ys) ≡ n
      long = length-zip xs ys (long-xs ∙ sym long-ys) ∙ long-xs

      pub joins_one : (out : List C) (i : ℕ) (a : A) (b : B) → i < n → out ≡ joined i
          → set out i (f (get_or xs i a) (get_or ys i b)) ≡ joined (i + 1)
      joins_one out i a b h e =
          rw (e, ← get_d_zip xs ys i a b z (omega arith) (omega arith))
          (stored z (zip_with f xs ys) n i (omega (arith, long)) h z)
