-- `==` on two lists of octets of one length says that they have the same octets.
use Prim.Native.Nat.{ℕ, zero, suc}
use mathlib.Core.Path.{◌≡◌, refl, sym, ap, ◌∙◌}
use mathlib.Core.List.{List, [], ◌∷◌}
use mathlib.Core.Bool.{Bool, true, false, ◌&&◌}
use native.Mathlib.Omega.{arith}
use lib.Dec.{eqb}
use lib.ListN.{length}
use Rattle.std.specs.Cmp.Lexicographic.{pointwise}
use Rattle.octets.specs.Lists.{all_below, same_at, same_octets}

swap : (a b c : Bool) → a && (b && c) ≡ b && (a && c)
swap true b c = refl
swap false true c = refl
swap false false c = refl

-- the number 0 first, and then those above it
pub first_below : (f : ℕ → Bool) (n : ℕ) → all_below f (suc n) ≡ f 0 && all_below (λ (i : ℕ). f (suc i)) n
first_below f zero = refl
first_below f (suc n) =
    ap (λ (b : Bool). f (suc n) && b) (first_below f n)
    ∙ swap (f (suc n)) (f 0) (all_below (λ (i : ℕ). f (suc i)) n)

pub same_from_eq : (a b : List ℕ) → length a ≡ length b → pointwise eqb a b ≡ same_octets (length a) a b
same_from_eq [] [] e = refl
same_from_eq [] (y ∷ ys) e = absurd (omega arith)
same_from_eq (x ∷ xs) [] e = absurd (omega arith)
same_from_eq (x ∷ xs) (y ∷ ys) e =
    ap (λ (b : Bool). eqb x y && b) (same_from_eq xs ys (omega arith))
    ∙ sym (first_below (same_at (x ∷ xs) (y ∷ ys)) (length xs))
