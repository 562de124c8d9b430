-- `==` on two lists of octets says that they are the same: as many, and each as in the other.
use Prim.Native.Nat.{ℕ}
use mathlib.Core.Path.{◌≡◌, refl}
use mathlib.Core.List.{List, [], ◌∷◌}
use mathlib.Core.Bool.{Bool, true, false, ◌&&◌}
use native.Mathlib.Omega.{arith}
use borrow.Author.Tests.{eqb-true, eqb-false}
use lib.Dec.{eqb}
use lib.ListN.{length}
use Rattle.std.specs.Cmp.Lexicographic.{pointwise}
use Rattle.octets.proofs.Same.{same_from_eq}
use Rattle.initiator.specs.Response.{same}

neither : (b : Bool) → b && false ≡ false
neither true = refl
neither false = refl

differ : (a b : List ℕ) → (length a ≡ length b → ⊥) → pointwise eqb a b ≡ false
differ [] [] n = absurd (n refl)
differ [] (y ∷ ys) n = refl
differ (x ∷ xs) [] n = refl
differ (x ∷ xs) (y ∷ ys) n = rw (differ xs ys (λ e. n (omega (arith, e)))) (neither (eqb x y))

pub same_is : (a b : List ℕ) → pointwise eqb a b ≡ same a b
same_is a b = go (eqb (length a) (length b)) refl
  where
    go : (s : Bool) → eqb (length a) (length b) ≡ s → pointwise eqb a b ≡ same a b
    go true e = rw e (same_from_eq a b (eqb-true (length a) (length b) e))
    go false e = rw e (differ a b (eqb-false (length a) (length b) e))
