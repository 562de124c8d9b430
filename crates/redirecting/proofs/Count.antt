-- How many elements of a list pass a test: as the library counts them, and of two lists one behind the other.
use Prim.Native.Nat.{suc, ◌+◌}
use mathlib.Core.Path.{◌≡◌, refl, sym}
use mathlib.Core.List.{List, [], ◌∷◌, ◌++◌}
use mathlib.Core.Bool.{Bool, true, false, cond}
use native.Mathlib.Omega.{arith}
use native.Mathlib.Numerals.{one-add}
use Rattle.std.specs.List.{count_by}
use Rattle.std.proofs.lemmas.List.Recursion.{is_count_by}
use Rattle.redirecting.specs.Times.{how_many}

module _ {A : Type 0} (f : A → Bool) where
  pub counted : (xs : List A) → count_by f xs ≡ how_many f xs
  counted xs = sym (is_count_by (how_many f) f refl (λ x xs. rw one-add refl) xs)

  pub both_counted : (xs ys : List A) → how_many f (xs ++ ys) ≡ how_many f xs + how_many f ys
  both_counted [] ys = omega arith
  both_counted (x ∷ xs) ys = go (f x) (both_counted xs ys)
    where
      go : (b : Bool) → how_many f (xs ++ ys) ≡ how_many f xs + how_many f ys
          → cond b (suc (how_many f (xs ++ ys))) (how_many f (xs ++ ys))
          ≡ cond b (suc (how_many f xs)) (how_many f xs) + how_many f ys
      go true e = omega arith
      go false e = e
