-- What a chain of iterators makes of a list, in the words of `specs/Lists.antt`.
use Rattle.std.proofs.Common.{◌≡◌, sym, ℕ, ◌+◌, ◌≤◌, Some, None, List, [], ◌∷◌, length, Bool, true, false, cond, ◌&&◌, ◌||◌, refl, ap, arith, one-add}
use Rattle.std.specs.List.{list_all, list_any, count_by, position_or_len}
use Rattle.std.specs.Prelude.{position, unwrap_or}
use Rattle.std.proofs.lemmas.List.Recursion.{is_count_by, is_position_or_len}
use borrow.Author.Tests.{ltb-false}
use lib.Dec.{eqb, ltb}
use Rattle.octets.specs.Lists.{all, any, how_many, place_of}
use Rattle.octets.proofs.Places.{place_within}

module _ {A : Type 0} (f : A → Bool) where
  pub all_is : (xs : List A) → list_all f xs ≡ all f xs
  all_is [] = refl
  all_is (x ∷ xs) = ap (λ b. f x && b) (all_is xs)

  pub any_is : (xs : List A) → list_any f xs ≡ any f xs
  any_is [] = refl
  any_is (x ∷ xs) = ap (λ b. f x || b) (any_is xs)

  -- the recursion of `how_many`, as the library asks for it
  counts : (x : A) (xs : List A) → how_many f (x ∷ xs) ≡ cond (f x) (1 + how_many f xs) (how_many f xs)
  counts x xs = go (f x)
    where
      go : (b : Bool) → cond b 1 0 + how_many f xs ≡ cond b (1 + how_many f xs) (how_many f xs)
      go true = refl
      go false = omega arith

  pub how_many_is : (xs : List A) → count_by f xs ≡ how_many f xs
  how_many_is xs = sym (is_count_by (how_many f) f refl counts xs)

-- A search by key: where it finds nothing, the list's length.
module _ {A : Type 0} (key : A → ℕ) (k : ℕ) where
  pub place_is : (xs : List A) → position_or_len (λ x. eqb (key x) k) xs ≡ place_of key k xs
  place_is xs = sym (is_position_or_len (place_of key k) (λ x. eqb (key x) k) refl (λ x xs. rw one-add refl) xs)

  pub position_is : (xs : List A) → unwrap_or (position (λ x. eqb (key x) k) xs) (length xs) ≡ place_of key k xs
  position_is xs = rw (place_is xs) (go (ltb (place_of key k xs) (length xs)) refl)
    where
      go : (b : Bool) → ltb (place_of key k xs) (length xs) ≡ b
          → unwrap_or (cond b (Some (place_of key k xs)) None) (length xs) ≡ place_of key k xs
      go true e = refl
      go false e =
          let end : length xs ≤ place_of key k xs = ltb-false (place_of key k xs) (length xs) e in
          omega (arith, place_within key k xs)
