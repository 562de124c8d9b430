-- Laws of the lowest place with a key: a search one element at a time, and what a store changes.
use Prim.Native.Nat.{ℕ, zero, suc, ◌+◌, ◌<◌, ◌≤◌}
use mathlib.Core.Path.{◌≡◌, refl, ap}
use mathlib.Core.List.{List, [], ◌∷◌}
use mathlib.Core.Bool.{Bool, true, false, cond}
use native.Mathlib.Omega.{arith}
use native.Mathlib.Numerals.{add-one}
use borrow.Author.Tests.{eq-eqb, ne_eqb, eqb-true, lt-ltb, le-ltb}
use lib.Dec.{eqb, ltb}
use lib.ListN.{length, get_or, drop, set, drop_of_length-le}
use lib.Seq.{drop-cons}
use Rattle.octets.specs.Lists.{place_of}

module _ {A : Type 0} (key : A → ℕ) (k : ℕ) where
  -- The search, from place i on.
  module _ (xs : List A) (i : ℕ) where
    pub found_here : (d : A) → i < length xs → key (get_or xs i d) ≡ k → place_of key k (drop i xs) ≡ 0
    found_here d h e = rw (drop-cons xs i d h, eq-eqb _ _ e)

    pub not_here : (d : A) → i < length xs → (key (get_or xs i d) ≡ k → ⊥)
        → place_of key k (drop i xs) ≡ suc (place_of key k (drop (i + 1) xs))
    not_here d h e = rw (drop-cons xs i d h, ne_eqb _ _ e, add-one)

    pub nowhere : length xs ≤ i → place_of key k (drop i xs) ≡ 0
    nowhere h = rw (drop_of_length-le xs h)

  pub place_within : (xs : List A) → place_of key k xs ≤ length xs
  place_within [] = omega arith
  place_within (x ∷ xs) = go (eqb (key x) k) (place_within xs)
    where
      go : (b : Bool) → place_of key k xs ≤ length xs → cond b 0 (suc (place_of key k xs)) ≤ suc (length xs)
      go true h = omega arith
      go false h = omega arith

  -- what is found has the key
  pub place_has : (xs : List A) (d : A) → place_of key k xs < length xs → key (get_or xs (place_of key k xs) d) ≡ k
  place_has [] d h = absurd (omega arith)
  place_has (x ∷ xs) d h = go (eqb (key x) k) refl h (place_has xs d)
    where
      go : (b : Bool) → eqb (key x) k ≡ b → cond b 0 (suc (place_of key k xs)) < suc (length xs)
          → (place_of key k xs < length xs → key (get_or xs (place_of key k xs) d) ≡ k)
          → key (get_or (x ∷ xs) (cond b 0 (suc (place_of key k xs))) d) ≡ k
      go true e h r = eqb-true (key x) k e
      go false e h r = r (omega arith)

  -- what a search that answered r, over n places, says of the list
  module _ (xs : List A) (r n : ℕ) (e : r ≡ place_of key k xs) (long : length xs ≡ n) where
    pub is_there_lem : r < n → ltb (place_of key k xs) (length xs) ≡ true
    is_there_lem h = lt-ltb (place_of key k xs) (length xs) (omega arith)

    pub is_not : n ≤ r → ltb (place_of key k xs) (length xs) ≡ false
    is_not h = le-ltb (place_of key k xs) (length xs) (omega arith)

-- inside a list it does not matter what is said to lie past its end
pub get_d_inside : {A : Type 0} (xs : List A) (i : ℕ) (d e : A) → i < length xs → get_or xs i d ≡ get_or xs i e
get_d_inside [] i d e h = absurd (omega arith)
get_d_inside (x ∷ xs) zero d e h = refl
get_d_inside (x ∷ xs) (suc i) d e h = get_d_inside xs i d e (omega arith)

-- Where the key stands, the lowest place is no higher; so a list without it has it nowhere.
module _ {A : Type 0} (key : A → ℕ) (k : ℕ) where
  pub at_most : (xs : List A) (i : ℕ) (d : A) → i < length xs → key (get_or xs i d) ≡ k → place_of key k xs ≤ i
  at_most [] i d h e = absurd (omega arith)
  at_most (x ∷ xs) zero d h e = rw (eq-eqb (key x) k e) (omega arith)
  at_most (x ∷ xs) (suc i) d h e = go (eqb (key x) k) (at_most xs i d (omega arith) e)
    where
      go : (b : Bool) → place_of key k xs ≤ i → cond b 0 (suc (place_of key k xs)) ≤ suc i
      go true l = omega arith
      go false l = omega arith

  -- What a lookup finds after a store at a place i.
  module _ (y : A) where
    -- of a key that stood there neither before nor after: the same
    pub store_other : (xs : List A) (i : ℕ) (d : A) → i < length xs → (key (get_or xs i d) ≡ k → ⊥) → (key y ≡ k → ⊥)
        → place_of key k (set xs i y) ≡ place_of key k xs
    store_other [] i d h e f = refl
    store_other (x ∷ xs) zero d h e f = rw (ne_eqb (key x) k e, ne_eqb (key y) k f)
    store_other (x ∷ xs) (suc i) d h e f =
        ap (λ (n : ℕ). cond (eqb (key x) k) 0 (suc n)) (store_other xs i d (omega arith) e f)

    -- of the key that was stored, which did not stand below: that place
    pub store_found : (xs : List A) (i : ℕ) → i < length xs → i ≤ place_of key k xs → key y ≡ k
        → place_of key k (set xs i y) ≡ i
    store_found [] i h l e = absurd (omega arith)
    store_found (x ∷ xs) zero h l e = rw (eq-eqb (key y) k e)
    store_found (x ∷ xs) (suc i) h l e = go (eqb (key x) k) l (store_found xs i (omega arith))
      where
        go : (b : Bool) → suc i ≤ cond b 0 (suc (place_of key k xs))
            → (i ≤ place_of key k xs → key y ≡ k → place_of key k (set xs i y) ≡ i)
            → cond b 0 (suc (place_of key k (set xs i y))) ≡ suc i
        go true l r = absurd (omega arith)
        go false l r = ap suc (r (omega arith) e)

-- storing an element with the key that stood there changes no lookup
pub store_same : {A : Type 0} (key : A → ℕ) (k : ℕ) (xs : List A) (i : ℕ) (y d : A) → key y ≡ key (get_or xs i d)
    → place_of key k (set xs i y) ≡ place_of key k xs
store_same key k [] i y d e = refl
store_same key k (x ∷ xs) zero y d e = ap (λ (n : ℕ). cond (eqb n k) 0 (suc (place_of key k xs))) e
store_same key k (x ∷ xs) (suc i) y d e = ap (λ (n : ℕ). cond (eqb (key x) k) 0 (suc n)) (store_same key k xs i y d e)
