-- Trusted. Tests over the elements of a list, the place of an element, and the first elements of a list.
--
--   all, any     every element passes a test, some element does; `how_many` do
--   place_of      the lowest place whose element has a key
--   all_below     a test holds of every number below another
--   same_octets   two lists begin with the same n octets
--   first_of      the first n elements of a list of so many places; first_only: of a list of addresses
use Rattle.std.specs.Prelude.{ℕ, zero, suc, ◌+◌, ◌-◌, List, [], ◌∷◌, ◌++◌, Bool, true, false, cond, ◌&&◌, ◌||◌, eqb, get_or, take, replicate}
use Rattle.octets.specs.Limits.{addresses_most}

module _ {A : Type 0} (f : A → Bool) where
  -- every element passes
  abbrev pub all : List A → Bool
  all [] = true
  all (x ∷ xs) = f x && all xs

  -- some element passes
  abbrev pub any : List A → Bool
  any [] = false
  any (x ∷ xs) = f x || any xs

  -- so many elements pass
  abbrev pub how_many : List A → ℕ
  how_many [] = 0
  how_many (x ∷ xs) = cond (f x) 1 0 + how_many xs

-- the lowest place whose key is k; the list's length where there is none
module _ {A : Type 0} (key : A → ℕ) (k : ℕ) where
  abbrev pub place_of : List A → ℕ
  place_of [] = 0
  place_of (x ∷ xs) = cond (eqb (key x) k) 0 (suc (place_of xs))

-- f holds of every number below n
abbrev pub all_below : (ℕ → Bool) → ℕ → Bool
all_below f zero = true
all_below f (suc n) = f n && all_below f n

-- the first n octets of two lists are the same
abbrev pub same_at : List ℕ → List ℕ → ℕ → Bool
same_at a b i = eqb (get_or a i 0) (get_or b i 0)

abbrev pub same_octets : ℕ → List ℕ → List ℕ → Bool
same_octets n a b = all_below (same_at a b) n

-- 01: "Places past a list's count ... aren't looked at; in a list newly kept or given they are 0": the first n, and
-- `none` in the places after them.
abbrev pub first_of : {A : Type 0} → ℕ → A → ℕ → List A → List A
first_of places none n xs = take n xs ++ replicate (places - n) none

abbrev pub first_only : {A : Type 0} → A → ℕ → List A → List A
first_only none n xs = first_of addresses_most none n xs
