-- Trusted. A table, a list of places of which those with key 0 are free, and one's own part of it, places aside.
--
--   count, found     how many places have a property; what stands in the lowest place with a key
--   View, view       one's own part: what a look-up finds, and of every property how many have it
--   added, changed, replaced       a view after a record is opened, after records are replaced or closed
--   used, own, there, at, owns     a place in use, an own one, and the look-up of a call
--   Room, put        a free place, and a record put there
--   Once, Has        no key stands twice; a record stands in a table
--   touched, own_child, orphaned    records of a second table, which name their owner by its key
use Rattle.std.specs.Prelude.{ℕ, ◌+◌, ◌≤◌, ◌<◌, ◌≡◌, ◌⊎◌, List, [], ◌∷◌, Bool, true, false, cond, ◌&&◌, not, eqb, ltb, length, get_or, set}
use Rattle.std.proofs.Math.Option.{Option, none, some}
use Rattle.octets.specs.Lists.{place_of}

-- how many places have a property
module _ {A : Type 0} (P : A → Bool) where
  abbrev pub count : List A → ℕ
  count [] = 0
  count (x ∷ xs) = cond (P x) 1 0 + count xs

-- what stands in the lowest place with the key
module _ {A : Type 0} (key : A → ℕ) (k : ℕ) where
  abbrev pub found : List A → Option A
  found [] = none
  found (x ∷ xs) = cond (eqb (key x) k) (some x) (found xs)

module _ {A B : Type 0} where
  abbrev pub then : (A → Option B) → Option A → Option B
  then g none = none
  then g (some x) = g x

module _ {A : Type 0} where
  abbrev pub any : A → Bool
  any x = true

  abbrev pub when : (A → Bool) → A → Option A
  when m x = cond (m x) (some x) none

  abbrev pub has : (A → Bool) → Option A → Bool
  has P none = false
  has P (some x) = P x

-- a record stands in a table
module _ {A : Type 0} (r : A) where
  abbrev pub Has : List A → Type 0
  Has [] = ⊥
  Has (x ∷ xs) = (x ≡ r) ⊎ Has xs

-- The own part of a table, places aside: which record a look-up finds, and of every property how many of the own records have it.
pub record View (A : Type 0) : Type 0 where
  pub find : ℕ → Option A
  pub many : (A → Bool) → ℕ

module _ {A : Type 0} (key : A → ℕ) where
  -- m tells the own records: "the lowest place with the key, then whose it is"
  abbrev pub view : (A → Bool) → List A → View A
  view m xs = record { find = λ k. then (when m) (found key k xs); many = λ P. count (λ x. m x && P x) xs }

  -- a new record
  abbrev pub added : A → View A → View A
  added y v = record { find = λ k. cond (eqb (key y) k) (some y) (v.find k); many = λ P. cond (P y) 1 0 + v.many P }

  -- each record replaced, or closed
  abbrev pub changed : (A → Option A) → View A → View A
  changed g v = record { find = λ k. then g (v.find k); many = λ P. v.many (λ x. has P (g x)) }

  -- what has the key replaced by another record, or closed
  abbrev pub replaced : ℕ → Option A → A → Option A
  replaced k y x = cond (eqb (key x) k) y (some x)

  -- A place is free when its key is 0; own records are places in use that pass m.
  abbrev pub used : A → Bool
  used x = not (eqb (key x) 0)

  abbrev pub own : (A → Bool) → A → Bool
  own m x = used x && m x

  -- the look-up of a call: some place has the key, and the lowest of them is one's own
  abbrev pub there : ℕ → List A → Bool
  there k xs = ltb (place_of key k xs) (length xs)

  abbrev pub at : A → ℕ → List A → A
  at d k xs = get_or xs (place_of key k xs) d

  abbrev pub owns : A → (A → Bool) → ℕ → List A → Bool
  owns d m k xs = not (eqb k 0) && (there k xs && m (at d k xs))

  abbrev pub Room : List A → Type 0
  Room xs = place_of key 0 xs < length xs

  -- a new record takes the lowest free place
  abbrev pub put : A → List A → List A
  put y xs = set xs (place_of key 0 xs) y

  -- no key but 0 stands in two places
  abbrev pub Once : List A → Type 0
  Once xs = (k : ℕ) → (k ≡ 0 → ⊥) → count (λ x. eqb (key x) k) xs ≤ 1

-- Children: records of a second table that name a record of the first as their owner, by its key.
module _ {A : Type 0} (key owner : A → ℕ) where
  -- the children in use of the owner k replaced, or closed
  abbrev pub touched : ℕ → (A → A) → A → A
  touched k f x = cond (eqb (key x) 0) x (cond (eqb (owner x) k) (f x) x)

  -- h tells the keys of one's own records of the first table
  abbrev pub own_child : (ℕ → Bool) → A → Bool
  own_child h = own key (λ (x : A). h (owner x))

  abbrev pub orphaned : ℕ → A → Option A
  orphaned k x = cond (eqb (owner x) k) none (some x)
