-- Trusted. Lists of requests in another order, and updates of which the one with the greatest ID counts: what demand 3
-- is said with, whatever the requests are.
--
--   All, Pairwise           of every element; of every two
--   Order Free              another order, in which only requests that are free with each other change places
--   after, answered         the state after all requests, and each request with the answer that it got
--   Update, Held, latest    a numbered value, the one that is held with its mark, and one update of it
--   greatest                the update with the greatest ID
use Rattle.std.specs.Prelude.{ℕ, ◌+◌, ◌≡◌, cond, leb}
use mathlib.Core.List.{List, [], ◌∷◌, ◌++◌}
use Rattle.std.proofs.Math.Option.{Option, some}

-- P holds of every element.
module _ {R : Type 0} (P : R → Type 0) where
  abbrev pub All : List R → Type 0
  All [] = Unit {0}
  All (x ∷ xs) = P x × All xs

-- Q x y holds of every x and every y behind it.
module _ {R : Type 0} (Q : R → R → Type 0) where
  abbrev pub Pairwise : List R → Type 0
  Pairwise [] = Unit {0}
  Pairwise (x ∷ xs) = All (Q x) xs × Pairwise xs

-- ys is xs in another order, which keeps the order of every two requests that are not free to change places:
-- the first of xs stands in ys behind only such later ones, u, as it is free with, and the rest is in such an order
-- too.
pub data Order {R : Type 0} (Free : R → R → Type 0) : List R → List R → Type 0 where
  none : Order Free [] []
  first : (x : R) (xs u v ys : List R) → ys ≡ u ++ (x ∷ v) → All (Free x) u → Order Free xs (u ++ v)
      → Order Free (x ∷ xs) ys

-- The state after all requests, one by one.
module _ {R S : Type 0} (step : R → S → S) where
  abbrev pub after : S → List R → S
  after s [] = s
  after s (x ∷ xs) = after (step x s) xs

-- A request with the answer that it got.
pub record Answered (R A : Type 0) : Type 0 where
  pub request : R
  pub got : A

-- Each request with its answer, which is given on the state that the requests before it left.
module _ {R S A : Type 0} (step : R → S → S) (answer : R → S → A) where
  abbrev pub answered : S → List R → List (Answered R A)
  answered s [] = []
  answered s (x ∷ xs) = record { request = x; got = answer x s } ∷ answered (step x s) xs

-- Answered requests change places as the requests do: an order of them tells who got which answer.
abbrev pub FreeAnswered : {R A : Type 0} → (R → R → Type 0) → Answered R A → Answered R A → Type 0
FreeAnswered Free a b = Free a.request b.request

-- A numbered update of a value.
pub record Update (A : Type 0) : Type 0 where
  pub id : ℕ
  pub value : A

-- The value that is held, and the mark, the least ID that exceeds all that counted so far: an update below it comes too
-- late.
pub record Held (A : Type 0) : Type 0 where
  pub mark : ℕ
  pub value : A

module _ {A : Type 0} where
  -- One update: it counts if its ID is the mark or more, and changes nothing if it is less.
  unfoldable pub latest : Update A → Held A → Held A
  latest u h = cond (leb h.mark u.id) (record { mark = u.id + 1; value = u.value }) h

  -- The same, where there may be no update.
  unfoldable pub settled : Option (Update A) → Held A → Held A
  unfolding latest
  settled Option.none h = h
  settled (some u) h = latest u h

  -- The one of u and a later update w that has the greater ID; u, where the IDs are equal or there is no w.
  unfoldable pub greater : Update A → Option (Update A) → Update A
  greater u Option.none = u
  greater u (some w) = cond (leb w.id u.id) u w

  -- The update with the greatest ID, the first of equals.
  unfoldable pub greatest : List (Update A) → Option (Update A)
  unfolding greater
  greatest [] = Option.none
  greatest (u ∷ us) = some (greater u (greatest us))
