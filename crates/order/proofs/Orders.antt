-- What holds of every request of a list holds of them in another order, and which requests are free may be said
-- otherwise.
use mathlib.Core.List.{List, [], ◌∷◌, ◌++◌}
use Rattle.order.specs.Order.{All, Pairwise, Order, none, first}

module _ {R : Type 0} (P : R → Type 0) where
  all_put : (x : R) (u v : List R) → P x → All P (u ++ v) → All P (u ++ (x ∷ v))
  all_put x [] v p a = (p, a)
  all_put x (y ∷ u) v p a = (a.0, all_put x u v p a.1)

  pub all_front : (u v : List R) → All P (u ++ v) → All P u
  all_front [] v a = tt
  all_front (y ∷ u) v a = (a.0, all_front u v a.1)

  pub order_all : {Free : R → R → Type 0} {xs ys : List R} → Order Free xs ys → All P xs → All P ys
  order_all none a = tt
  order_all (first x xs u v ys e f o) a = rw e (all_put x u v a.0 (order_all o a.1))

-- what holds of all there are
pub all_of : {R : Type 0} {P : R → Type 0} → ((x : R) → P x) → (xs : List R) → All P xs
all_of h [] = tt
all_of h (x ∷ xs) = (h x, all_of h xs)

-- what follows from one fact, follows of all
pub all_map : {R : Type 0} {P Q : R → Type 0} → ((x : R) → P x → Q x) → (xs : List R) → All P xs → All Q xs
all_map h [] a = tt
all_map h (x ∷ xs) a = (h x a.0, all_map h xs a.1)

-- two facts of every element give a third
all_both : {R : Type 0} {P Q T : R → Type 0} → ((y : R) → P y → Q y → T y) → (u : List R) → All P u → All Q u → All T u
all_both h [] a b = tt
all_both h (y ∷ u) a b = (h y a.0 b.0, all_both h u a.1 b.1)

module _ {R : Type 0} {Free Free' : R → R → Type 0} where
  pub order_weaken : {xs ys : List R} → Order Free xs ys → ((x y : R) → Free x y → Free' x y) → Order Free' xs ys
  order_weaken none h = none
  order_weaken (first x xs u v ys e f o) h = first x xs u v ys e (all_map (h x) u f) (order_weaken o h)

  -- all that x stands behind in ys stand behind x in xs
  pub order_pairs : (Q : R → R → Type 0) {xs ys : List R} → Order Free xs ys → Pairwise Q xs
      → ((x y : R) → Free x y → Q x y → Free' x y)
      → Order Free' xs ys
  order_pairs Q none q h = none
  order_pairs Q (first x xs u v ys e f o) q h =
      let later = all_front (Q x) u v (order_all (Q x) o q.0) in
      first x xs u v ys e (all_both (h x) u f later) (order_pairs Q o q.1 h)
