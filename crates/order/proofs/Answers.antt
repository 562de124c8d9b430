-- Requests of which only such change places as do not disturb each other leave the same state and get the same answers.
use mathlib.Core.Path.{◌≡◌, refl, ap, ◌∙◌}
use mathlib.Core.List.{List, [], ◌∷◌, ◌++◌, map}
use Rattle.order.specs.Order.{All, Order, none, first, after, Answered, answered, FreeAnswered}
use Rattle.order.proofs.Orders.{order_all, all_front}

-- every request is answered once, in its place
pub answered_requests : {R S A : Type 0} (step : R → S → S) (answer : R → S → A) (s : S) (xs : List R)
    → map (λ (a : Answered R A). a.request) (answered step answer s xs) ≡ xs
answered_requests step answer s [] = refl
answered_requests {R} step answer s (x ∷ xs) = ap (λ (l : List R). x ∷ l) (answered_requests step answer (step x s) xs)

-- ys is zs with x put in, behind only such as it is free with
record Put {R : Type 0} (Free : R → R → Type 0) (x : R) (ys zs : List R) : Type 0 where
  front : List R
  back : List R
  with : ys ≡ front ++ (x ∷ back)
  without : zs ≡ front ++ back
  free : All (Free x) front

module _ {R : Type 0} {Free : R → R → Type 0} {x : R} {ys zs : List R} (p : Put Free x ys zs) where
  put_further : (y : R) → Free x y → Put Free x (y ∷ ys) (y ∷ zs)
  put_further y f =
      record {
        front = y ∷ p.front;
        back = p.back;
        with = ap (λ (l : List R). y ∷ l) p.with;
        without = ap (λ (l : List R). y ∷ l) p.without;
        free = (f, p.free);
      }

  put_first : {xs : List R} → Order Free xs zs → Order Free (x ∷ xs) ys
  put_first o = first _ _ p.front p.back _ p.with p.free (rw p.without at o)

-- I holds of every state that is reached by requests of which P holds.
module _ {R S : Type 0} (step : R → S → S) (Free : R → R → Type 0) (P : R → Type 0) (I : S → Type 0)
    (keep : (x : R) → P x → (s : S) → I s → I (step x s)) where
  front_has : {x : R} {xs : List R} (u v : List R) → All P (x ∷ xs) → Order Free xs (u ++ v) → All P u
  front_has u v a o = all_front P u v (order_all P o a.1)

  module _ (swap : (s : S) → I s → (x y : R) → Free x y → step y (step x s) ≡ step x (step y s)) where
    slide : (x : R) (u v : List R) (s : S) → I s → All P u → All (Free x) u
        → after step (step x s) (u ++ v) ≡ after step s (u ++ (x ∷ v))
    slide x [] v s i a f = refl
    slide x (y ∷ u) v s i a f =
        ap (λ (t : S). after step t (u ++ v)) (swap s i x y f.0) ∙ slide x u v (step y s) (keep y a.0 s i) a.1
        f.1

    pub keeps_state : {xs ys : List R} (s : S) → I s → All P xs → Order Free xs ys → after step s xs ≡ after step s ys
    keeps_state s i a none = refl
    keeps_state s i a (first x xs u v ys e f o) =
        rw e (keeps_state (step x s) (keep x a.0 s i) a.1 o ∙ slide x u v s i (front_has u v a o) f)

  module _ {A : Type 0} (answer : R → S → A)
      (apart : (s : S) → I s → (x y : R) → Free x y
      → (step y (step x s) ≡ step x (step y s)) × (answer x (step y s) ≡ answer x s) ×
      (answer y (step x s) ≡ answer y s)) where
    slide_answers : (x : R) (u v : List R) (s : S) → I s → All P u → All (Free x) u
        → Put (FreeAnswered Free) (record { request = x; got = answer x s })
        (answered step answer s (u ++ (x ∷ v))) (answered step answer (step x s) (u ++ v))
    slide_answers x [] v s i a f =
        record { front = []; back = answered step answer (step x s) v; with = refl; without = refl; free = tt }
    slide_answers x (y ∷ u) v s i a f =
        let p = apart s i x y f.0 in
        rw (p.0, ← p.1, p.2)
        (put_further (slide_answers x u v (step y s) (keep y a.0 s i) a.1 f.1) _ f.0)

    keeps_order : {xs ys : List R} (s : S) → I s → All P xs → Order Free xs ys
        → Order (FreeAnswered Free) (answered step answer s xs) (answered step answer s ys)
    keeps_order s i a none = none
    keeps_order s i a (first x xs u v ys e f o) =
        rw e (put_first (slide_answers x u v s i (front_has u v a o) f)
        (keeps_order (step x s) (keep x a.0 s i) a.1 o))

    pub keeps_answers : {xs ys : List R} (s : S) → I s → All P xs → Order Free xs ys
        → (Order (FreeAnswered Free) (answered step answer s xs) (answered step answer s ys)) ×
        (after step s xs ≡ after step s ys)
    keeps_answers s i a o = (keeps_order s i a o, keeps_state (λ s i x y f. (apart s i x y f).0) s i a o)
