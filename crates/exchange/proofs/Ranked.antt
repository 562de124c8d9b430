-- Notifications in the writer's order are those of rank 1, then those of rank 2, and so on.
use Prim.Native.Nat.{ℕ, suc, ◌+◌, ◌≤◌, ◌<◌}
use mathlib.Core.Path.{◌≡◌, refl, sym, ap, ap₂, ◌∙◌}
use mathlib.Core.List.{List, [], ◌∷◌, ◌++◌, append-nil}
use mathlib.Core.Bool.{Bool, true, false, cond}
use native.Mathlib.Omega.{arith}
use native.Mathlib.Decide.{dec_lt}
use borrow.Author.Tests.{eqb-true, eq-eqb, ne_eqb, le-leb, lt-leb}
use lib.Dec.{eqb, leb, ltb}
use lib.ListN.{length}
use Rattle.octets.specs.Wire.{additional_ip4_address, additional_ip6_address, no_additional_addresses, update_sa_addresses}
use Rattle.octets.specs.Wire.{cookie2, no_nats_allowed, nat_detection_source_ip, nat_detection_destination_ip}
use Rattle.octets.specs.Wire.{mobike_supported, first_status, unacceptable_addresses, unexpected_nat_detected}
use Rattle.octets.proofs.Small.{both, chosen}
use Rattle.notify.specs.Notify.{kind_of, data_fits}
use Rattle.notify.specs.declared.notify.NotifyKind.{NotifyKind}
use Rattle.writing.specs.Notify.{Notification, notification}
use Rattle.asking.specs.Draft.{if_asked}
use Rattle.exchange.specs.Plain.{rank, may_follow}
use Rattle.exchange.specs.RoundTrips.{Octets}
use Rattle.exchange.proofs.Notifies.{AllFit}
use Rattle.exchange.proofs.Parsed.{rank_of, ranked, AllOctets, after, after_more, follows}

-- What holds of every element.
module _ {A : Type 0} where
  abbrev pub Each : (A → Type 0) → List A → Type 0
  Each P [] = Unit {0}
  Each P (x ∷ xs) = P x × Each P xs

  pub each : {P Q : A → Type 0} (xs : List A) → ((x : A) → P x → Q x) → Each P xs → Each Q xs
  each [] f h = tt
  each (x ∷ xs) f h = (f x h.0, each xs f h.1)

-- data that fits, and that are octets
abbrev pub Good : Notification → Type 0
Good x = (data_fits (kind_of x.notify_type) (length x.octets) ≡ true) × Octets x.octets

-- of rank r
abbrev pub Of : ℕ → Notification → Type 0
Of r x = (rank_of x ≡ r) × Good x

-- in the writer's order, from the rank `low` on
abbrev pub Sorted : ℕ → List Notification → Type 0
Sorted low [] = Unit {0}
Sorted low (x ∷ xs) = (low ≤ rank_of x) × Good x × Sorted (after (rank_of x)) xs

pub sorted : (xs : List Notification) (last : ℕ) → ranked last xs ≡ true → AllFit xs → AllOctets xs
    → Sorted (after last) xs
sorted [] last r f o = tt
sorted (x ∷ xs) last r f o =
    let t = both (may_follow last (rank_of x)) (ranked (rank_of x) xs) r in
    (follows last (rank_of x) t.0, (f.0, o.0), sorted xs (rank_of x) t.1 f.1 o.1)

-- those of rank r, and those of rank r on
abbrev pub only : ℕ → List Notification → List Notification
only r [] = []
only r (x ∷ xs) = cond (eqb (rank_of x) r) (x ∷ only r xs) (only r xs)

abbrev from : ℕ → List Notification → List Notification
from r [] = []
from r (x ∷ xs) = cond (leb r (rank_of x)) (x ∷ from r xs) (from r xs)

module _ (r : ℕ) where
  pub only_good : (xs : List Notification) (low : ℕ) → Sorted low xs → Each (Of r) (only r xs)
  only_good [] low s = tt
  only_good (x ∷ xs) low s =
      chosen (Each (Of r)) (eqb (rank_of x) r)
      (λ e. ((eqb-true (rank_of x) r e, s.1), only_good xs (after (rank_of x)) s.2))
      (λ e. only_good xs (after (rank_of x)) s.2)

  -- none below the lowest rank, so at most one of a rank that doesn't follow itself
  only_none : (xs : List Notification) (low : ℕ) → Sorted low xs → r < low → only r xs ≡ []
  only_none [] low s h = refl
  only_none (x ∷ xs) low s h =
      rw (ne_eqb (rank_of x) r (omega arith))
      (only_none xs (after (rank_of x)) s.2 (omega (arith, after_more (rank_of x))))

  only_one : (xs : List Notification) (low : ℕ) → Sorted low xs → (r ≡ 6 → ⊥) → length (only r xs) ≤ 1
  only_one [] low s h = omega arith
  only_one (x ∷ xs) low s h =
      chosen (λ (l : List Notification). length l ≤ 1) (eqb (rank_of x) r)
      (λ e.
      let n : rank_of x ≡ r = eqb-true (rank_of x) r e in
      let a : r < after (rank_of x) = rw (n, ne_eqb r 6 h) (omega arith) in
      rw (only_none xs (after (rank_of x)) s.2 a) (omega arith))
      (λ e. only_one xs (after (rank_of x)) s.2 h)

  -- those of rank r stand first among those of rank r on
  split : (xs : List Notification) (low : ℕ) → Sorted low xs → from r xs ≡ only r xs ++ from (suc r) xs
  split [] low s = refl
  split (x ∷ xs) low s = go (dec_lt (rank_of x) r) (dec_lt r (rank_of x)) (split xs (after (rank_of x)) s.2)
    where
      go : Dec (rank_of x < r) → Dec (r < rank_of x) → from r xs ≡ only r xs ++ from (suc r) xs
          → from r (x ∷ xs) ≡ only r (x ∷ xs) ++ from (suc r) (x ∷ xs)
      go (yes h) d i = rw (
        lt-leb r (rank_of x) h,
        ne_eqb (rank_of x) r (omega arith),
        lt-leb (suc r) (rank_of x) (omega arith),
      ) i
      go (no h) (yes k) i =
          let none = only_none xs (after (rank_of x)) s.2 (omega (arith, after_more (rank_of x))) in
          rw (le-leb r (rank_of x) (omega arith), ne_eqb (rank_of x) r (omega arith), le-leb (suc r) (rank_of x) k, none)
          (ap (λ (l : List Notification). x ∷ l) (rw none at i))
      go (no h) (no k) i =
          rw (
            le-leb r (rank_of x) (omega arith),
            eq-eqb (rank_of x) r (omega arith),
            lt-leb (suc r) (rank_of x) (omega arith),
          )
          (ap (λ (l : List Notification). x ∷ l) i)

-- the numbers that have a rank: one for each, but two for rank 6
abbrev pub lowest : ℕ → ℕ
lowest r =
    cond (eqb r 1) update_sa_addresses
    (cond (eqb r 2) no_nats_allowed
    (cond (eqb r 3) nat_detection_source_ip
    (cond (eqb r 4) nat_detection_destination_ip
    (cond (eqb r 5) no_additional_addresses
    (cond (eqb r 6) additional_ip4_address
    cookie2)))))

record Numbered (n : ℕ) (k : NotifyKind) : Type 0 where
  small : rank k ≤ 7
  least : 0 < rank k → lowest (rank k) ≤ n
  most : 0 < rank k → n ≤ lowest (rank k) + cond (eqb (rank k) 6) 1 0

-- by the table of numbers
numbered : (n : ℕ) → Numbered n (kind_of n)
unfolding kind_of
numbered n =
    test nat_detection_source_ip (omega arith) (test nat_detection_destination_ip (omega arith)
    (test mobike_supported (omega arith)
    (test additional_ip4_address (omega arith) (test additional_ip6_address (omega arith)
    (test no_additional_addresses (omega arith)
    (test update_sa_addresses (omega arith) (test cookie2 (omega arith) (test no_nats_allowed (omega arith)
    (test unacceptable_addresses (omega arith) (test unexpected_nat_detected (omega arith)
    (chosen (Numbered n) (ltb n first_status) (λ e. omega arith) (λ e. omega arith))))))))))))
  where
    test : (m : ℕ) {x y : NotifyKind} → Numbered m x → Numbered n y → Numbered n (cond (eqb n m) x y)
    test m p q = chosen (Numbered n) (eqb n m) (λ e. rw (eqb-true n m e) p) (λ e. q)

from_all : (xs : List Notification) (low : ℕ) → Sorted low xs → 0 < low → from 1 xs ≡ xs
from_all [] low s h = refl
from_all (x ∷ xs) low s h =
    rw (le-leb 1 (rank_of x) (omega arith)) (ap (λ (l : List Notification). x ∷ l)
    (from_all xs (after (rank_of x)) s.2 (omega (arith, after_more (rank_of x)))))

from_none : (xs : List Notification) → from 8 xs ≡ []
from_none [] = refl
from_none (x ∷ xs) = rw (lt-leb 8 (rank_of x) (omega (arith, numbered x.notify_type))) (from_none xs)

pub by_rank : (xs : List Notification) → Sorted 1 xs
    → xs ≡ only 1 xs ++ (only 2 xs ++ (only 3 xs ++ (only 4 xs ++ (only 5 xs ++ (only 6 xs ++ only 7 xs)))))
by_rank xs s = sym (from_all xs 1 s (omega arith))
    ∙ rw (on 1, on 2, on 3, on 4, on 5, on 6, on 7, from_none xs, append-nil (only 7 xs))
  where
    on : (r : ℕ) → from r xs ≡ only r xs ++ from (suc r) xs
    on r = split r xs 1 s

-- what a rank says of the number
pub number_of_lem : (r : ℕ) (x : Notification) → rank_of x ≡ r → 0 < r
    → (lowest r ≤ x.notify_type) × (x.notify_type ≤ lowest r + cond (eqb r 6) 1 0)
number_of_lem r x e h = (rw e at (numbered x.notify_type).least h, rw e at (numbered x.notify_type).most h)

-- whether there is one, and the data of the first
abbrev pub asked : List Notification → Bool
asked [] = false
asked (x ∷ xs) = true

abbrev pub data_of : List Notification → List ℕ
data_of [] = []
data_of (x ∷ xs) = x.octets

-- at most one notification, whose data is as f makes it
one : (n : ℕ) (f : List ℕ → List ℕ) (ys : List Notification) → length ys ≤ 1
    → Each (λ x. x ≡ notification n (f x.octets)) ys → ys ≡ if_asked (asked ys) (notification n (f (data_of ys)) ∷ [])
one n f [] h e = refl
one n f (x ∷ []) h e = ap (λ (y : Notification). y ∷ []) e.0
one n f (x ∷ y ∷ ys) h e = absurd (omega arith)

-- Of a rank other than 6 there is one number, and at most one notification.
module _ (xs : List Notification) (s : Sorted 1 xs) (r : ℕ) (some : 0 < r) (other : r ≡ 6 → ⊥) where
  its_kind : (x : Notification) → Of r x
      → (x.notify_type ≡ lowest r) × (data_fits (kind_of (lowest r)) (length x.octets) ≡ true) × Octets x.octets
  its_kind x p =
      let z : ◌≡◌ {A = ℕ} (cond (eqb r 6) 1 0) 0 = rw (ne_eqb r 6 other) in
      let e : x.notify_type ≡ lowest r = omega (arith, number_of_lem r x p.0 some) in
      (e, rw e at p.1.0, p.1.1)

  pub one_kind : (f : List ℕ → List ℕ)
      → ((o : List ℕ) → data_fits (kind_of (lowest r)) (length o) ≡ true → Octets o → o ≡ f o)
      → only r xs ≡ if_asked (asked (only r xs)) (notification (lowest r) (f (data_of (only r xs))) ∷ [])
  one_kind f h =
      one (lowest r) f (only r xs) (only_one r xs 1 s other)
      (each (only r xs) (λ x p. let k = its_kind x p in ap₂ notification k.0 (h x.octets k.1 k.2))
      (only_good r xs 1 s))

  pub its_data : (P : Bool → List ℕ → Type 0) → P false []
      → ((o : List ℕ) → data_fits (kind_of (lowest r)) (length o) ≡ true → Octets o → P true o)
      → P (asked (only r xs)) (data_of (only r xs))
  its_data P z h = go (only r xs) (only_good r xs 1 s)
    where
      go : (ys : List Notification) → Each (Of r) ys → P (asked ys) (data_of ys)
      go [] g = z
      go (x ∷ ys) g = let k = its_kind x g.0 in h x.octets k.1 k.2
