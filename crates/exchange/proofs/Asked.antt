-- Notifications in the writer's order are what some request asks for.
use Prim.Native.Nat.{ℕ, zero, suc, ◌+◌, ◌-◌, ◌≤◌, ◌<◌}
use mathlib.Core.Path.{◌≡◌, refl, sym, ap₂, ◌∙◌}
use mathlib.Core.List.{List, [], ◌∷◌, ◌++◌, map, zip_with}
use mathlib.Core.Bool.{Bool, true, false, cond, ◌&&◌, not}
use native.Mathlib.Omega.{arith}
use borrow.Author.Tests.{eqb-true, eqb-false, eq-eqb, le-leb}
use lib.Dec.{eqb}
use lib.ListN.{length, get_or, take, replicate, length-append, length-map, length-replicate}
use lib.Seq.{take_at}
use Rattle.octets.specs.Wire.{additional_ip4_address, additional_ip6_address, no_nats_allowed, nat_detection_destination_ip}
use Rattle.octets.specs.Limits.{addresses_most, address_octets, ip4_octets, ip6_octets, nat_octets}
use Rattle.octets.specs.Lists.{all_below}
use Rattle.octets.specs.Octets.{padded}
use Rattle.octets.proofs.Small.{and_true, empty}
use Rattle.address.specs.Address.{width_of, address_fits, pair_fits}
use Rattle.address.specs.declared.pair.Pair.{Pair}
use Rattle.notify.specs.Notify.{kind_of, data_fits}
use Rattle.values.specs.Values.{no_nats_of}
use Rattle.writing.specs.Notify.{Notification, notification}
use Rattle.writing.specs.Parts.{cookie_notifies}
use Rattle.asking.specs.Draft.{Draft, if_asked, address_notify_type, address_notify, address_notifies, pair_octets}
use Rattle.asking.specs.Draft.{requested}
use Rattle.asking.specs.Fits.{unless_asked, listed_fits, request_fits, cookie_fits}
use Rattle.exchange.specs.RoundTrips.{Sized, pair_of, asked_for}
use Rattle.exchange.proofs.Ranked.{Each, each, Of, Sorted, only, only_good, by_rank, lowest, number_of_lem, asked}
use Rattle.exchange.proofs.Ranked.{data_of, one_kind, its_data}
use Rattle.exchange.proofs.Data.{length-padded, pair_sized, unpadded, fits_padded, pair_again, cookie_again}

-- The addresses.
abbrev family_of : Notification → ℕ
family_of x = cond (eqb x.notify_type additional_ip4_address) 4 6

abbrev sixteen : Notification → List ℕ
sixteen x = padded x.octets

-- an address of a family, written again, and fit to be written
abbrev Listed : Notification → ℕ → Type 0
Listed x family = (address_notify family (sixteen x) ≡ x) × (address_fits family (sixteen x) ≡ true)

in_family : (x : Notification) (family : ℕ) → x.notify_type ≡ address_notify_type family
    → length x.octets ≡ width_of family
    → 0 < width_of family → width_of family ≤ address_octets → Listed x family
in_family x family n l some most =
    (ap₂ notification (sym n) (unpadded x.octets (width_of family) l most), fits_padded family x.octets l some)

listed : (x : Notification) → Of 6 x → Listed x (family_of x)
unfolding kind_of
listed x p = go (eqb x.notify_type additional_ip4_address) refl
  where
    size : (n : ℕ) → x.notify_type ≡ n → data_fits (kind_of n) (length x.octets) ≡ true
    size n e = rw e at p.1.0

    go : (b : Bool) → eqb x.notify_type additional_ip4_address ≡ b → Listed x (cond b 4 6)
    go true t =
        let n = eqb-true x.notify_type additional_ip4_address t in
        in_family x 4 n (eqb-true (length x.octets) ip4_octets (size additional_ip4_address n)) (omega arith)
        (omega arith)
    go false t =
        let m = eqb-false x.notify_type additional_ip4_address t in
        let n : x.notify_type ≡ additional_ip6_address = omega (arith, number_of_lem 6 x p.0 (omega arith), m) in
        in_family x 6 n (eqb-true (length x.octets) ip6_octets (size additional_ip6_address n)) (omega arith)
        (omega arith)

notified_again : (l : List Notification) → Each (λ x. Listed x (family_of x)) l
    → address_notifies (map family_of l) (map sixteen l) ≡ l
unfolding zip_with
notified_again [] e = refl
notified_again (x ∷ l) e = ap₂ ◌∷◌ e.0.0 (notified_again l e.1)

module _ (zs : List ℕ) (ws : List (List ℕ)) where
  listed_at : (l : List Notification) (i : ℕ) → Each (λ x. Listed x (family_of x)) l → i < length l
      → listed_fits (map family_of l ++ zs) (map sixteen l ++ ws) i ≡ true
  listed_at [] i e h = absurd (omega arith)
  listed_at (x ∷ l) zero e h = e.0.1
  listed_at (x ∷ l) (suc i) e h = listed_at l i e.1 (omega arith)

-- what fits at every place below n
pub all_below_lem : (f : ℕ → Bool) (n : ℕ) → ((i : ℕ) → i < n → f i ≡ true) → all_below f n ≡ true
all_below_lem f zero h = refl
all_below_lem f (suc n) h = rw (h n (omega arith)) (all_below_lem f n (λ i l. h i (omega arith)))

pub sized_at : (l : List Notification) (m i : ℕ) → i < length l + m
    → length (get_or (map sixteen l ++ replicate m (replicate address_octets 0)) i []) ≡ address_octets
sized_at [] zero i h = absurd (omega arith)
sized_at [] (suc m) zero h = refl
sized_at [] (suc m) (suc i) h = sized_at [] m i (omega arith)
sized_at (x ∷ l) m zero h = length-padded x.octets
sized_at (x ∷ l) m (suc i) h = sized_at l m i (omega arith)

-- two that are asked for together
pub both_nats : (b : Bool) (x y : Notification) (z : List Notification)
    → if_asked b (x ∷ []) ++ (if_asked b (y ∷ []) ++ z) ≡ if_asked b (x ∷ y ∷ []) ++ z
both_nats true x y z = refl
both_nats false x y z = refl

unless : (a b : Bool) → (a ≡ true → b ≡ true) → unless_asked a b ≡ true
unless true b h = h refl
unless false b h = refl

nats : (b x y : Bool) → unless_asked b x ≡ true → unless_asked b y ≡ true → cond b (b && (x && y)) (not b) ≡ true
nats true x y h k = and_true h k
nats false x y h k = refl

-- what is made of no notification is what stands where none is asked for
if_any : {A : Type 0} (f : List Notification → A) (ys : List Notification) → cond (asked ys) (f ys) (f []) ≡ f ys
if_any f [] = refl
if_any f (y ∷ ys) = refl

-- What a request asks for: the list, with values that are of their sizes and fit.
pub record AskedFor (xs : List Notification) : Type 0 where
  pub q : Draft
  pub is : requested q ≡ xs
  pub fits : request_fits q ≡ true
  pub sized : Sized q
  pub normal : asked_for q ≡ q

-- Sorted notifications, with one NAT source and one NAT destination or neither, at most 16 addresses, and none beside
-- NO_ADDITIONAL_ADDRESSES.
module _ (xs : List Notification) (s : Sorted 1 xs) (paired : asked (only 3 xs) ≡ asked (only 4 xs))
    (few : length (only 6 xs) ≤ addresses_most) (apart : asked (only 5 xs) ≡ true → length (only 6 xs) ≡ 0) where
  the_request : Draft
  the_request =
      record {
        ask =
            record {
              update = asked (only 1 xs);
              no_nats = asked (only 2 xs);
              nat_source = asked (only 3 xs);
              nat_destination = asked (only 3 xs);
              no_additional = asked (only 5 xs);
              count = length (only 6 xs);
            };
        pair = pair_of (no_nats_of (data_of (only 2 xs)));
        families = map family_of (only 6 xs) ++ replicate (addresses_most - length (only 6 xs)) 0;
        addresses = map sixteen (only 6 xs)
            ++ replicate (addresses_most - length (only 6 xs)) (replicate address_octets 0);
        nat-source = data_of (only 3 xs);
        nat-destination = data_of (only 4 xs);
        cookie = data_of (only 7 xs);
      }

  addresses_listed : Each (λ x. Listed x (family_of x)) (only 6 xs)
  addresses_listed = each (only 6 xs) listed (only_good 6 xs 1 s)

  -- an empty notification of its rank, and one whose data stays as it is
  module _ (r : ℕ) (some : 0 < r) (other : r ≡ 6 → ⊥) where
    empty_part : ((n : ℕ) → data_fits (kind_of (lowest r)) n ≡ true → n ≡ 0)
        → only r xs ≡ if_asked (asked (only r xs)) (notification (lowest r) [] ∷ [])
    empty_part h = one_kind xs s r some other (λ o. []) (λ o d b. empty o (h (length o) d))

    data_part : only r xs ≡ if_asked (asked (only r xs)) (notification (lowest r) (data_of (only r xs)) ∷ [])
    data_part = one_kind xs s r some other (λ o. o) (λ o d b. refl)

  no_nats_part : only 2 xs
      ≡ if_asked (asked (only 2 xs)) (notification no_nats_allowed (pair_octets the_request.pair) ∷ [])
  unfolding the_request kind_of
  no_nats_part = one_kind xs s 2 (omega arith) (omega arith) (λ o. pair_octets (pair_of (no_nats_of o)))
      (λ o d b. sym (pair_again o d b).0)

  cookie_asked : (asked (only 7 xs) ≡ not (eqb (length (data_of (only 7 xs))) 0))
      × (cookie_fits (length (data_of (only 7 xs))) ≡ true)
  unfolding kind_of cookie_fits
  cookie_asked =
      its_data xs s 7 (omega arith) (omega arith)
      (λ b o. (b ≡ not (eqb (length o) 0)) × (cookie_fits (length o) ≡ true)) (refl, refl)
      (λ o d b. let c = cookie_again (length o) d in (sym c.0, c.1))

  addresses_part : address_notifies (take (length (only 6 xs)) the_request.families)
      (take (length (only 6 xs)) the_request.addresses) ≡ only 6 xs
  unfolding the_request
  addresses_part =
      rw (
        take_at (map family_of (only 6 xs)) (replicate (addresses_most - length (only 6 xs)) 0) (length (only 6 xs))
            (length-map (only 6 xs) family_of),
        take_at (map sixteen (only 6 xs)) (replicate (addresses_most - length (only 6 xs)) (replicate address_octets 0))
            (length (only 6 xs)) (length-map (only 6 xs) sixteen),
      )
      (notified_again (only 6 xs) addresses_listed)

  cookie_part : cookie_notifies (data_of (only 7 xs)) ≡ only 7 xs
  cookie_part = rw (← cookie_asked.0) (sym (data_part 7 (omega arith) (omega arith)))

  destination_part : only 4 xs
      ≡ if_asked (asked (only 3 xs)) (notification nat_detection_destination_ip (data_of (only 4 xs)) ∷ [])
  destination_part = rw paired (data_part 4 (omega arith) (omega arith))

  is_asked : requested the_request ≡ xs
  unfolding the_request kind_of
  is_asked =
      ap₂ ◌++◌ (sym (empty_part 1 (omega arith) (omega arith) (λ n d. eqb-true n 0 d)))
      (ap₂ ◌++◌ (sym no_nats_part)
      (sym (both_nats (asked (only 3 xs)) _ _ _)
      ∙ ap₂ ◌++◌ (sym (data_part 3 (omega arith) (omega arith)))
      (ap₂ ◌++◌ (sym destination_part)
      (ap₂ ◌++◌ (sym (empty_part 5 (omega arith) (omega arith) (λ n d. eqb-true n 0 d)))
      (ap₂ ◌++◌ addresses_part cookie_part)))))
      ∙ sym (by_rank xs s)

  -- the data of a rank's notification has the one size that its kind allows
  its_size : (r n : ℕ) (some : 0 < r) (other : r ≡ 6 → ⊥)
      → ((m : ℕ) → data_fits (kind_of (lowest r)) m ≡ true → eqb m n ≡ true)
      → unless_asked (asked (only r xs)) (eqb (length (data_of (only r xs))) n) ≡ true
  its_size r n some other h = its_data xs s r some other (λ b o. unless_asked b (eqb (length o) n) ≡ true) refl
      (λ o d b. h (length o) d)

  pair_fits_lem : unless_asked (asked (only 2 xs)) (pair_fits the_request.pair) ≡ true
  unfolding the_request kind_of
  pair_fits_lem =
      its_data xs s 2 (omega arith) (omega arith) (λ b o. unless_asked b (pair_fits (pair_of (no_nats_of o))) ≡ true) refl
      (λ o d b. (pair_again o d b).1)

  is_fit : request_fits the_request ≡ true
  unfolding the_request request_fits kind_of
  is_fit =
      and_true (and_true (le-leb (length (only 6 xs)) addresses_most few)
      (unless (asked (only 5 xs)) _ (λ e. eq-eqb (length (only 6 xs)) 0 (apart e))))
      (and_true (nats (asked (only 3 xs)) _ _ (its_size 3 nat_octets (omega arith) (omega arith) (λ m d. d))
      (rw paired (its_size 4 nat_octets (omega arith) (omega arith) (λ m d. d))))
      (and_true pair_fits_lem
      (and_true (all_below_lem _ (length (only 6 xs)) (λ i h. listed_at _ _ (only 6 xs) i addresses_listed h))
      cookie_asked.1)))

  is_sized : Sized the_request
  unfolding the_request
  is_sized =
      record {
        source = (pair_sized (data_of (only 2 xs))).0;
        destination = (pair_sized (data_of (only 2 xs))).1;
        families = simp (length-append, length-map, length-replicate) (omega arith);
        addresses = simp (length-append, length-map, length-replicate) (omega arith);
        octets = λ i h. sized_at (only 6 xs) (addresses_most - length (only 6 xs)) i (omega arith);
      }

  -- nothing stands in it that isn't asked for
  is_normal : asked_for the_request ≡ the_request
  unfolding the_request
  is_normal =
      let n = length (only 6 xs) in
      let destination : cond (asked (only 3 xs)) (data_of (only 4 xs)) [] ≡ data_of (only 4 xs) =
      rw paired (if_any data_of (only 4 xs)) in
      rw (
        if_any pair_of_data (only 2 xs),
        if_any data_of (only 3 xs),
        destination,
        take_at (map family_of (only 6 xs)) (replicate (addresses_most - n) 0) n (length-map (only 6 xs) family_of),
        take_at (map sixteen (only 6 xs)) (replicate (addresses_most - n) (replicate address_octets 0)) n
            (length-map (only 6 xs) sixteen),
      )
    where
      pair_of_data : List Notification → Pair
      pair_of_data ys = pair_of (no_nats_of (data_of ys))

  pub asked_for_lem : AskedFor xs
  asked_for_lem = record { q = the_request; is = is_asked; fits = is_fit; sized = is_sized; normal = is_normal }
