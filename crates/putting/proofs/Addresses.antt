-- Laws of the additional addresses that are written one behind the other.
use Prim.Native.Nat.{ℕ, zero, suc, ◌+◌, ◌*◌, ◌<◌, ◌≤◌}
use mathlib.Core.Path.{◌≡◌, refl, ap, ◌∙◌}
use mathlib.Core.List.{List, [], ◌∷◌, ◌++◌, zip_with, map}
use mathlib.Core.Bool.{Bool, true, false, not}
use native.Mathlib.Omega.{arith}
use borrow.Author.Tests.{ne_eqb, eqb-true, eqb-false}
use lib.Dec.{eqb}
use lib.ListN.{length, take, drop, get_or, length-append, length-take, length-map}
use lib.Seq.{drop-cons, take-length}
use Rattle.std.proofs.lemmas.List.{take_more, map-append, drop_all, take-map}
use Rattle.octets.specs.Wire.{notify_payload}
use Rattle.address.specs.Address.{width_of, families_of, octets_of, no_address}
use Rattle.address.specs.declared.address.Address.{Address}
use Rattle.address.proofs.Width.{width_small}
use Rattle.writing.specs.Notify.{Notification, first_type, chained}
use Rattle.writing.proofs.Chained.{chained_append, length-one}
use Rattle.asking.specs.Draft.{address_notify, address_notifies}
use Rattle.putting.specs.Put.{address_room, TypeIf}

pub address_length : (next family : ℕ) (octets : List ℕ)
    → length (chained (address_notify family octets ∷ []) next) ≤ address_room
address_length next family octets =
    omega (
      arith,
      length-one (address_notify family octets) next,
      length-take (width_of family) octets,
      width_small family,
    )

pub list_length : (families : List ℕ) (addresses : List (List ℕ)) (next : ℕ)
    → length (chained (address_notifies families addresses) next) ≤ length families * address_room
unfolding chained zip_with
list_length [] addresses next = omega arith
list_length (f ∷ fs) [] next = omega arith
list_length (f ∷ fs) (o ∷ os) next =
    let one = address_notify f o ∷ [] in
    let rest = address_notifies fs os in
    rw (chained_append one rest next, length-append (chained one (first_type rest next)) (chained rest next))
    (omega (arith, address_length (first_type rest next) f o, list_length fs os next))

-- the type of the first of so many addresses, or of what follows them where there are none
pub list_type : (count : ℕ) (families : List ℕ) (addresses : List (List ℕ)) (next r : ℕ) → count ≤ length families
    → count ≤ length addresses → TypeIf (not (eqb count 0)) next r
    → r ≡ first_type (address_notifies (take count families) (take count addresses)) next
unfolding zip_with
list_type zero families addresses next r f a t = t (address_notify 0 []) []
list_type (suc n) [] addresses next r f a t = absurd (omega arith)
list_type (suc n) (x ∷ xs) [] next r f a t = absurd (omega arith)
list_type (suc n) (x ∷ xs) (y ∷ ys) next r f a t = t (address_notify 0 []) [] ∙ rw (ne_eqb (suc n) 0 (λ e. omega arith))

-- so many as there are, are all
pub all_taken : (xs : List Address)
    → address_notifies (take (length xs) (families_of xs)) (take (length xs) (octets_of xs))
    ≡ address_notifies (families_of xs) (octets_of xs)
all_taken xs = rw (take-map (λ (a : Address). a.family) (length xs) xs, take-map (λ (a : Address). a.octets) (length xs) xs, take-length xs)

abbrev pub notify_of : Address → Notification
notify_of a = address_notify a.family a.octets

pub notifies_of : (xs : List Address) → address_notifies (families_of xs) (octets_of xs) ≡ map notify_of xs
unfolding zip_with
notifies_of [] = refl
notifies_of (x ∷ xs) = ap (λ (ys : List Notification). notify_of x ∷ ys) (notifies_of xs)

-- The first i of the addresses are written, and those from i on are left.
module _ (xs : List Address) where
  abbrev pub written : ℕ → List Notification
  written i = map notify_of (take i xs)

  abbrev pub left : ℕ → List Notification
  left i = map notify_of (drop i xs)

  pub one_more : (i : ℕ) (d : Address) → i < length xs → written (i + 1) ≡ written i ++ (notify_of (get_or xs i d) ∷ [])
  one_more i d h = rw (take_more xs i d h) (map-append notify_of (take i xs) (get_or xs i d ∷ []))

  pub type_here : (i next : ℕ) → i < length xs → first_type (left i) next ≡ notify_payload
  type_here i next h = rw (drop-cons xs i no_address h)

  pub type_behind : (i next r : ℕ) → i < length xs → TypeIf (not (eqb (i + 1) (length xs))) next r
      → r ≡ first_type (left (i + 1)) next
  type_behind i next r h t = go (eqb (i + 1) (length xs)) refl
    where
      go : (b : Bool) → eqb (i + 1) (length xs) ≡ b → r ≡ first_type (left (i + 1)) next
      go true e =
          let end : length xs ≤ i + 1 = omega (arith, eqb-true (i + 1) (length xs) e) in
          rw (drop_all (i + 1) xs end) ((rw e at t) (notify_of no_address) [])
      go false e =
          let more : i + 1 < length xs = omega (arith, eqb-false (i + 1) (length xs) e, h) in
          rw (type_here (i + 1) next more) ((rw e at t) (notify_of no_address) [])

  pub written_length : (i next : ℕ) → i ≤ length xs → length (chained (written i) next) ≤ i * address_room
  written_length i next h =
      let first = take i xs in
      let families = length-map first (λ (a : Address). a.family) in
      rw (← notifies_of first)
      (omega (arith, list_length (families_of first) (octets_of first) next, families, length-take i xs))
