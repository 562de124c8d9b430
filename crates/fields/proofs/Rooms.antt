-- What a field leaves of the room of an output, by what its slots tell, and two fields one behind the other. Assumes
-- nothing.
use Prim.Native.Nat.{ℕ, ◌+◌, ◌-◌, ◌≤◌, ◌<◌}
use mathlib.Core.Path.{◌≡◌, refl, sym, ◌∙◌}
use mathlib.Core.Bool.{Bool, true, false}
use mathlib.Core.List.{List}
use native.Mathlib.Omega.{arith}
use native.Mathlib.Nat.{add-zero}
use borrow.Author.Tests.{lt-ltb, le-ltb, ltb-true, ltb-false, lt-leb, le-leb, leb-true, leb-false}
use lib.Dec.{ltb, leb}
use lib.ListN.{length, get_or, take, drop, length-append}
use lib.Seq.{get_or-drop}
use Rattle.std.specs.Prelude.{Result, Ok, Err}
use Rattle.octets.specs.Limits.{address_octets}
use Rattle.leb128.specs.Leb128.{octets_of}
use Rattle.fields.specs.declared.room.Unfit.{Unfit}
use Rattle.fields.specs.declared.room.Unfit.TheVariants.{TooLarge}
use Rattle.fields.specs.Fields.{Field, up_to, address, string, none, ◌then◌, octets, string_most}
use Rattle.fields.specs.Slots.{width, value_in, fits_in}
use Rattle.fields.specs.Writing.{less_by, room_in}
use Rattle.fields.proofs.Prefix.{part_length}

pub first_slot : (slots : List ℕ) (slot : ℕ) → get_or (drop slot slots) 0 0 ≡ get_or slots slot 0
first_slot slots slot = get_or-drop slot slots 0 0 ∙ rw (add-zero slot)

pub second_slot : (slots : List ℕ) (slot : ℕ) → get_or (drop slot slots) 1 0 ≡ get_or slots (slot + 1) 0
second_slot slots slot = get_or-drop slot slots 1 0

module _ (s slots : List ℕ) (slot : ℕ) (room : Result ℕ Unfit) where
  pub number_large : (most : ℕ) → most < get_or slots slot 0 → Err TooLarge ≡ room_in (up_to most) s (drop slot slots) room
  unfolding fits_in
  number_large most h = rw (first_slot slots slot, lt-leb (get_or slots slot 0) most h)

  pub number_room : (most : ℕ) → get_or slots slot 0 ≤ most
      → less_by (length (octets_of (get_or slots slot 0))) room ≡ room_in (up_to most) s (drop slot slots) room
  unfolding fits_in value_in octets
  number_room most h = rw (first_slot slots slot, le-leb (get_or slots slot 0) most h)

  pub address_outside : leb (get_or slots slot 0 + address_octets) (length s) ≡ false
      → Err TooLarge ≡ room_in address s (drop slot slots) room
  unfolding fits_in
  address_outside h = rw (first_slot slots slot, h)

  pub address_room : leb (get_or slots slot 0 + address_octets) (length s) ≡ true
      → less_by address_octets room ≡ room_in address s (drop slot slots) room
  unfolding fits_in value_in octets
  address_room h =
      let l = part_length s (get_or slots slot 0) address_octets
      (leb-true (get_or slots slot 0 + address_octets) (length s) h) in
      rw (first_slot slots slot, h, l)

  pub string_large : string_most < get_or slots (slot + 1) 0 → Err TooLarge ≡ room_in string s (drop slot slots) room
  unfolding fits_in
  string_large h = rw (second_slot slots slot, lt-leb (get_or slots (slot + 1) 0) string_most h)

  pub string_outside : get_or slots (slot + 1) 0 ≤ string_most
      → leb (get_or slots slot 0 + get_or slots (slot + 1) 0) (length s) ≡ false
      → Err TooLarge ≡ room_in string s (drop slot slots) room
  unfolding fits_in
  string_outside l h =
      rw (first_slot slots slot, second_slot slots slot, le-leb (get_or slots (slot + 1) 0) string_most l, h)

  pub string_room : get_or slots (slot + 1) 0 ≤ string_most
      → leb (get_or slots slot 0 + get_or slots (slot + 1) 0) (length s) ≡ true
      → less_by (length (octets_of (get_or slots (slot + 1) 0)) + get_or slots (slot + 1) 0) room ≡ room_in string s
      (drop slot slots) room
  unfolding fits_in value_in octets
  string_room l h =
      let at = get_or slots slot 0 in
      let n = get_or slots (slot + 1) 0 in
      let k = part_length s at n (leb-true (at + n) (length s) h) in
      rw (
        first_slot slots slot,
        second_slot slots slot,
        le-leb n string_most l,
        h,
        length-append (octets_of (length (take n (drop at s)))) (take n (drop at s)),
        k,
      )

-- where the place lies within, the rest has to hold the size
pub within_rest : (n at size : ℕ) → at ≤ n → leb size (n - at) ≡ leb (at + size) n
within_rest n at size h = go (leb size (n - at)) refl
  where
    go : (b : Bool) → leb size (n - at) ≡ b → leb size (n - at) ≡ leb (at + size) n
    go true p = let l = leb-true size (n - at) p in p ∙ sym (le-leb (at + size) n (omega arith))
    go false p = let l = leb-false size (n - at) p in p ∙ sym (lt-leb (at + size) n (omega arith))

-- ---- one behind the other
less_none : (room : Result ℕ Unfit) → less_by 0 room ≡ room
less_none (Ok n) =
    let e : n - 0 ≡ n = omega arith in
    rw (le-ltb n 0 (omega arith), e)
less_none (Err why) = refl

pub less_both : (a b : ℕ) (room : Result ℕ Unfit) → less_by b (less_by a room) ≡ less_by (a + b) room
less_both a b (Err why) = refl
less_both a b (Ok n) = go (ltb n a) refl (ltb (n - a) b) refl
  where
    go : (x : Bool) → ltb n a ≡ x → (y : Bool) → ltb (n - a) b ≡ y
        → less_by b (less_by a (Ok n)) ≡ less_by (a + b) (Ok n)
    go true p y q = let l = ltb-true n a p in rw (p, lt-ltb n (a + b) (omega arith))
    go false p true q =
        let l = ltb-false n a p in
        let m = ltb-true (n - a) b q in
        rw (p, q, lt-ltb n (a + b) (omega arith))
    go false p false q =
        let l = ltb-false n a p in
        let m = ltb-false (n - a) b q in
        let e : n - a - b ≡ n - (a + b) = omega arith in
        rw (p, q, le-ltb n (a + b) (omega arith), e)

pub none_room : (s slots : List ℕ) (room : Result ℕ Unfit) → room ≡ room_in none s slots room
unfolding fits_in octets
none_room s slots room = sym (less_none room)

pub then_room : (f g : Field) (s slots : List ℕ) (room : Result ℕ Unfit)
    → room_in g s (drop (width f) slots) (room_in f s slots room) ≡ room_in (f then g) s slots room
unfolding fits_in value_in octets
then_room f g s slots room = go (fits_in f s slots) refl (fits_in g s (drop (width f) slots)) refl
  where
    go : (x : Bool) → fits_in f s slots ≡ x → (y : Bool) → fits_in g s (drop (width f) slots) ≡ y
        → room_in g s (drop (width f) slots) (room_in f s slots room) ≡ room_in (f then g) s slots room
    go false p true q = rw (p, q)
    go false p false q = rw (p, q)
    go true p false q = rw (p, q)
    go true p true q =
        let a = octets f (value_in f s slots) in
        let b = octets g (value_in g s (drop (width f) slots)) in
        rw (p, q, length-append a b) (less_both (length a) (length b) room)
