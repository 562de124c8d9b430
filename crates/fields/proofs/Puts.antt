-- What writing a field needs and leaves, by its kind, and two parts one behind the other. Assumes nothing.
use Prim.Native.Nat.{ℕ, ◌+◌, ◌≤◌}
use mathlib.Core.Path.{◌≡◌, sym}
use mathlib.Core.Bool.{true, ◌&&◌}
use mathlib.Core.List.{List, [], ◌++◌}
use native.Mathlib.Omega.{arith}
use borrow.Author.Tests.{leb-true}
use lib.Dec.{leb}
use lib.ListN.{length, get_or, take, drop, length-append}
use lib.Seq.{drop-drop}
use Rattle.octets.specs.Limits.{address_octets}
use Rattle.octets.proofs.Small.{both}
use Rattle.writing.proofs.Placed.{placed_none, placed_then, length-placed}
use Rattle.leb128.specs.Leb128.{octets_of}
use Rattle.fields.specs.Fields.{Field, up_to, address, string, ◌then◌, list_of, octets, string_most, list_most}
use Rattle.fields.specs.Slots.{width, value_in, fits_in}
use Rattle.fields.specs.Codes.{many, Ready, Puts}
use Rattle.fields.specs.Writing.{octets_in}
use Rattle.fields.proofs.Copies.{list_fits_lem, list_octets}
use Rattle.fields.proofs.Prefix.{part_length}
use Rattle.fields.proofs.Rooms.{first_slot, second_slot}

-- ---- one behind the other
pub puts_then : (a b out mid left : List ℕ) (at next r : ℕ) → at + (length a + length b) ≤ length out
    → Puts a out at mid next → Puts b mid next left r → Puts (a ++ b) out at left r
puts_then a b out mid left at next r fits p q =
    record {
      place = rw (length-append a b) (omega (arith, p.place, q.place));
      written = placed_then out mid left at next a b fits p.written p.place q.written;
    }

pub puts_none : (out : List ℕ) (at : ℕ) → Puts [] out at out at
puts_none out at = record { place = omega arith; written = sym (placed_none out at) }

-- ---- what a field needs, and its octets
module _ (s slots : List ℕ) (slot : ℕ) (out : List ℕ) (at : ℕ) where
  pub number_octets : (most : ℕ) → octets_in (up_to most) s (drop slot slots) ≡ octets_of (get_or slots slot 0)
  unfolding octets value_in
  number_octets most = rw (first_slot slots slot)

  pub address_octets_lem : octets_in address s (drop slot slots) ≡ take address_octets (drop (get_or slots slot 0) s)
  unfolding octets value_in
  address_octets_lem = rw (first_slot slots slot)

  pub address_ready : Ready address s slots slot out at
      → (get_or slots slot 0 + address_octets ≤ length s) × (at + address_octets ≤ length out)
  unfolding fits_in
  address_ready r =
      let h = leb-true (get_or slots slot 0 + address_octets) (length s) (rw (first_slot slots slot) at r.fitting) in
      let m = rw (address_octets_lem, part_length s (get_or slots slot 0) address_octets h) at r.room in
      (h, m)

  pub record StringReady : Type 0 where
    pub inside : get_or slots slot 0 + get_or slots (slot + 1) 0 ≤ length s
    pub room : at + (length (octets_of (get_or slots (slot + 1) 0)) + get_or slots (slot + 1) 0) ≤ length out
    pub whole : octets_in string s (drop slot slots)
        ≡ octets_of (get_or slots (slot + 1) 0) ++ take (get_or slots (slot + 1) 0) (drop (get_or slots slot 0) s)

  pub string_ready : Ready string s slots slot out at → StringReady
  unfolding fits_in octets value_in
  string_ready r =
      let p = get_or slots slot 0 in
      let n = get_or slots (slot + 1) 0 in
      let b = both (leb n string_most) (leb (p + n) (length s))
      (rw (first_slot slots slot, second_slot slots slot) at r.fitting) in
      let h = leb-true (p + n) (length s) b.1 in
      let l = part_length s p n h in
      let w : octets_in string s (drop slot slots) ≡ octets_of n ++ take n (drop p s) =
      rw (first_slot slots slot, second_slot slots slot, l) in
      record {
        inside = h;
        room = rw (w, length-append (octets_of n) (take n (drop p s)), l) at r.room;
        whole = w;
      }

-- ---- two fields
module _ (f g : Field) (s slots : List ℕ) (slot : ℕ) (out : List ℕ) (at : ℕ)
    (ready : Ready (f then g) s slots slot out at) where
  pub then_octets : octets_in (f then g) s (drop slot slots) ≡ octets_in f s (drop slot slots) ++ octets_in g s
      (drop (slot + width f) slots)
  unfolding octets value_in
  then_octets = rw (drop-drop (width f) slot slots)

  pub then_room : at + (length (octets_in f s (drop slot slots)) + length (octets_in g s (drop (slot + width f) slots))) ≤
      length out
  then_room =
      rw (then_octets, length-append (octets_in f s (drop slot slots)) (octets_in g s (drop (slot + width f) slots))) at
      ready.room

  then_fits : fits_in f s (drop slot slots) && fits_in g s (drop (slot + width f) slots) ≡ true
  unfolding fits_in
  then_fits = rw (drop-drop (width f) slot slots) at ready.fitting

  pub first_ready : Ready f s slots slot out at
  first_ready =
      let t = ready.told in
      let m = then_room in
      record {
        told = omega arith;
        fitting =
            (both (fits_in f s (drop slot slots)) (fits_in g s (drop (slot + width f) slots)) then_fits).0;
        room = omega
            arith;
      }

  pub rest_ready : (mid : List ℕ) (next : ℕ) → Puts (octets_in f s (drop slot slots)) out at mid next
      → Ready g s slots (slot + width f) mid next
  rest_ready mid next p =
      let t = ready.told in
      let m = then_room in
      let l : length mid ≡ length out =
      rw p.written (length-placed out at (octets_in f s (drop slot slots)) (omega arith)) in
      record {
        told = omega arith;
        fitting =
            (both (fits_in f s (drop slot slots)) (fits_in g s (drop (slot + width f) slots)) then_fits).1;
        room = omega
            (arith, p.place);
      }

  pub both_put : (mid left : List ℕ) (next r : ℕ) → Puts (octets_in f s (drop slot slots)) out at mid next
      → Puts (octets_in g s (drop (slot + width f) slots)) mid next left r
      → Puts (octets_in (f then g) s (drop slot slots)) out at left r
  both_put mid left next r p q =
      rw then_octets
      (puts_then (octets_in f s (drop slot slots)) (octets_in g s (drop (slot + width f) slots)) out mid left at next
      r then_room p q)

-- ---- a list
module _ (f : Field) (s slots : List ℕ) (slot : ℕ) (out : List ℕ) (at : ℕ)
    (ready : Ready (list_of f) s slots slot out at) where
  list_both : (get_or slots slot 0 ≤ list_most) ×
      (fits_in (many (get_or slots slot 0) f) s (drop (slot + 1) slots) ≡ true)
  list_both =
      let b = both (leb (get_or slots slot 0) list_most)
      (fits_in (many (get_or slots slot 0) f) s (drop (slot + 1) slots))
      (rw (list_fits_lem f s slots slot) at ready.fitting) in
      (leb-true (get_or slots slot 0) list_most b.0, b.1)

  pub list_count : get_or slots slot 0 ≤ list_most
  list_count = list_both.0

  pub list_room : at +
      (length (octets_of (get_or slots slot 0)) + length
      (octets_in (many (get_or slots slot 0) f) s (drop (slot + 1) slots)))
      ≤ length out
  list_room =
      rw (
        list_octets f s slots slot,
        length-append (octets_of (get_or slots slot 0))
            (octets_in (many (get_or slots slot 0) f) s (drop (slot + 1) slots)),
      ) at ready.room

  pub items_ready : (mid : List ℕ) (next : ℕ)
      → slot + 1 + width (many (get_or slots slot 0) f) ≤ length slots
      → Puts (octets_of (get_or slots slot 0)) out at mid next
      → Ready (many (get_or slots slot 0) f) s slots (slot + 1) mid next
  items_ready mid next w p =
      let m = list_room in
      let l : length mid ≡ length out =
      rw p.written (length-placed out at (octets_of (get_or slots slot 0)) (omega arith)) in
      record { told = w; fitting = list_both.1; room = omega (arith, p.place) }

  pub list_put : (mid left : List ℕ) (next r : ℕ) → Puts (octets_of (get_or slots slot 0)) out at mid next
      → Puts (octets_in (many (get_or slots slot 0) f) s (drop (slot + 1) slots)) mid next left r
      → Puts (octets_in (list_of f) s (drop slot slots)) out at left r
  list_put mid left next r p q = rw (list_octets f s slots slot)
      (puts_then (octets_of (get_or slots slot 0))
      (octets_in (many (get_or slots slot 0) f) s (drop (slot + 1) slots)) out mid left at next r
      list_room p q)
