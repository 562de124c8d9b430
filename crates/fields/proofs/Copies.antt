-- The same fields so many times, as a list has them: whether they fit, and their octets. Assumes nothing.
use Prim.Native.Nat.{ℕ, zero, suc, ◌+◌, ◌≤◌, ◌<◌}
use mathlib.Core.Path.{◌≡◌, refl, sym, ap}
use mathlib.Core.Bool.{Bool, true, false, ◌&&◌}
use mathlib.Core.List.{List, ◌++◌}
use borrow.Author.Tests.{lt-leb, le-leb}
use lib.Dec.{leb}
use lib.ListN.{length, get_or, drop, length-append}
use lib.Seq.{drop-drop}
use Rattle.std.specs.Prelude.{Result, Err}
use Rattle.leb128.specs.Leb128.{octets_of}
use Rattle.fields.specs.declared.room.Unfit.{Unfit}
use Rattle.fields.specs.declared.room.Unfit.TheVariants.{TooLarge}
use Rattle.fields.specs.Fields.{Field, list_of, octets, each_of, list_most}
use Rattle.fields.specs.Slots.{width, items_in, all_in, value_in, fits_in}
use Rattle.fields.specs.Codes.{many}
use Rattle.fields.specs.Writing.{octets_in, less_by, room_in}
use Rattle.fields.proofs.Rooms.{first_slot, less_both}

module _ (s : List ℕ) (f : Field) where
  many_fits : (n : ℕ) (slots : List ℕ) → fits_in (many n f) s slots ≡ all_in n (width f) (fits_in f s) slots
  unfolding fits_in
  many_fits zero slots = refl
  many_fits (suc n) slots = rw (many_fits n (drop (width f) slots))

  many_octets : (n : ℕ) (slots : List ℕ)
      → octets_in (many n f) s slots ≡ each_of (octets f) (items_in n (width f) (value_in f s) slots)
  unfolding octets value_in
  many_octets zero slots = refl
  many_octets (suc n) slots = rw (many_octets n (drop (width f) slots))

items_length : {A : Type 0} (n w : ℕ) (value : List ℕ → A) (slots : List ℕ) → length (items_in n w value slots) ≡ n
items_length zero w value slots = refl
items_length (suc n) w value slots = ap suc (items_length n w value (drop w slots))

-- a list as its count and the run of its items
module _ (f : Field) (s slots : List ℕ) (slot : ℕ) where
  pub list_fits_lem : fits_in (list_of f) s (drop slot slots)
      ≡ leb (get_or slots slot 0) list_most && fits_in (many (get_or slots slot 0) f) s
      (drop (slot + 1) slots)
  unfolding fits_in
  list_fits_lem =
      rw (first_slot slots slot, drop-drop 1 slot slots)
      (ap (λ (b : Bool). leb (get_or slots slot 0) list_most && b)
      (sym (many_fits s f (get_or slots slot 0) (drop (slot + 1) slots))))

  pub list_octets : octets_in (list_of f) s (drop slot slots)
      ≡ octets_of (get_or slots slot 0) ++ octets_in (many (get_or slots slot 0) f) s
      (drop (slot + 1) slots)
  unfolding octets value_in
  list_octets =
      let k = get_or slots slot 0 in
      let w = width f in
      rw (
        first_slot slots slot,
        drop-drop 1 slot slots,
        items_length k w (value_in f s) (drop (slot + 1) slots),
      )
      (ap (λ (l : List ℕ). octets_of k ++ l) (sym (many_octets s f k (drop (slot + 1) slots))))

  pub list_large : (room : Result ℕ Unfit) → list_most < get_or slots slot 0
      → Err TooLarge ≡ room_in (list_of f) s (drop slot slots) room
  list_large room h = rw (list_fits_lem, lt-leb (get_or slots slot 0) list_most h)

  pub list_room : (room : Result ℕ Unfit) → get_or slots slot 0 ≤ list_most
      → room_in (many (get_or slots slot 0) f) s (drop (slot + 1) slots)
      (less_by (length (octets_of (get_or slots slot 0))) room)
      ≡ room_in (list_of f) s (drop slot slots) room
  list_room room h = go (fits_in (many (get_or slots slot 0) f) s (drop (slot + 1) slots)) refl
    where
      go : (b : Bool) → fits_in (many (get_or slots slot 0) f) s (drop (slot + 1) slots) ≡ b
          → room_in (many (get_or slots slot 0) f) s (drop (slot + 1) slots)
          (less_by (length (octets_of (get_or slots slot 0))) room)
          ≡ room_in (list_of f) s (drop slot slots) room
      go false p = rw (list_fits_lem, le-leb (get_or slots slot 0) list_most h, p)
      go true p =
          let a = octets_of (get_or slots slot 0) in
          let b = octets_in (many (get_or slots slot 0) f) s (drop (slot + 1) slots) in
          rw (list_fits_lem, le-leb (get_or slots slot 0) list_most h, p, list_octets, length-append a b)
          (less_both (length a) (length b) room)
