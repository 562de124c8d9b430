-- What writing an entry comes to, step by step. Assumes nothing.
use Prim.Native.Nat.{ℕ, ◌+◌, ◌-◌, ◌≤◌}
use mathlib.Core.Path.{◌≡◌, refl, ◌∙◌}
use mathlib.Core.Bool.{Bool, true, false, cond}
use mathlib.Core.List.{List, ◌++◌}
use native.Mathlib.Omega.{arith}
use borrow.Author.Tests.{ltb-false}
use lib.Dec.{ltb}
use lib.ListN.{length, length-append}
use Rattle.std.specs.Prelude.{Result, Ok, Err}
use Rattle.writing.specs.Notify.{placed}
use Rattle.leb128.specs.Leb128.{octets_of}
use Rattle.fields.specs.declared.room.Unfit.{Unfit}
use Rattle.fields.specs.declared.room.Unfit.TheVariants.{TooShort, TooLarge}
use Rattle.fields.specs.Slots.{fits_in}
use Rattle.fields.specs.Codes.{Ready, Puts}
use Rattle.fields.specs.Writing.{octets_in, less_by, room_in}
use Rattle.fields.proofs.Puts.{puts_then}
use Rattle.fields.proofs.Rooms.{less_both}
use Rattle.entries.specs.Kinds.{kind_number, fields_of}
use Rattle.entries.specs.Slots.{entry_slots}
use Rattle.entries.specs.Writing.{told_octets, written_step, written_out}
use Rattle.entries.specs.declared.kind.Kind.{Kind}
use Rattle.entries.proofs.Widths.{widest}

module _ (k : Kind) (s slots out : List ℕ) where
  -- what the room that is left says
  abbrev pub Says : Result ℕ Unfit → Type 0
  Says (Err why) = written_step k s slots out ≡ Err why
  Says (Ok n) =
      (fits_in (fields_of k) s slots ≡ true) × (length (told_octets k s slots) ≤ length out)
      × (written_step k s slots out ≡ Ok (length out - n)) × (n ≤ length out)

  pub says : (r : Result ℕ Unfit)
      → r ≡ room_in (fields_of k) s slots (less_by (length (octets_of (kind_number k))) (Ok (length out))) → Says r
  says r e =
      let a = octets_of (kind_number k) in
      let c = octets_in (fields_of k) s slots in
      let both : less_by (length c) (less_by (length a) (Ok (length out))) ≡ less_by (length (a ++ c))
      (Ok (length out)) =
      less_both (length a) (length c) (Ok (length out)) ∙ rw (length-append a c) in
      rw (e, both)
      (go (fits_in (fields_of k) s slots) refl (ltb (length out) (length (told_octets k s slots))) refl)
    where
      go : (b : Bool) → fits_in (fields_of k) s slots ≡ b → (d : Bool)
          → ltb (length out) (length (told_octets k s slots)) ≡ d
          → Says (cond (fits_in (fields_of k) s slots) (less_by (length (told_octets k s slots)) (Ok (length out)))
          (Err TooLarge))
      go false p d q = rw p (rw p)
      go true p true q = rw (p, q) (rw (p, q))
      go true p false q =
          let l = ltb-false (length out) (length (told_octets k s slots)) q in
          let m : length out - (length out - length (told_octets k s slots)) ≡ length (told_octets k s slots) =
          omega arith in
          rw (p, q) (p, l, rw (p, q, m), omega arith)

  pub ready : (mid : List ℕ) (next : ℕ) → fits_in (fields_of k) s slots ≡ true
      → length (told_octets k s slots) ≤ length out
      → entry_slots ≤ length slots → length mid ≡ length out → next ≡ 0 + length (octets_of (kind_number k))
      → Ready (fields_of k) s slots 0 mid next
  ready mid next f l w m p =
      let a = length-append (octets_of (kind_number k)) (octets_in (fields_of k) s slots) in
      record { told = omega (arith, widest.enough k); fitting = f; room = omega arith }

  pub whole_out : (mid left : List ℕ) (next r n m : ℕ) → written_step k s slots out ≡ Ok n
      → length (told_octets k s slots) ≤ length out → m ≡ kind_number k → next ≡ 0 + length (octets_of m)
      → mid ≡ placed out 0 (octets_of m)
      → Puts (octets_in (fields_of k) s slots) mid next left r → left ≡ written_out k s slots out
  whole_out mid left next r n m e l h p w q =
      let a = length-append (octets_of (kind_number k)) (octets_in (fields_of k) s slots) in
      let first : Puts (octets_of (kind_number k)) out 0 mid next = record { place = p ∙ rw h; written = w ∙ rw h } in
      rw e (puts_then (octets_of (kind_number k)) (octets_in (fields_of k) s slots) out mid left 0 next r (omega arith)
      first q).written
