-- What reading a field leaves, by how it ends. Assumes nothing.
use Prim.Native.Nat.{ℕ, ◌+◌, ◌-◌, ◌≤◌, ◌<◌}
use mathlib.Core.Path.{◌≡◌, sym, ◌∙◌}
use mathlib.Core.List.{List, [], ◌∷◌}
use native.Mathlib.Omega.{arith}
use borrow.Author.Tests.{lt-ltb, le-ltb}
use lib.ListN.{length, take, drop, set, length-set}
use Rattle.std.specs.Prelude.{Some, None, Ok, Err}
use Rattle.octets.specs.Limits.{address_octets}
use Rattle.writing.specs.Notify.{placed}
use Rattle.writing.proofs.Placed.{placed_none}
use Rattle.leb128.specs.Leb128.{decoded_at}
use Rattle.leb128.proofs.Placed.{placed_one, placed_cons}
use Rattle.fields.specs.Fields.{Field, up_to, address, string, Value, string_most}
use Rattle.fields.specs.Reading.{read, refused, read_at}
use Rattle.fields.specs.Codes.{ReadsTo}
use Rattle.fields.specs.declared.refusal.Refusal.{Refusal}
use Rattle.fields.specs.declared.refusal.Refusal.TheVariants.{Cut, TooLarge}

module _ (f : Field) (s : List ℕ) (at : ℕ) (slots : List ℕ) (slot : ℕ) where
  pub to_refused : (why : Refusal) → read_at f s at ≡ refused why [] → ReadsTo f s at slots slot slots (Err why)
  to_refused why e = record { step = rw e; told = rw e (sym (placed_none slots slot)); within = tt }

  pub to_read : (v : Value f) (sl : List ℕ) (next : ℕ) (left : List ℕ) → read_at f s at ≡ read v sl next
      → left ≡ placed slots slot sl → next ≤ length s → ReadsTo f s at slots slot left (Ok next)
  to_read v sl next left e p w = record { step = rw e; told = rw e p; within = w }

module _ (s : List ℕ) (at : ℕ) (slots : List ℕ) (slot : ℕ) where
  -- ---- a number
  pub limited_cut : (most : ℕ) → decoded_at s at ≡ None → ReadsTo (up_to most) s at slots slot slots (Err Cut)
  unfolding read_at
  limited_cut most e = to_refused (up_to most) s at slots slot Cut (rw e)

  pub limited_large : (most v next : ℕ) → decoded_at s at ≡ Some (v, next) → most < v
      → ReadsTo (up_to most) s at slots slot slots (Err TooLarge)
  unfolding read_at
  limited_large most v next e l = to_refused (up_to most) s at slots slot TooLarge (rw (e, lt-ltb most v l))

  pub limited_read : (most v next : ℕ) → decoded_at s at ≡ Some (v, next) → v ≤ most → next ≤ length s
      → slot + 1 ≤ length slots
      → ReadsTo (up_to most) s at slots slot (set slots slot v) (Ok next)
  unfolding read_at
  limited_read most v next e l w h =
      to_read (up_to most) s at slots slot v (v ∷ []) next (set slots slot v) (rw (e, le-ltb most v l))
      (placed_one slots slot v (omega arith)) w

  -- ---- an address
  pub address_cut : length s - at < address_octets → ReadsTo address s at slots slot slots (Err Cut)
  unfolding read_at
  address_cut l = to_refused address s at slots slot Cut (rw (lt-ltb (length s - at) address_octets l))

  pub address_read : at ≤ length s → address_octets ≤ length s - at → slot + 1 ≤ length slots
      → ReadsTo address s at slots slot (set slots slot at) (Ok (at + address_octets))
  unfolding read_at
  address_read i l h =
      to_read address s at slots slot (take address_octets (drop at s)) (at ∷ []) (at + address_octets)
      (set slots slot at)
      (rw (le-ltb (length s - at) address_octets l)) (placed_one slots slot at (omega arith)) (omega arith)

  -- ---- a string
  pub string_bad : decoded_at s at ≡ None → ReadsTo string s at slots slot slots (Err Cut)
  unfolding read_at
  string_bad e = to_refused string s at slots slot Cut (rw e)

  pub string_large : (v next : ℕ) → decoded_at s at ≡ Some (v, next) → string_most < v
      → ReadsTo string s at slots slot slots (Err TooLarge)
  unfolding read_at
  string_large v next e l = to_refused string s at slots slot TooLarge (rw (e, lt-ltb string_most v l))

  pub string_cut : (v next : ℕ) → decoded_at s at ≡ Some (v, next) → v ≤ string_most → length s - next < v
      → ReadsTo string s at slots slot slots (Err Cut)
  unfolding read_at
  string_cut v next e l c =
      to_refused string s at slots slot Cut (rw (e, le-ltb string_most v l, lt-ltb (length s - next) v c))

  pub string_read : (v next : ℕ) → decoded_at s at ≡ Some (v, next) → v ≤ string_most → v ≤ length s - next → next ≤ length s
      → slot + 2 ≤ length slots
      → ReadsTo string s at slots slot (set (set slots slot next) (slot + 1) v) (Ok (next + v))
  unfolding read_at
  string_read v next e l c w h =
      to_read string s at slots slot (take v (drop next s)) (next ∷ v ∷ []) (next + v)
      (set (set slots slot next) (slot + 1) v)
      (rw (e, le-ltb string_most v l, le-ltb (length s - next) v c)) two (omega arith)
    where
      two : set (set slots slot next) (slot + 1) v ≡ placed slots slot (next ∷ v ∷ [])
      two = placed_one (set slots slot next) (slot + 1) v (simp length-set (omega arith)) ∙ placed_cons slots slot next
          (v ∷ []) (omega arith)
