-- Inner. Tables of fields as the code has them, and how far the code has come in one. `specs/` of whoever has a table
-- says which fields it has.
use Rattle.std.specs.Prelude.{ℕ, zero, suc, ◌+◌, ◌≤◌, ◌≡◌, true, List, map, length, drop, Result, Ok, Err}
use Rattle.writing.specs.Notify.{placed}
use Rattle.fields.specs.Fields.{Field, up_to, address, string, none, ◌then◌, in_order}
use Rattle.fields.specs.Slots.{width, fits_in}
use Rattle.fields.specs.Writing.{octets_in}
use Rattle.fields.specs.Reading.{read_at, step_of, slots_of}
use Rattle.fields.specs.declared.field_type.FieldType.{FieldType}
use Rattle.fields.specs.declared.field_type.FieldType.TheVariants.{Number, Address, OctetString}
use Rattle.fields.specs.declared.refusal.Refusal.{Refusal}

abbrev pub field_of : FieldType → Field
field_of (Number most) = up_to most
field_of Address = address
field_of OctetString = string

-- a whole table
abbrev pub table_of : List FieldType → Field
table_of types = in_order (map field_of types)

-- from the place i of a table on
unfoldable pub rest_from : List FieldType → ℕ → Field
rest_from types i = in_order (drop i (map field_of types))

-- so many times the same field
abbrev pub many : ℕ → Field → Field
many zero f = none
many (suc n) f = f then many n f

-- ---- what reading a field leaves: the offset after it or why it is refused, and the slots

-- what was read ends within the buffer
abbrev pub Within : List ℕ → Result ℕ Refusal → Type 0
Within s (Ok next) = next ≤ length s
Within s (Err why) = Unit {0}

pub record ReadsTo (f : Field) (s : List ℕ) (at : ℕ) (slots : List ℕ) (slot : ℕ) (left : List ℕ) (r : Result ℕ Refusal) : Type
    0 where
  pub step : r ≡ step_of (read_at f s at)
  pub told : left ≡ placed slots slot (slots_of (read_at f s at))
  pub within : Within s r

-- ---- what writing a field needs, and leaves: the octets at their offset, and the offset after them
pub record Ready (f : Field) (s slots : List ℕ) (slot : ℕ) (out : List ℕ) (at : ℕ) : Type 0 where
  pub told : slot + width f ≤ length slots
  pub fitting : fits_in f s (drop slot slots) ≡ true
  pub room : at + length (octets_in f s (drop slot slots)) ≤ length out

pub record Puts (octets out : List ℕ) (at : ℕ) (left : List ℕ) (r : ℕ) : Type 0 where
  pub place : r ≡ at + length octets
  pub written : left ≡ placed out at octets
