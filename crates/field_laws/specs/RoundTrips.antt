-- Trusted. What is claimed of every field, and so of every table of fields: "a written trace to read back the same"
-- (02, E3), both ways; when it is refused; and that the slots tell the value. Shown in proofs/RoundTrips.antt.
--   Narrow f                  its numbers have 64 bits at most
--   Reads f s at v next       v is read at `at`, and `next` is the place after it
--   Told f s at v slots next  what holds of a value that was read
use Rattle.std.specs.Prelude.{ℕ, ◌+◌, ◌^◌, ◌<◌, ◌≡◌, true, List, ◌++◌, length, drop}
use Rattle.leb128.specs.RoundTrips.{Octets}
use Rattle.fields.specs.Fields.{Field, up_to, address, string, none, ◌then◌, list_of, Value, fits, octets}
use Rattle.fields.specs.Reading.{read, refused, read_at}
use Rattle.fields.specs.Slots.{width, value_in, fits_in}
use Rattle.fields.specs.declared.refusal.Refusal.{Refusal}

abbrev pub Narrow : Field → Type 0
Narrow (up_to most) = most < 2 ^ 64
Narrow address = Unit {0}
Narrow string = Unit {0}
Narrow none = Unit {0}
Narrow (f then g) = Narrow f × Narrow g
Narrow (list_of f) = Narrow f

pub record Reads (f : Field) (s : List ℕ) (at : ℕ) (v : Value f) (next : ℕ) : Type 0 where
  pub slots : List ℕ
  pub reads : read_at f s at ≡ read v slots next

pub record Told (f : Field) (s : List ℕ) (at : ℕ) (v : Value f) (slots : List ℕ) (next : ℕ) : Type 0 where
  pub fitting : fits f v ≡ true
  pub place : next ≡ at + length (octets f v)
  pub written : drop at s ≡ octets f v ++ drop next s
  -- the slots are as many as the field has, tell the value, and could be written again
  pub size : length slots ≡ width f
  pub value : value_in f s slots ≡ v
  pub inside : fits_in f s slots ≡ true

pub record RoundTrips (f : Field) : Type 0 where
  pub reads_written : (v : Value f) (s : List ℕ) (at : ℕ) (rest : List ℕ) → fits f v ≡ true
      → drop at s ≡ octets f v ++ rest → Reads f s at v (at + length (octets f v))
  pub writes_read : (s : List ℕ) (at : ℕ) (v : Value f) (slots : List ℕ) (next : ℕ) → Octets s
      → read_at f s at ≡ read v slots next → Told f s at v slots next
  -- what is refused is no value's octets
  pub none_read : (s : List ℕ) (at : ℕ) (why : Refusal) (slots : List ℕ) → read_at f s at ≡ refused why slots
      → (v : Value f) (rest : List ℕ) → fits f v ≡ true → drop at s ≡ octets f v ++ rest → ⊥
  -- slots that fit tell a value that fits
  pub told_fits : (s slots : List ℕ) → fits_in f s slots ≡ true → fits f (value_in f s slots) ≡ true

abbrev pub EachField : Type 0
EachField = (f : Field) → Narrow f → RoundTrips f
