-- Trusted. What is claimed of entries: "a written trace to read back the same" (02, E3), and the other way. Shown in
-- proofs/RoundTrips.antt.
--   EntryReads, EntryTold   an entry that is read, and what holds of one that was
--   Entries                 both round trips
use Rattle.std.specs.Prelude.{ℕ, ◌+◌, ◌≡◌, true, List, ◌++◌, length, drop}
use Rattle.leb128.specs.RoundTrips.{Octets}
use Rattle.fields.specs.Reading.{read}
use Rattle.fields.specs.Slots.{width, value_in, fits_in}
use Rattle.entries.specs.Kinds.{fields_of}
use Rattle.entries.specs.Entries.{Entry, entry_fits, entry_octets, entry_at}

pub record EntryReads (s : List ℕ) (at : ℕ) (e : Entry) (next : ℕ) : Type 0 where
  pub slots : List ℕ
  pub reads : entry_at s at ≡ read e slots next

pub record EntryTold (s : List ℕ) (at : ℕ) (e : Entry) (slots : List ℕ) (next : ℕ) : Type 0 where
  pub fitting : entry_fits e ≡ true
  pub place : next ≡ at + length (entry_octets e)
  pub written : drop at s ≡ entry_octets e ++ drop next s
  -- the slots tell the values, and could be written again
  pub size : length slots ≡ width (fields_of e.kind)
  pub value : value_in (fields_of e.kind) s slots ≡ e.values
  pub inside : fits_in (fields_of e.kind) s slots ≡ true

pub record Entries : Type 0 where
  pub reads_written : (e : Entry) (s : List ℕ) (at : ℕ) (rest : List ℕ) → entry_fits e ≡ true
      → drop at s ≡ entry_octets e ++ rest
      → EntryReads s at e (at + length (entry_octets e))
  pub writes_read : (s : List ℕ) (at : ℕ) (e : Entry) (slots : List ℕ) (next : ℕ) → Octets s
      → entry_at s at ≡ read e slots next
      → EntryTold s at e slots next
