-- Trusted. What the calls that read and write one entry answer (02, E3): "20 cut entry, or number not shortest or past
-- 64 bits, 21 unknown kind, 22 number, count or length too large for its field"; "Writing gives 22 alike, then 2
-- (output too short)".
--   entry_read reading                   0 and the entry, or the refusal's number and 0 in all else
--   entry_written known s slots out      0 and how many octets, or 21, 22, 2 and 0
--   entry_out known s slots out          the output on return: with a refusal, and past the octets, as it was
use Rattle.std.specs.Prelude.{ℕ, List, replicate, Option, Some, None, Result, Ok, Err}
use Rattle.writing.specs.Notify.{placed}
use Rattle.fields.specs.Reading.{Reading, read, refused}
use Rattle.fields.specs.Refusals.{refusal_number}
use Rattle.fields.specs.declared.refusal.Refusal.TheVariants.{UnknownKind, TooLarge as TooLargeFor}
use Rattle.entries.specs.Kinds.{kind_number}
use Rattle.entries.specs.Entries.{Entry}
use Rattle.entries.specs.Slots.{entry_slots}
use Rattle.entries.specs.Writing.{written_step, written_out}
use Rattle.fields.specs.declared.room.Unfit.{Unfit}
use Rattle.fields.specs.declared.room.Unfit.TheVariants.{TooShort, TooLarge}
use Rattle.entries.specs.declared.kind.Kind.{Kind}
use Rattle.entry_calls.specs.declared.read.EntryRead.{EntryRead}
use Rattle.entry_calls.specs.declared.write.EntryWritten.{EntryWritten}

abbrev pub no_slots : List ℕ
no_slots = replicate entry_slots 0

-- slots that the kind does not have are 0
abbrev pub entry_read : Reading Entry → EntryRead
entry_read (read e slots next) =
    record { number = 0; kind = kind_number e.kind; next = next; slots = placed no_slots 0 slots }
entry_read (refused why slots) = record { number = refusal_number why; kind = 0; next = 0; slots = no_slots }

abbrev pub written_as : Result ℕ Unfit → EntryWritten
written_as (Ok size) = record { number = 0; length = size }
written_as (Err TooShort) = record { number = 2; length = 0 }
written_as (Err TooLarge) = record { number = refusal_number TooLargeFor; length = 0 }

abbrev pub entry_written : Option Kind → List ℕ → List ℕ → List ℕ → EntryWritten
entry_written None s slots out = record { number = refusal_number UnknownKind; length = 0 }
entry_written (Some k) s slots out = written_as (written_step k s slots out)

abbrev pub entry_out : Option Kind → List ℕ → List ℕ → List ℕ → List ℕ
entry_out None s slots out = out
entry_out (Some k) s slots out = written_out k s slots out
