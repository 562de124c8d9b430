-- Trusted. Writing one entry into an output (02, E3): "Writing gives 22 alike, then 2 (output too short)".
--   told_octets k s slots         the octets of the entry that the slots tell, s being the lent buffer
--   written_step k s slots out    how many octets, or TooShort (2) or TooLarge (22)
--   written_out k s slots out     the output on return: with a refusal, and past the octets, as it was
use Rattle.std.specs.Prelude.{ℕ, cond, List, ◌++◌, ltb, length, Result, Ok, Err}
use Rattle.writing.specs.Notify.{placed}
use Rattle.leb128.specs.Leb128.{octets_of}
use Rattle.fields.specs.Slots.{fits_in}
use Rattle.fields.specs.Writing.{octets_in}
use Rattle.entries.specs.Kinds.{kind_number, fields_of}
use Rattle.entries.specs.declared.kind.Kind.{Kind}
use Rattle.fields.specs.declared.room.Unfit.{Unfit}
use Rattle.fields.specs.declared.room.Unfit.TheVariants.{TooShort, TooLarge}

abbrev pub told_octets : Kind → List ℕ → List ℕ → List ℕ
told_octets k s slots = octets_of (kind_number k) ++ octets_in (fields_of k) s slots

abbrev pub written_step : Kind → List ℕ → List ℕ → List ℕ → Result ℕ Unfit
written_step k s slots out =
    let size = length (told_octets k s slots) in
    cond (fits_in (fields_of k) s slots) (cond (ltb (length out) size) (Err TooShort) (Ok size)) (Err TooLarge)

abbrev pub written_by : Result ℕ Unfit → List ℕ → List ℕ → List ℕ
written_by (Ok n) octets out = placed out 0 octets
written_by (Err why) octets out = out

abbrev pub written_out : Kind → List ℕ → List ℕ → List ℕ → List ℕ
written_out k s slots out = written_by (written_step k s slots out) (told_octets k s slots) out
