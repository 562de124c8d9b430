-- Trusted. What the writer writes, and what it tells of it: 01, "The display's end", its first paragraph.
--
--   room             the length of the output
--   write_checks      the checks of the writer, in their order
--   write_number      the number that it answers
--   written_octets    what it writes to the start of the output
--   written          what it tells: the number, the type of the first payload, the octets written
--   WrittenAs        what the exported call promises of both
use Rattle.std.specs.Prelude.{ℕ, ◌≡◌, List, [], ◌∷◌, cond, not, eqb, ltb, length}
use Rattle.octets.specs.declared.number.Number.TheVariants.{BadArgument, OutputTooShort}
use Rattle.octets.specs.Checks.{Check, ◌gives◌, first_failed}
use Rattle.octets.specs.Limits.{request_room}
use Rattle.writing.specs.Notify.{placed, first_type}
use Rattle.asking.specs.Draft.{Draft, requested, request_octets}
use Rattle.asking.specs.Fits.{request_fits}
use Rattle.requests.specs.declared.request.Written.{Written}

-- 01: "The writer checks 1, 2."; "2: output under 128 octets (writer: 564)".
abbrev pub write_checks : Draft → ℕ → List Check
write_checks q room =
    not (request_fits q) gives BadArgument
    ∷ ltb room request_room gives OutputTooShort
    ∷ []

unfoldable pub write_number : Draft → ℕ → ℕ
write_number q room = first_failed (write_checks q room)

-- 01: "None leaves the output untouched and reports length 0."
unfoldable pub written_octets : Draft → ℕ → List ℕ
written_octets q room = cond (eqb (write_number q room) 0) (request_octets q) []

-- 01: "Asked for nothing, it answers first type 0 and length 0."
abbrev pub complete : Draft → Written
complete q = record { number = 0; first = first_type (requested q) 0; length = length (request_octets q) }

abbrev pub not_written : ℕ → Written
not_written number = record { number = number; first = 0; length = 0 }

unfoldable pub written : Draft → ℕ → Written
written q room = cond (eqb (write_number q room) 0) (complete q) (not_written (write_number q room))

-- What is promised where `out` was lent and `end` is left in it. 01: "octets past the reported length are untouched".
pub record WrittenAs (q : Draft) (out : List ℕ) (r : Written) (end : List ℕ) : Type 0 where
  pub is : r ≡ written q (length out)
  pub octets : end ≡ placed out 0 (written_octets q (length out))
