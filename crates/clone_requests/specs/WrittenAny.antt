-- Trusted. The whole writer: 01, "The display's end", its first paragraph, and 02, E8. What 01 says of it is `written`
-- in `requests/specs/Written.antt`; one of the two notifications of a clone is a request by itself.
--
--   asks_clone          one of the two notifications of a clone is asked for
--   one_clone           one of them is, and not the other
--   nothing_else        nothing but them is asked for
--   clone_alone         one of them is, and nothing beside it
--   clone_checks        the checks of a request for one of them, in their order; `clone_number` is answered
--   asked_notifies      the notifications of such a request, one of type `clone_type`; `asked_octets` their octets
--   written_clone       what is told of such a request
--   clone_octets        what is written for it
--   written_any         what the writer tells, whatever it is asked for: the number, the first type, the octets written
--   written_any_octets   what it writes to the start of the output
--   WrittenAnyAs       what the exported call promises of both
use Rattle.std.specs.Prelude.{ℕ, ◌≡◌, List, [], ◌∷◌, Bool, cond, ◌&&◌, ◌||◌, not, eqb, ltb, length}
use Rattle.octets.specs.declared.number.Number.TheVariants.{BadArgument, OutputTooShort}
use Rattle.octets.specs.Checks.{Check, ◌gives◌, first_failed}
use Rattle.octets.specs.Limits.{request_room}
use Rattle.octets.specs.Wire.{clone_ike_sa_supported, clone_ike_sa}
use Rattle.writing.specs.Notify.{Notification, notification, placed, first_type, chained}
use Rattle.asking.specs.Draft.{Draft}
use Rattle.asking.specs.declared.ask.Ask.{Ask}
use Rattle.asking.specs.declared.ask.CloneAsk.{CloneAsk}
use Rattle.requests.specs.Written.{not_written, written_octets, written}
use Rattle.requests.specs.declared.request.Written.{Written}

-- E8: "CLONE_IKE_SA_SUPPORTED (16432) and CLONE_IKE_SA (16433), ..., each written only alone by the display's writer
-- (else 1)".
abbrev pub asks_clone : CloneAsk → Bool
asks_clone a = a.supported || a.clone

abbrev pub one_clone : CloneAsk → Bool
one_clone a = cond a.supported (not a.clone) a.clone

-- Everything else that a request can carry: a cookie is asked for by its length. 01: "arguments for what isn't asked
-- for, aren't looked at": neither pair, addresses nor NAT values are.
abbrev pub nothing_else : Ask → ℕ → Bool
nothing_else q cookie_length =
    not q.update
    && (not q.no_nats
    && (not q.nat_source
    && (not q.nat_destination
    && (not q.no_additional
    && (eqb q.count 0
    && eqb cookie_length 0)))))

-- "each written only alone": one of the two and not the other, and nothing else.
abbrev pub clone_alone : CloneAsk → Ask → ℕ → Bool
clone_alone a q cookie_length = one_clone a && nothing_else q cookie_length

-- "(else 1)"; 01: "The writer checks 1, 2."; "2: output under 128 octets (writer: 564)".
abbrev pub clone_checks : CloneAsk → Draft → ℕ → List Check
clone_checks a q room =
    not (clone_alone a q.ask (length q.cookie)) gives BadArgument
    ∷ ltb room request_room gives OutputTooShort
    ∷ []

unfoldable pub clone_number : CloneAsk → Draft → ℕ → ℕ
clone_number a q room = first_failed (clone_checks a q room)

-- "CLONE_IKE_SA_SUPPORTED (16432) and CLONE_IKE_SA (16433), no data".
abbrev pub clone_type : CloneAsk → ℕ
clone_type a = cond a.supported clone_ike_sa_supported clone_ike_sa

abbrev pub asked_notifies : CloneAsk → List Notification
asked_notifies a = notification (clone_type a) [] ∷ []

-- 01: "Type 0 ends the chain."
abbrev pub asked_octets : CloneAsk → List ℕ
asked_octets a = chained (asked_notifies a) 0

abbrev pub clone_complete : CloneAsk → Written
clone_complete a = record { number = 0; first = first_type (asked_notifies a) 0; length = length (asked_octets a) }

-- 01: "None leaves the output untouched and reports length 0."
unfoldable pub clone_octets : CloneAsk → Draft → ℕ → List ℕ
clone_octets a q room = cond (eqb (clone_number a q room) 0) (asked_octets a) []

unfoldable pub written_clone : CloneAsk → Draft → ℕ → Written
written_clone a q room = cond (eqb (clone_number a q room) 0) (clone_complete a) (not_written (clone_number a q room))

-- The whole writer.
unfoldable pub written_any : CloneAsk → Draft → ℕ → Written
written_any a q room = cond (asks_clone a) (written_clone a q room) (written q room)

unfoldable pub written_any_octets : CloneAsk → Draft → ℕ → List ℕ
written_any_octets a q room = cond (asks_clone a) (clone_octets a q room) (written_octets q room)

-- What is promised where `out` was lent and `end` is left in it. 01: "octets past the reported length are untouched".
pub record WrittenAnyAs (a : CloneAsk) (q : Draft) (out : List ℕ) (r : Written) (end : List ℕ) : Type 0 where
  pub is : r ≡ written_any a q (length out)
  pub octets : end ≡ placed out 0 (written_any_octets a q (length out))
