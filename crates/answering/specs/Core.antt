-- Trusted. One request on the record that it means, after checks 1 to 5: reading, steps 1 to 4, all that is given back,
-- and the record after it.
--
--   Asked             what a request asks of its record; `asked` makes one
--   chain_error        the response to a chain that is refused
--   cookie_in          COOKIE2's data, of what was seen in a body
--   decided_response   the response to a chain that was read whole, by the verdict
--   decision_on        steps 1 to 3 on what was read
--   core_notifies      the response, as notifications; `core_response` its octets
--   core_answer        what is told, and what changes in the record: `whole_answer` or `broken_answer`
--   core_result        what is told, and the record after it
use Rattle.std.specs.Prelude.{ℕ, Bool, cond, List, [], ◌∷◌, ◌==◌}
use Rattle.octets.specs.Numbers.{number_of}
use Rattle.octets.specs.declared.number.Number.TheVariants.{Done, UnknownCritical}
use Rattle.octets.specs.Wire.{invalid_syntax, unsupported_critical_payload}
use Rattle.writing.specs.Notify.{Notification, chained}
use Rattle.address.specs.declared.pair.Pair.{Pair}
use Rattle.values.specs.Values.{part_of, no_nats_seen}
use Rattle.findings.specs.declared.seen.Seen.{Seen}
use Rattle.reader.specs.Chain.{reading}
use Rattle.reader.specs.declared.read.Reading.{Reading}
use Rattle.records.specs.Records.{marks_in}
use Rattle.records.specs.declared.check.PendingCheck.{PendingCheck}
use Rattle.records.specs.declared.ike.IkeRecord.{IkeRecord}
use Rattle.records.specs.declared.ike.Marks.{Marks}
use Rattle.deciding.specs.Decide.{decided}
use Rattle.deciding.specs.declared.decide.Decision.{Decision}
use Rattle.verdict.specs.declared.update.Verdict.{Verdict}
use Rattle.responding.specs.Respond.{wants_nats, error_then, response_to, told_of}
use Rattle.replying.specs.Change.{changed_by}
use Rattle.replying.specs.Reply.{error_reply, decided_answer, unchanged_answer}
use Rattle.replying.specs.declared.reply.Reply.{Reply}
use Rattle.replying.specs.declared.reply.CoreAnswer.{CoreAnswer}

-- What a request asks of the record that its SPI means. 02, E6: the cookie and the ID of our request are "both lent with
-- every request"; here they stand as the check that they make.
pub record Asked : Type 0 where
  pub id : ℕ
  pub pair : Pair
  pub nat-source : List ℕ
  pub nat-destination : List ℕ
  pub first : ℕ
  pub body : List ℕ
  pub check : PendingCheck

-- what the core is asked: the SPI and the output's length were looked at before
abbrev pub asked : ℕ → Pair → List ℕ → List ℕ → ℕ → List ℕ → PendingCheck → Asked
asked id pair nat-source nat-destination first body check =
    record {
      id = id;
      pair = pair;
      nat-source = nat-source;
      nat-destination = nat-destination;
      first = first;
      body = body;
      check = check;
    }

-- 01, the numbers 6 and 7: "INVALID_SYNTAX (7)", "UNSUPPORTED_CRITICAL_PAYLOAD (1), data: its type"; they "copy no
-- COOKIE2". 02, E4, of 61 to 65 in 6's place: "The wire response stays."
unfoldable pub chain_error : Reading → List Notification
chain_error r =
    cond (r.number == number_of UnknownCritical)
    (error_then unsupported_critical_payload (r.critical ∷ []) [])
    (error_then invalid_syntax [] [])

abbrev pub cookie_in : List ℕ → Seen → List ℕ
cookie_in body s = part_of body s.cookie s.cookie_len

abbrev pub decided_response : Verdict → Asked → Seen → List Notification
decided_response v q s = response_to v (wants_nats s) q.nat-source q.nat-destination (cookie_in q.body s)

-- Steps 1 to 3 on what was read; here and below `accepted` says whether the policy accepts the request's pair.
abbrev pub decision_on : Bool → Asked → Marks → Decision
decision_on accepted q m =
    let s = (reading q.first q.body).seen in
    decided accepted (no_nats_seen q.body s) s q.pair q.id m

-- The response to a request that passed checks 1 to 5, by its reading; and its octets.
abbrev pub core_notifies : Bool → Asked → Marks → List Notification
core_notifies accepted q m =
    let r = reading q.first q.body in
    cond (r.number == number_of Done)
    (decided_response (decision_on accepted q m).verdict q r.seen)
    (chain_error r)

unfoldable pub core_response : Bool → Asked → Marks → List ℕ
core_response accepted q m = chained (core_notifies accepted q m) 0

-- a chain that was read whole
abbrev pub whole_answer : Bool → Asked → Marks → CoreAnswer
whole_answer accepted q m =
    let s = (reading q.first q.body).seen in
    let d = decision_on accepted q m in
    decided_answer d s (told_of (decided_response d.verdict q s))

-- a chain that was not: the record stays as it is
abbrev pub broken_answer : Asked → Marks → CoreAnswer
broken_answer q m =
    let r = reading q.first q.body in
    unchanged_answer (error_reply r.number r.offset r.ordinal (told_of (chain_error r))) m

-- The reply, and what changes in the record.
unfoldable pub core_answer : Bool → Asked → Marks → CoreAnswer
core_answer accepted q m =
    cond ((reading q.first q.body).number == number_of Done) (whole_answer accepted q m) (broken_answer q m)

-- What a request comes to on its record: the reply, and the record after it.
pub record CoreResult : Type 0 where
  pub reply : Reply
  pub entry : IkeRecord

abbrev pub core_result : Bool → Asked → IkeRecord → CoreResult
core_result accepted q r =
    let a = core_answer accepted q (marks_in r) in
    record { reply = a.reply; entry = changed_by a q.pair q.check q.body r }
