-- Trusted. The nine calls on tables and policies, each of which names its operator (02, E9): what each gives back, and
-- what it leaves. All of it is by the definitions of the exported calls' contracts.
--
--   Call             a call with its arguments; `operator_of` the operator that it names
--   step             the state after a call, whatever number it gives
--   Answer, answer   all that a call gives back but the tables; `number_in` its number
use Rattle.std.specs.Prelude.{ℕ, List}
use Rattle.policy.specs.Policy.{set_policy}
use Rattle.policy.specs.declared.rules.Rule.{Rule}
use Rattle.tables.specs.Calls.{open_both, open_ipsec, close_ike, close_ipsec, mark_deletion}
use Rattle.tables.specs.declared.calls.Opening.{Opening}
use Rattle.replying.specs.declared.reply.Reply.{Reply}
use Rattle.checking.specs.Checks.{Request}
use Rattle.responder.specs.Handle.{handled, handled_response}
use Rattle.initiator.specs.declared.response.Assessment.{Assessment}
use Rattle.routability.specs.Routability.{CheckResponse, checked}
use Rattle.cloning.specs.declared.clone.CloneReply.{CloneReply}
use Rattle.cloning.specs.Clone.{CloneRequest, cloned}
use Rattle.isolating.specs.State.{State, state}

-- E9: "each ... table call names operator A (0) or B (1)"; the arguments of a request, of a response to a check, of a
-- clone request and of an opening hold it. Any other number is refused.
pub data Call : Type 0 where
  opens_both : Opening → Call
  opens_ipsec : (spi owner operator : ℕ) → Call
  closes_ike : (spi operator : ℕ) → Call
  closes_ipsec : (spi operator : ℕ) → Call
  marks_deletion : (spi operator : ℕ) → Call
  sets_policy : (count : ℕ) → List Rule → (operator : ℕ) → Call
  requests : Request → Call
  checks : CheckResponse → Call
  clones : CloneRequest → Call

abbrev pub operator_of : Call → ℕ
operator_of (opens_both o) = o.agreed.operator
operator_of (opens_ipsec spi owner operator) = operator
operator_of (closes_ike spi operator) = operator
operator_of (closes_ipsec spi operator) = operator
operator_of (marks_deletion spi operator) = operator
operator_of (sets_policy n rules operator) = operator
operator_of (requests q) = q.operator
operator_of (checks q) = q.operator
operator_of (clones q) = q.operator

unfoldable pub step : Call → State → State
step (opens_both o) s =
    let a = open_both s.ike s.ipsec o in
    state a.ike a.ipsec s.policies
step (opens_ipsec spi owner operator) s =
    state s.ike (open_ipsec s.ike s.ipsec spi owner operator).ipsec s.policies
step (closes_ike spi operator) s =
    let a = close_ike s.ike s.ipsec spi operator in
    state a.ike a.ipsec s.policies
step (closes_ipsec spi operator) s =
    state s.ike (close_ipsec s.ike s.ipsec spi operator).ipsec s.policies
step (marks_deletion spi operator) s = state (mark_deletion s.ike spi operator).ike s.ipsec s.policies
step (sets_policy n rules operator) s = state s.ike s.ipsec (set_policy s.policies n rules operator).policies
step (requests q) s = state (handled s.policies s.ike s.ipsec q).ike s.ipsec s.policies
step (checks q) s =
    let a = checked s.ike s.ipsec q in
    state a.ike a.ipsec s.policies
step (clones q) s = state (cloned s.ike q).ike s.ipsec s.policies

-- E9: "one's answers, octets": the number of each call; of a request the reply, where the cookie that is handed out
-- stands in its body, and the response's octets; of the response to a check all that is told of it, the tally too; of
-- a clone request the reply and the response's octets. No answer tells a place or how many records there are. The
-- output after a call is the one that was lent, with these octets at its front (`HandledAs`, `ClonedAs`).
pub data Answer : Type 0 where
  numbered : ℕ → Answer
  replied : Reply → List ℕ → Answer
  assessed : Assessment → Answer
  clone_replied : CloneReply → List ℕ → Answer

abbrev pub number_in : Answer → ℕ
number_in (numbered n) = n
number_in (replied r octets) = r.number
number_in (assessed a) = a.number
number_in (clone_replied r octets) = r.number

unfoldable pub answer : Call → State → Answer
answer (opens_both o) s = numbered (open_both s.ike s.ipsec o).number
answer (opens_ipsec spi owner operator) s = numbered (open_ipsec s.ike s.ipsec spi owner operator).number
answer (closes_ike spi operator) s = numbered (close_ike s.ike s.ipsec spi operator).number
answer (closes_ipsec spi operator) s = numbered (close_ipsec s.ike s.ipsec spi operator).number
answer (marks_deletion spi operator) s = numbered (mark_deletion s.ike spi operator).number
answer (sets_policy n rules operator) s = numbered (set_policy s.policies n rules operator).number
answer (requests q) s =
    replied (handled s.policies s.ike s.ipsec q).reply (handled_response s.policies s.ike s.ipsec q)
answer (checks q) s = assessed (checked s.ike s.ipsec q).told
answer (clones q) s =
    let a = cloned s.ike q in
    clone_replied a.reply a.octets
