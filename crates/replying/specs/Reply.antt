-- Trusted. What is told of a request, and what it changes in its record: 01's "The numbers given back", and what an
-- answer tells in steps 1 to 4.
--
--   Reply             all that a call gives back but the tables and the output
--   refusal_reply      the reply of 1 to 5: the number alone
--   error_reply        the reply of 61 to 65 and 7: number, offset, ordinal, and what is told of the response
--   decided_reply      the reply of 0, 8 and 9, by the decision and by what was seen
--   CoreAnswer        a reply, the marks after it, and where in the body the list stands that may be kept
--   decided_answer     the answer by a decision
--   unchanged_answer   the answer that leaves the record as it is
--   moved             whether the record takes the packet's pair, and keeps the check
--   list_replaced      whether the list is kept
use Rattle.std.specs.Prelude.{ℕ, Bool}
use Rattle.findings.specs.Seen.{no_offsets}
use Rattle.findings.specs.declared.seen.Seen.{Seen}
use Rattle.records.specs.declared.ike.Marks.{Marks}
use Rattle.verdict.specs.Verdict.{verdict_number}
use Rattle.deciding.specs.Decide.{effect_number, says_done}
use Rattle.deciding.specs.declared.decide.Decision.{Decision}
use Rattle.deciding.specs.declared.decide.Effect.TheVariants.{None}
use Rattle.responding.specs.Respond.{no_response}
use Rattle.responding.specs.declared.respond.Response.{Response}
use Rattle.replying.specs.declared.reply.Reply.{Reply}
use Rattle.replying.specs.declared.reply.CoreAnswer.{CoreAnswer}

-- "6 and 7 tell the payload's offset, other answers 0"; "other numbers: none, none"; the count "is 0 with answers 1 to
-- 7"; the cookie is "empty ... with answers 1 to 7". 02, E4: "also give the payload's ordinal".
abbrev pub error_reply : ℕ → ℕ → ℕ → Response → Reply
error_reply number offset ordinal response =
    record {
      number = number;
      update = effect_number None;
      list = effect_number None;
      first = response.first;
      left_off = 0;
      payloads = 0;
      offset = offset;
      ordinal = ordinal;
      cookie = 0;
      cookie_len = 0;
      length = response.length;
    }

abbrev pub refusal_reply : ℕ → Reply
refusal_reply number = error_reply number 0 0 no_response

-- "done; tells update none, applied, stale and list none, replaced, stale"; "the answer tells how many were left off".
abbrev pub decided_reply : Decision → Seen → Response → Reply
decided_reply d s response =
    record {
      number = verdict_number d.verdict;
      update = effect_number d.update;
      list = effect_number d.list;
      first = response.first;
      left_off = d.left_off;
      payloads = s.tally.payloads;
      offset = 0;
      ordinal = 0;
      cookie = s.cookie;
      cookie_len = s.cookie_len;
      length = response.length;
    }

abbrev pub decided_answer : Decision → Seen → Response → CoreAnswer
decided_answer d s response = record { reply = decided_reply d s response; marks = d.marks; list = s.list }

abbrev pub unchanged_answer : Reply → Marks → CoreAnswer
unchanged_answer reply m = record { reply = reply; marks = m; list = no_offsets }

-- The record moves exactly where the reply says that the update was applied, and has another list exactly where it says
-- that the list was replaced.
abbrev pub moved : CoreAnswer → Bool
moved a = says_done a.reply.update

abbrev pub list_replaced : CoreAnswer → Bool
list_replaced a = says_done a.reply.list
