-- The core's two ways out, in terms of what its callees gave.
use Rattle.std.specs.Prelude.{◌≡◌, ℕ, Bool, List}
use borrow.Author.Tests.{eq-eqb, ne_eqb}
use Rattle.writing.specs.Notify.{Notification, chained}
use Rattle.values.specs.Values.{no_nats_seen}
use Rattle.reader.specs.Chain.{reading}
use Rattle.reader.specs.declared.read.Reading.{Reading}
use Rattle.records.specs.declared.ike.Marks.{Marks}
use Rattle.deciding.specs.Decide.{decided}
use Rattle.deciding.specs.declared.decide.Decision.{Decision}
use Rattle.responding.specs.Respond.{wants_nats, response_to, told_of}
use Rattle.responding.specs.declared.respond.Response.{Response}
use Rattle.replying.specs.Reply.{error_reply, decided_answer, unchanged_answer}
use Rattle.replying.specs.declared.reply.Reply.{Reply}
use Rattle.answering.specs.Core.{Asked, cookie_in, chain_error, core_answer, core_response}

module _ (accepted : Bool) (q : Asked) (m : Marks) (r : Reading) (read : r ≡ reading q.first q.body) where
  -- a chain that was read whole
  module _ (whole : r.number ≡ 0) (d : Decision) (w : Bool) (k : List ℕ)
      (de : d ≡ decided accepted (no_nats_seen q.body r.seen) r.seen q.pair q.id m)
      (we : w ≡ wants_nats r.seen) (ke : k ≡ cookie_in q.body r.seen) where
    abbrev response : List Notification
    response = response_to d.verdict w q.nat-source q.nat-destination k

    pub done_response : chained response 0 ≡ core_response accepted q m
    unfolding core_response
    done_response = rw (← read, eq-eqb r.number 0 whole, ← de, we, ke)

    pub done_result : (t : Response) → t ≡ told_of response → decided_answer d r.seen t ≡ core_answer accepted q m
    unfolding core_answer
    done_result t te = rw (← read, eq-eqb r.number 0 whole, ← de, te, we, ke)

  -- a chain that was refused
  module _ (broken : r.number ≡ 0 → ⊥) where
    pub refused_response : chained (chain_error r) 0 ≡ core_response accepted q m
    unfolding core_response
    refused_response = rw (← read, ne_eqb r.number 0 broken)

    pub refused_result : (reply : Reply)
        → reply ≡ error_reply r.number r.offset r.ordinal (told_of (chain_error r))
        → unchanged_answer reply m ≡ core_answer accepted q m
    unfolding core_answer
    refused_result reply re = rw (← read, ne_eqb r.number 0 broken, re)
