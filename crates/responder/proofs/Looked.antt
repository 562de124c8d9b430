-- A request is handled by what is looked up for it, the answer by the marks of one record, and the change of the tables
-- around it.
use Rattle.std.specs.Prelude.{◌≡◌, ℕ, List, length, set}
use mathlib.Core.Path.{sym, subst}
use borrow.Author.Tests.{eq-eqb, ne_eqb}
use Rattle.octets.specs.Limits.{ike_places}
use Rattle.octets.specs.Lists.{place_of}
use Rattle.policy.specs.declared.rules.Policy.{Policy}
use Rattle.writing.specs.Notify.{placed}
use Rattle.writing.proofs.Placed.{placed_none}
use Rattle.reader.specs.Chain.{count_told}
use Rattle.records.specs.Records.{ike_spi}
use Rattle.records.specs.declared.ike.IkeRecord.{IkeRecord}
use Rattle.records.specs.declared.ipsec.IpsecRecord.{IpsecRecord}
use Rattle.replying.specs.Change.{changed_by}
use Rattle.replying.specs.Reply.{refusal_reply}
use Rattle.replying.specs.declared.reply.CoreAnswer.{CoreAnswer}
use Rattle.replying.specs.declared.reply.Reply.{Reply}
use Rattle.answering.specs.Core.{core_answer, core_response}
use Rattle.checking.specs.Checks.{Request}
use Rattle.checking.specs.Lookup.{looked_up, early_number_at}
use Rattle.checking.specs.declared.lookup.Looked.{Looked}
use Rattle.responder.specs.Handle.{HandledAs, accepts, early_number, handled, handled_response}
use Rattle.responder.proofs.Counted.{payloads_counted}
use Rattle.tables.specs.Tables.{meant}

module _ (policies : List Policy) (ike : List IkeRecord) (ipsec : List IpsecRecord) (q : Request) (out : List ℕ)
    (long : length ike ≡ ike_places) where
  abbrev place : ℕ
  place = place_of ike_spi q.spi ike

  abbrev looked : Looked
  looked = looked_up (length ipsec) place (meant ike q.spi)

  abbrev answer : CoreAnswer
  answer = core_answer (accepts policies q) q.asks looked.marks

  abbrev changed : List IkeRecord
  changed = set ike place (changed_by answer q.asks.pair q.asks.check q.asks.body (meant ike q.spi))

  same_number : early_number ike ipsec q ≡ early_number_at looked q
  same_number = rw long

  counts : (r : Reply) → r ≡ (handled policies ike ipsec q).reply
      → r.payloads ≡ count_told r.number q.asks.first q.asks.body
  counts r e =
      subst (λ (x : Reply). x.payloads ≡ count_told x.number q.asks.first q.asks.body) (sym e)
      (payloads_counted policies ike ipsec q)

  -- a refusal by checks 1 to 5: the number alone, and nothing written or stored
  pub refused : (early_number_at looked q ≡ 0 → ⊥)
      → HandledAs policies ike ipsec q out (refusal_reply (early_number_at looked q)) ike out
  unfolding handled handled_response
  refused n =
      let t = ne_eqb _ 0 n in
      record {
        reply = rw (same_number, t);
        records = rw (same_number, t);
        output = rw (same_number, t) (sym (placed_none out 0));
        counts = counts (refusal_reply (early_number_at looked q)) (rw (same_number, t));
      }

  -- the core's answer, and the table after a change of one record
  pub handles : early_number_at looked q ≡ 0
      → HandledAs policies ike ipsec q out answer.reply changed
      (placed out 0 (core_response (accepts policies q) q.asks looked.marks))
  unfolding handled handled_response changed_by
  handles e =
      let t = eq-eqb _ 0 e in
      record {
        reply = rw (same_number, t);
        records = rw (same_number, t);
        output = rw (same_number, t);
        counts = counts answer.reply (rw (same_number, t));
      }
