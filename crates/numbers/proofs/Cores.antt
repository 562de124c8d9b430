-- What the core comes to on a record, by what is decided on the record's marks.
use Prim.Native.Nat.{ℕ, min}
use mathlib.Core.Path.{◌≡◌, refl}
use mathlib.Core.List.{List}
use mathlib.Core.Bool.{Bool, true, false, cond}
use borrow.Author.Tests.{eq-eqb, ne_eqb}
use lib.ListN.{length}
use Rattle.octets.specs.Limits.{addresses_most}
use Rattle.writing.specs.Notify.{Notification, first_type, chained}
use Rattle.values.specs.Values.{addresses_in}
use Rattle.reader.specs.Chain.{reading}
use Rattle.records.specs.Records.{marks_in, rewritten, remarked, relisted}
use Rattle.records.specs.declared.ike.IkeRecord.{IkeRecord}
use Rattle.records.specs.declared.ike.Marks.{Marks}
use Rattle.verdict.specs.Verdict.{verdict_number}
use Rattle.verdict.specs.declared.update.Verdict.{Verdict}
use Rattle.answering.specs.Core.{decided_response, chain_error, decision_on, core_answer, core_response, core_result}
use Rattle.replying.specs.Change.{changed_by}
use Rattle.checking.specs.Checks.{Request}
use Rattle.responder.specs.Handle.{seen_in}
use Rattle.numbers.proofs.Decisions.{Comes}

-- the number that reading the chain gives
abbrev pub chain_number : Request → ℕ
chain_number q = (reading q.asks.first q.asks.body).number

-- the record after a decision: whether it moves and keeps the check (u), whether its list is replaced (l), and its
-- marks and tally (m)
abbrev pub entry_by : Request → IkeRecord → Bool → Bool → Marks → IkeRecord
entry_by q e u l m =
    let list = (seen_in q).list in
    rewritten (cond u q.asks.pair e.pair) m.update_mark m.list_mark
    (cond l (min list.count addresses_most) e.count)
    (cond l (addresses_in q.asks.body list) e.addresses) m.unknown (cond u q.asks.check e.check) e

-- number, response with what is told of it, and the record after it
pub record CoreComes (accepted : Bool) (q : Request) (e : IkeRecord) (n : ℕ) (response : List Notification)
    (after : IkeRecord) : Type 0 where
  pub number : (core_result accepted q.asks e).reply.number ≡ n
  pub octets : core_response accepted q.asks (marks_in e) ≡ chained response 0
  pub first : (core_result accepted q.asks e).reply.first ≡ first_type response 0
  pub long : (core_result accepted q.asks e).reply.length ≡ length (chained response 0)
  pub entry : (core_result accepted q.asks e).entry ≡ after

module _ (accepted : Bool) (q : Request) (e : IkeRecord) where
  pub core_refused : (chain_number q ≡ 0 → ⊥)
      → CoreComes accepted q e (chain_number q) (chain_error (reading q.asks.first q.asks.body)) e
  unfolding core_answer core_response changed_by
  core_refused n = let g = ne_eqb (chain_number q) 0 n in
      record { number = rw g; octets = rw g; first = rw g; long = rw g; entry = rw g }

  pub core_decided : chain_number q ≡ 0 → {v : Verdict} {u l : Bool} {m : Marks}
      → Comes v u l m (decision_on accepted q.asks (marks_in e))
      → CoreComes accepted q e (verdict_number v) (decided_response v q.asks (seen_in q)) (entry_by q e u l m)
  unfolding core_answer core_response changed_by
  core_decided w {v} {u} {l} {m} c =
      let g = eq-eqb (chain_number q) 0 w in
      record {
        number = rw (g, c.verdict_is);
        octets = rw (g, c.verdict_is);
        first = rw (g, c.verdict_is);
        long = rw (g, c.verdict_is);
        entry = rw (g, c.moves, c.relists, c.marks) (go l);
      }
    where
      go : (b : Bool)
          → let new = remarked m u q.asks.pair q.asks.check e in
          cond b (relisted (min (seen_in q).list.count addresses_most) (addresses_in q.asks.body (seen_in q).list)
          new) new ≡ entry_by q e u b m
      go true = refl
      go false = refl
