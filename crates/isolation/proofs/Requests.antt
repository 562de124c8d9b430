-- A request: its answer and what it changes by what its operator sees, and what is known where it changes its record.
use Prim.Native.Nat.{ℕ}
use mathlib.Core.Path.{◌≡◌, refl, ◌∙◌}
use mathlib.Core.List.{List, []}
use mathlib.Core.Bool.{Bool, true, false, cond}
use borrow.Author.Tests.{eqb-true}
use lib.Dec.{eqb}
use lib.ListN.{length}
use Rattle.octets.specs.Limits.{ipsec_places}
use Rattle.policy.specs.Policy.{acceptable}
use Rattle.records.specs.Records.{marks_in}
use Rattle.records.specs.declared.ike.IkeRecord.{IkeRecord}
use Rattle.tables.specs.Calls.{has_ike, owns}
use Rattle.tables.specs.Tables.{meant}
use Rattle.replying.specs.Change.{changed_by}
use Rattle.replying.specs.Reply.{refusal_reply, list_replaced}
use Rattle.replying.specs.declared.reply.CoreAnswer.{CoreAnswer}
use Rattle.replying.specs.declared.reply.Reply.{Reply}
use Rattle.answering.specs.Core.{CoreResult, core_result, core_response, core_answer}
use Rattle.checking.specs.Checks.{Request, early_number_by}
use Rattle.checking.proofs.Checks.{Passed, passed}
use Rattle.responder.specs.Handle.{early_number, handled, handled_response}
use Rattle.isolating.specs.State.{State, Own, own_in}
use Rattle.isolating.specs.Reached.{WellFormed}
use Rattle.isolating.specs.Changes as change
use Rattle.isolating.specs.Changes.{Change, applied, Allowed}
use Rattle.isolation.specs.Calls.{requests, replied, step, answer}
use Rattle.isolation.proofs.Lookup.{own_record, own_has, finds, policy_seen, owned_by, rewrites_meant, by_own}

module _ (q : Request) where
  -- by what the operator sees
  abbrev pub early_by : Own → ℕ
  early_by v = early_number_by ipsec_places (own_has v q.spi) (own_record v q.spi).agreed q

  abbrev result_by : Own → CoreResult
  result_by v = core_result (acceptable v.policy q.asks.pair) q.asks (own_record v q.spi)

  abbrev pub reply_by : Own → Reply
  reply_by v = cond (eqb (early_by v) 0) (result_by v).reply (refusal_reply (early_by v))

  abbrev pub octets_by : Own → List ℕ
  octets_by v =
      cond (eqb (early_by v) 0)
      (core_response (acceptable v.policy q.asks.pair) q.asks (marks_in (own_record v q.spi))) []

  abbrev pub request_change : Own → Change
  request_change v = cond (eqb (early_by v) 0) (change.becomes q.spi (result_by v).entry) change.stays

  -- a request changes neither the SPI of its record nor what was agreed
  kept : (a : CoreAnswer) (r : IkeRecord)
      → let new = changed_by a q.asks.pair q.asks.check q.asks.body r in
      (new.spi ≡ r.spi) × (new.agreed.operator ≡ r.agreed.operator)
  unfolding changed_by
  kept a r = go (list_replaced a) refl
    where
      go : (b : Bool) → list_replaced a ≡ b
          → let new = changed_by a q.asks.pair q.asks.check q.asks.body r in
          (new.spi ≡ r.spi) × (new.agreed.operator ≡ r.agreed.operator)
      go true e = (rw e, rw e)
      go false e = (rw e, rw e)

  module _ (s : State) (w : WellFormed s) where
    abbrev mine : Own
    mine = own_in q.operator s

    early_is : early_number s.ike s.ipsec q ≡ early_by mine
    unfolding early_number_by
    early_is =
        rw w.ipsec_places_lem
        (by_own q.operator q.spi s (λ there r. early_number_by ipsec_places there r.agreed q) (λ e. rw e) refl
        (λ e. rw e))

    early_passed : eqb (early_by mine) 0 ≡ true
        → Passed (length s.ipsec) (has_ike q.spi s.ike) (meant s.ike q.spi).agreed q
    early_passed e = passed _ _ _ q (early_is ∙ eqb-true (early_by mine) 0 e)

    early_owned : eqb (early_by mine) 0 ≡ true → owns q.operator q.spi s.ike ≡ true
    early_owned e =
        let p = early_passed e in
        owned_by q.operator q.spi s.ike p.named p.found p.own

    pub request_answer_lem : answer (requests q) s ≡ replied (reply_by mine) (octets_by mine)
    unfolding answer handled handled_response
    request_answer_lem = go (eqb (early_by mine) 0) refl
      where
        go : (b : Bool) → eqb (early_by mine) 0 ≡ b → answer (requests q) s ≡ replied (reply_by mine) (octets_by mine)
        go true e =
            rw (early_is, e, finds q.operator s q.spi (early_owned e), policy_seen q.operator s q.spi)
        go false e = rw (early_is, e)

    pub request_step : step (requests q) s ≡ applied (request_change mine) s
    unfolding step handled applied
    request_step = go (eqb (early_by mine) 0) refl
      where
        go : (b : Bool) → eqb (early_by mine) 0 ≡ b → step (requests q) s ≡ applied (request_change mine) s
        go true e =
            rw (early_is, e, finds q.operator s q.spi (early_owned e), policy_seen q.operator s q.spi)
        go false e = rw (early_is, e)

    pub request_allowed : Allowed q.operator (request_change mine) s
    request_allowed = go (eqb (early_by mine) 0) refl
      where
        go : (b : Bool) → eqb (early_by mine) 0 ≡ b
            → Allowed q.operator (cond b (change.becomes q.spi (result_by mine).entry) change.stays) s
        go false e = tt
        go true e =
            let own = early_owned e in
            let accepted = acceptable mine.policy q.asks.pair in
            let a = core_answer accepted q.asks (marks_in (meant s.ike q.spi)) in
            let k = kept a (meant s.ike q.spi) in
            rw (finds q.operator s q.spi own)
            (rewrites_meant q.operator q.spi s
            (changed_by a q.asks.pair q.asks.check q.asks.body (meant s.ike q.spi))
            k.0 k.1 (early_passed e).operator own)
