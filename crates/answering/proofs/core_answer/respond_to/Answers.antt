-- The reading says which way it goes.
use Rattle.std.proofs.Common.{◌≡◌, length, ◌≤◌, sym, ap, ◌∙◌}
use Rattle.octets.specs.Limits.{cookie_most}
use Rattle.writing.specs.Notify.{placed}
use Rattle.reader.specs.declared.read.Reading.{Reading}
use Rattle.answering.specs.Request.{asked_by}
use Rattle.answering.proofs.Lengths.{cookie_part}
use Rattle.answering.proofs.Ways.{done_response, done_result, refused_response, refused_result}
use Rattle.answering.proofs.core_answer.respond_to.Goals as goal

pub respond_decided-response-requires-clause-response_room_in_bounds :
    goal.respond_decided-response-requires-clause-response_room_in_bounds
respond_decided-response-requires-clause-response_room_in_bounds c =
    let a = c.args in
    let read = ap (λ (x : Reading). x.seen) c.requires.body_len_bound.1 in
    let short : length c.cookie.result.now ≤ cookie_most =
    rw c.cookie.ensures (cookie_part a.request.now.first a.request.now.body.now a.read.seen read) in
    (c.requires.response_room_in_bounds, short)

pub returns : goal.returns
returns c =
    let a = c.args in
    let d = c.decide-d in
    let w = c.wants_nats in
    let k = c.cookie in
    let o = c.respond_decided-response in
    let read = c.requires.body_len_bound.1 in
    let whole = c.if-read-from.false ∙ c.from.ensures in
    let q = asked_by a.request.now in (
      c.decided.ensures
          ∙ done_result a.accepted q a.marks a.read read whole d.result w.result k.result.now
          d.ensures w.ensures k.ensures o.result o.ensures.told,
      o.ensures.octets ∙ ap (placed a.out.now 0)
          (done_response a.accepted q a.marks a.read read whole d.result w.result k.result.now
          d.ensures w.ensures k.ensures),
    )

pub returns-then-read-from : goal.returns-then-read-from
returns-then-read-from c =
    let a = c.args in
    let e = c.refuse_chain in
    let read = c.requires.body_len_bound.1 in
    let broken : (a.read.number ≡ 0 → ⊥) = λ x. c.if-read-from.true (x ∙ sym c.from.ensures) in
    let q = asked_by a.request.now in (
      c.unchanged.ensures ∙ refused_result a.accepted q a.marks a.read read broken e.result e.ensures.value,
      e.ensures.out_after ∙ ap (placed a.out.now 0) (refused_response a.accepted q a.marks a.read read broken),
    )
