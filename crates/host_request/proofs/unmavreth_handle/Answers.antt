-- What was looked up, received, decided and stored is the request handled as defined; the policy is asked only where the
-- request asks for it, which decides alike.
use Rattle.std.proofs.Common.{length, sym, ap, ◌∙◌}
use Rattle.records.specs.Records.{marks_in}
use Rattle.records.specs.Pending.{check_of}
use Rattle.tables.specs.Tables.{meant}
use Rattle.answering.specs.Core.{asked}
use Rattle.checking.specs.Checks.{request_of}
use Rattle.checking.proofs.Checks.{passed}
use Rattle.responder.specs.Handle.{accepts}
use Rattle.responder.specs.declared.receive.Received.{Received}
use Rattle.responder.proofs.Looked.{refused, handles}
use Rattle.responder.proofs.Received.{asked_alike}
use Rattle.host_request.proofs.unmavreth_handle.Goals as goal

pub returns-in-Err : goal.returns-in-Err
returns-in-Err c =
    let a = c.args in
    let policies = a.policies.now in
    let ike = a.ike.now in
    let ipsec = a.ipsec.now in
    let check = check_of a.cookie.now a.check_id in
    let asks = asked a.id a.pair a.nat_source.now a.nat_destination.now a.first a.body.now check in
    let q = request_of a.spi asks (length a.out.now) a.operator in
    let number =
    rw (
      c.of.ensures,
      c.new-looked.ensures,
      c.ike_at.ensures,
      c.ike_place-place.ensures,
    ) at c.in-Err.ensures.value in
    rw (c.refusal.ensures, number)
    (refused policies ike ipsec q a.out.now c.told-ike (λ e. c.in-Err.ensures.refused (number ∙ e)))

pub respond_to-answer-requires-clause-response_room_in_bounds :
    goal.respond_to-answer-requires-clause-response_room_in_bounds
respond_to-answer-requires-clause-response_room_in_bounds c =
    (passed _ _ _ _ (sym c.in-Ok.ensures.value)).room_enough

pub respond_to-answer-requires-clause-nats_sized : goal.respond_to-answer-requires-clause-nats_sized
respond_to-answer-requires-clause-nats_sized c =
    let p = passed _ _ _ _ (sym c.in-Ok.ensures.value) in
    (p.nat-source, p.nat-destination)

pub respond_to-answer-requires-clause-body_len_bound : goal.respond_to-answer-requires-clause-body_len_bound
respond_to-answer-requires-clause-body_len_bound c = (
  (passed _ _ _ _ (sym c.in-Ok.ensures.value)).short,
  ap (λ (x : Received). x.read) c.in-Ok.ensures.received,
)

pub returns : goal.returns
returns c =
    let a = c.args in
    let policies = a.policies.now in
    let ike = a.ike.now in
    let ipsec = a.ipsec.now in
    let check = check_of a.cookie.now a.check_id in
    let asks = asked a.id a.pair a.nat_source.now a.nat_destination.now a.first a.body.now check in
    let q = request_of a.spi asks (length a.out.now) a.operator in
    let number =
    rw (
      c.of.ensures,
      c.new-looked.ensures,
      c.ike_at.ensures,
      c.ike_place-place.ensures,
    ) at c.in-Ok.ensures.value in
    let alike = asked_alike asks (marks_in (meant ike a.spi)) (accepts policies q) in
    rw (
      c.ike_change.ensures,
      c.respond_to-answer.ensures.1,
      c.respond_to-answer.ensures.0,
      c.accepts_if-accepted.ensures,
      c.in-Ok.ensures.received,
      c.of.ensures,
      c.new-looked.ensures,
      c.ike_at.ensures,
      c.ike_place-place.ensures,
      alike.0,
      alike.1,
    )
    (handles policies ike ipsec q a.out.now c.told-ike (sym number))
