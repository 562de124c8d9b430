-- `putting::put::put_nats` meets its contract.
-- Assumes nothing.
use Rattle.std.proofs.Common.{[], ◌∷◌, refl, sym, arith}
use Rattle.octets.specs.Wire.{notify_payload, nat_detection_source_ip, nat_detection_destination_ip}
use Rattle.writing.specs.Notify.{notification, chained}
use Rattle.writing.proofs.Placed.{placed_none}
use Rattle.writing.proofs.Chained.{length-one, wrote_one, wrote_both}
use Rattle.putting.proofs.put.put_nats.Goals as goal

pub returns-then-asked : goal.returns-then-asked
returns-then-asked c =
    let a = c.args in
    let n = c.requires.nat_source_len c.if-asked.true in
    let k = c.put_notify-end in
    let r = c.put_notify in
    let x = notification nat_detection_source_ip a.nat_source.now in
    let y = notification nat_detection_destination_ip a.nat_destination.now in
    rw c.if-asked.true
    (wrote_both a.out.now a.at (x ∷ []) (y ∷ []) a.next notify_payload k.new.out r.new.out k.result r.result refl
    (omega (arith, n.0, n.1, length-one x notify_payload, length-one y a.next))
    (wrote_one a.out.now a.at x notify_payload k.new.out k.result k.ensures.value k.ensures.out_after)
    (wrote_one k.new.out k.result y a.next r.new.out r.result r.ensures.value r.ensures.out_after))

pub returns : goal.returns
unfolding chained
returns c =
    let a = c.args in
    rw c.if-asked.false (record { offset = omega arith; octets = sym (placed_none a.out.now a.at) })
