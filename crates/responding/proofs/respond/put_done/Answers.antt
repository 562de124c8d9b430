-- The two values, then the cookie behind them.
use Rattle.std.proofs.Common.{[], ◌∷◌, refl, arith}
use Rattle.octets.specs.Wire.{nat_detection_destination_ip, nat_detection_source_ip, notify_payload}
use Rattle.writing.specs.Notify.{notification}
use Rattle.writing.specs.Parts.{cookie_notifies}
use Rattle.writing.proofs.Chained.{length-one, wrote_one, wrote_both}
use Rattle.responding.proofs.Lengths.{cookie_length, responds}
use Rattle.responding.proofs.respond.put_done.Goals as goal

pub overflow_cast-result : goal.overflow_cast-result
overflow_cast-result c = omega (arith, cookie_length c.args.cookie.now)

pub returns-then-wanted : goal.returns-then-wanted
returns-then-wanted c =
    let a = c.args in
    let m = c.put_notify-at in
    let n = c.put_notify-behind in
    let k = c.put_cookie-end in
    let t = c.cookie_type-next in
    let x = notification nat_detection_source_ip a.nat_source.now in
    let y = notification nat_detection_destination_ip a.nat_destination.now in
    let ys = cookie_notifies a.cookie.now in
    let long = length-one x notify_payload in
    let long-2 = length-one y t.result in
    let tail = cookie_length a.cookie.now in
    let second =
    wrote_both m.new.out m.result (y ∷ []) ys 0 t.result n.new.out k.new.out n.result k.result
    t.ensures (omega (arith, long-2, tail))
    (wrote_one m.new.out m.result y t.result n.new.out n.result n.ensures.value n.ensures.out_after)
    k.ensures in
    let all =
    wrote_both a.out.now 0 (x ∷ []) (y ∷ ys) 0 notify_payload m.new.out k.new.out m.result k.result refl
    (omega (arith, long, second.offset))
    (wrote_one a.out.now 0 x notify_payload m.new.out m.result m.ensures.value m.ensures.out_after) second in
    rw c.if-wanted.true (responds (x ∷ y ∷ ys) a.out.now k.new.out k.result all)

pub overflow_cast-result-2 : goal.overflow_cast-result-2
overflow_cast-result-2 c = omega (arith, cookie_length c.args.cookie.now)
