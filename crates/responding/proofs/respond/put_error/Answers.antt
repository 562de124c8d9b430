-- The error, then the cookie behind it.
use Rattle.std.proofs.Common.{[], ◌∷◌, arith}
use Rattle.writing.specs.Notify.{notification}
use Rattle.writing.specs.Parts.{cookie_notifies}
use Rattle.writing.proofs.Chained.{length-one, wrote_one, wrote_both}
use Rattle.responding.proofs.Lengths.{cookie_length, responds}
use Rattle.responding.proofs.respond.put_error.Goals as goal

pub overflow_cast-result : goal.overflow_cast-result
overflow_cast-result c = omega (arith, cookie_length c.args.cookie.now)

pub returns : goal.returns
returns c =
    let a = c.args in
    let n = c.put_notify-at in
    let k = c.put_cookie-end in
    let t = c.cookie_type-next in
    let x = notification a.notify_type a.octets.now in
    let ys = cookie_notifies a.cookie.now in
    responds (x ∷ ys) a.out.now k.new.out k.result
    (wrote_both a.out.now 0 (x ∷ []) ys 0 t.result n.new.out k.new.out n.result k.result t.ensures
    (omega (arith, length-one x t.result, cookie_length a.cookie.now))
    (wrote_one a.out.now 0 x t.result n.new.out n.result n.ensures.value n.ensures.out_after)
    k.ensures)
