-- No cookie leaves the output as it was; one is written as one notification.
use Rattle.std.proofs.Common.{eq-eqb, ne_eqb, sym, arith}
use Rattle.octets.specs.Wire.{cookie2}
use Rattle.writing.specs.Notify.{notification, chained}
use Rattle.writing.proofs.Placed.{placed_none}
use Rattle.writing.proofs.Chained.{wrote_one}
use Rattle.responding.proofs.respond.put_cookie.Goals as goal

pub returns-then-cookie-eq0 : goal.returns-then-cookie-eq0
unfolding chained
returns-then-cookie-eq0 c =
    rw (eq-eqb _ _ c.if-cookie-eq0.true) (record { offset = omega arith; octets = sym (placed_none _ _) })

pub returns : goal.returns
returns c =
    let a = c.args in
    let n = c.put_notify in
    let x = notification cookie2 a.cookie.now in
    let w = wrote_one a.out.now a.at x 0 n.new.out n.result n.ensures.value n.ensures.out_after in
    rw (ne_eqb _ _ c.if-cookie-eq0.false) w
