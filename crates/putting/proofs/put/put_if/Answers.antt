-- `putting::put::put_if` meets its contract.
-- Assumes nothing.
use Rattle.std.proofs.Common.{sym, arith}
use Rattle.writing.specs.Notify.{notification, chained}
use Rattle.writing.proofs.Placed.{placed_none}
use Rattle.writing.proofs.Chained.{wrote_one}
use Rattle.putting.proofs.put.put_if.Goals as goal

pub returns-then-asked : goal.returns-then-asked
returns-then-asked c =
    let a = c.args in
    let n = c.put_notify in
    let one = notification a.notify_type a.octets.now in
    rw c.if-asked.true
    (wrote_one a.out.now a.at one a.next n.new.out n.result n.ensures.value n.ensures.out_after)

pub returns : goal.returns
unfolding chained
returns c =
    let a = c.args in
    rw c.if-asked.false (record { offset = omega arith; octets = sym (placed_none a.out.now a.at) })
