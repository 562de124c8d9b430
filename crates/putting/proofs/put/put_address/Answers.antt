-- `putting::put::put_address` meets its contract.
-- Assumes nothing.
use Rattle.writing.proofs.Chained.{wrote_one}
use Rattle.asking.specs.Draft.{address_notify}
use Rattle.putting.proofs.put.put_address.Goals as goal

pub returns : goal.returns
returns c =
    let a = c.args in
    let n = c.put_notify.ensures in
    let k = c.address_notify_type-notify_type.ensures in
    let w = c.width_of-width.ensures in
    wrote_one a.out.now a.at (address_notify a.address.family a.address.octets) a.next _ _ (rw (← w) n.value)
    (rw (← k, ← w) n.out_after)
