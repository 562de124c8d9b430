-- `putting::put::tail_type` meets its contract.
-- Assumes nothing.
use Rattle.putting.proofs.Tail.{tail_typed}
use Rattle.putting.proofs.put.tail_type.Goals as goal

pub returns : goal.returns
returns c =
    let a = c.args in
    tail_typed a.no_additional a.count a.cookie_length c.type_if.result c.type_if-2.result c.type_if-3.result
    c.type_if.ensures c.type_if-2.ensures c.type_if-3.ensures
