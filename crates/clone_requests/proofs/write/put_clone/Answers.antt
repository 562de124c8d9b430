-- `clone_requests::write::put_clone` meets its contract.
-- Assumes nothing.
use Rattle.std.proofs.Common.{[]}
use Rattle.writing.specs.Notify.{notification}
use Rattle.writing.proofs.Chained.{length-one, chained_one}
use Rattle.clone_requests.proofs.write.put_clone.Goals as goal

pub returns : goal.returns
returns c =
    let n = c.put_notify-end in
    let t = c.clone_type in
    let x = notification t.result [] in (
      rw (n.ensures.value, ← t.ensures, length-one x 0),
      rw (← t.ensures, chained_one x 0) n.ensures.out_after,
    )
