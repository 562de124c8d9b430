-- `writing::copy_fours` meets its contract: four octets more are pasted in each round.
use Rattle.std.proofs.Common.{arith}
use Rattle.std.proofs.Math.ListN.{length-set}
use Rattle.writing.proofs.Placed.{paste_four, paste_some}
use Rattle.writing.proofs.copy_fours.Goals as goal

pub loop-i-preserved : goal.loop-i-preserved
loop-i-preserved c =
    let a = c.args in
    let l = c.loop-i in (
      omega arith,
      simp length-set l.invariant.1,
      rw l.invariant.2 (paste_four a.out.now a.at a.octets.now l.i (omega arith) (omega arith)),
    )

pub returns-clause-out_after : goal.returns-clause-out_after
returns-clause-out_after c =
    let a = c.args in
    let l = c.loop-i in
    rw l.invariant.2 (paste_some a.out.now a.at a.octets.now l.i l.invariant.0)
