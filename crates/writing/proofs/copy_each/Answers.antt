-- `writing::copy_each` meets its contract: one octet more is pasted in each round, and at the end all of them are.
use Rattle.std.proofs.Common.{◌≡◌, length, arith, add-one, rules}
use Rattle.std.proofs.Math.Seq.{paste-suc}
use Rattle.writing.proofs.Placed.{paste_all}
use Rattle.writing.proofs.copy_each.Goals as goal

pub loop-i-preserved : goal.loop-i-preserved
loop-i-preserved c =
    let a = c.args in
    let l = c.loop-i in (
      omega arith,
      search rules,
      rw (l.invariant.2, add-one) (paste-suc a.out.now a.at a.octets.now l.i 0 (omega arith) (omega arith)),
    )

pub returns : goal.returns
returns c =
    let a = c.args in
    let l = c.loop-i in
    let all : l.i ≡ length a.octets.now = omega arith in
    rw (l.invariant.2, all) (paste_all a.out.now a.at a.octets.now)
