-- `wording::number::put_digits` meets its contract. Assumes nothing.
use Rattle.std.proofs.Common.{arith}
use Rattle.wording.specs.Text.{decimal}
use Rattle.wording.proofs.Puts.{puts_one}
use Rattle.wording.proofs.number.put_digits.Goals as goal

pub returns : goal.returns
returns c =
    let a = c.args in
    let d = c.put_decimal-end in
    puts_one (decimal a.n) a.out.now d.new.out a.at d.result a.after d.ensures.out_after d.ensures.value
    (omega arith)
