-- `wording::word::put_word` meets its contract. Assumes nothing.
use Rattle.std.proofs.Common.{◌+◌, length, refl, arith}
use Rattle.wording.proofs.Puts.{puts_one}
use Rattle.wording.proofs.word.put_word.Goals as goal

pub returns-clause-puts : goal.returns-clause-puts
returns-clause-puts c =
    let a = c.args in
    puts_one a.word.now a.out.now c.copy_octets.new.out a.at (a.at + length a.word.now) a.after c.copy_octets.ensures refl
    (omega arith)
