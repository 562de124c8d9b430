-- `leb128::number_size` meets its contract, octet by octet.
use Rattle.std.proofs.Common.{◌/◌, length, sym, ap, arith}
use Rattle.leb128.proofs.Octets.{octets_small, octets_large, at_most_ten}
use Rattle.leb128.proofs.+number_size.Goals as goal

pub returns-then-n-lt128 : goal.returns-then-n-lt128
returns-then-n-lt128 t c = sym (ap length (octets_small _ c.if-n-lt128.true))

pub overflow_add-result : goal.overflow_add-result
overflow_add-result t c = let n = c.args.n in omega (arith, c.number_size.ensures, at_most_ten (n / 128))

pub returns-else-n-lt128 : goal.returns-else-n-lt128
returns-else-n-lt128 t c =
    let l = ap length (octets_large _ c.ranges.n.fits c.if-n-lt128.false) in
    omega (arith, l, c.number_size.ensures)
