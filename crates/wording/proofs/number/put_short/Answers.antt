-- `wording::number::put_short` meets its contract: a number of its bits takes no more room. Assumes nothing.
use Rattle.std.proofs.Common.{arith}
use Rattle.wording.proofs.Digits.{at_most_five}
use Rattle.wording.proofs.Puts.{place_one}
use Rattle.wording.proofs.number.put_short.Goals as goal

pub put_digits-requires : goal.put_digits-requires
put_digits-requires c = omega (arith, at_most_five c.args.n c.ranges.n.fits)

pub returns-clause-upper_bound : goal.returns-clause-upper_bound
returns-clause-upper_bound c =
    omega (arith, at_most_five c.args.n c.ranges.n.fits, place_one c.put_digits.ensures)
