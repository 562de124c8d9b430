-- The measure of `wording::number::put_decimal` is the number.
use Rattle.wording.proofs.number.+put_decimal.Given as goal

abbrev pub decreases-put_decimal : goal.decreases-put_decimal
decreases-put_decimal l = l.n
