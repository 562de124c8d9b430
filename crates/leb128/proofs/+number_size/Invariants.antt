-- The proof of the cycle of calls {number_size}. The measure is the number.
use Rattle.leb128.proofs.+number_size.Given as goal

abbrev pub decreases-number_size : goal.decreases-number_size
decreases-number_size l = l.n
