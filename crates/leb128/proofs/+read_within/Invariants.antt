-- The proof of the cycle of calls {read_within}. The measure is the number of octets that may follow.
use Rattle.leb128.proofs.+read_within.Given as goal

abbrev pub decreases-read_within : goal.decreases-read_within
decreases-read_within l = l.left
