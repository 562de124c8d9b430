-- The constants are the numbers that they write.
use lib.Ieee.{of_bits}
use Rattle.paths.proofs.path.Path.later.Goals as goal

pub returns : goal.returns
unfolding of_bits
returns c = rw c.deviation.ensures
