-- The constant is the number that it writes.
use Rattle.std.proofs.Common.{refl}
use lib.Ieee.{of_bits}
use Rattle.paths.proofs.path.Path.first.Goals as goal

pub returns : goal.returns
unfolding of_bits
returns c = refl
