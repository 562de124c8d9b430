-- A start clears all: the constant is the number that it writes.
use lib.Ieee.{of_bits}
use Rattle.paths.specs.Columns.{started_columns}
use Rattle.host_paths.proofs.unmavreth_start_paths.Goals as goal

pub returns : goal.returns
unfolding started_columns of_bits
returns c = rw (← c.in_default.ensures.told)
