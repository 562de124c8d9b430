-- The octets left, of which each payload takes four at least.
use Rattle.std.proofs.Common.{◌-◌, length}
use Rattle.reader.proofs.read.+scan_from.Given as goal

abbrev pub decreases-scan_from : goal.decreases-scan_from
decreases-scan_from l = length l.body.now - l.at
