-- What the scan comes to is the reading.
use Rattle.std.proofs.Common.{arith}
use Rattle.reader.proofs.Begun.{scanned_whole}
use Rattle.reader.proofs.read.read.Goals as goal

pub returns : goal.returns
returns c =
    scanned_whole c.args.first c.args.body.now _ (omega arith) (rw c.nothing_read-reading.ensures at c.scan_from.ensures)
