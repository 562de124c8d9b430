-- What the scan comes to is the reading.
use Rattle.reader.proofs.Begun.{scanned_whole}
use Rattle.reader.proofs.read.read_short.Goals as goal

pub returns : goal.returns
returns c =
    scanned_whole c.args.first c.args.body.now _ c.requires (rw c.nothing_read-reading.ensures at c.scan_from.ensures)
