-- The chain goes on behind a payload that was noted.
use Rattle.std.proofs.Common.{sym}
use Rattle.reader.proofs.Step.{goes_on}
use Rattle.reader.proofs.read.payload_noted.Goals as goal

pub returns : goal.returns
returns c =
    let n = c.in_ok-content_noted.ensures in
    goes_on c.args.seen.now _ _ _ c.requires.1 c.requires.0 _ c.in_ok-size.content _ (sym c.in_ok-size.ensures) n.0 n.1
