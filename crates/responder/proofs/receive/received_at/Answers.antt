-- Checks 1 to 5 have passed, so the body is not too long.
use Rattle.std.proofs.Common.{sym}
use Rattle.checking.proofs.Checks.{passed}
use Rattle.responder.proofs.receive.received_at.Goals as goal

pub read_short-read-requires : goal.read_short-read-requires
read_short-read-requires c = (passed _ _ _ _ (sym c.in_ok-early_checks.ensures.value)).short
