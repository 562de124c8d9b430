-- Where the early checks pass, the body is not too long and the output has room.
use Rattle.std.proofs.Common.{sym}
use Rattle.cloning.proofs.Passed.{passed}
use Rattle.clone_answers.proofs.clone_at.Goals as goal

pub read_clone-read-requires : goal.read_clone-read-requires
read_clone-read-requires c = (passed _ _ _ (sym c.in_default.ensures.value)).short

pub respond_clone-response-requires : goal.respond_clone-response-requires
respond_clone-response-requires c = (passed _ _ _ (sym c.in_default.ensures.value)).room
