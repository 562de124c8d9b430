-- The records below the place have been closed, where the owner is theirs.
use Rattle.std.proofs.Common.{◌≡◌}
use Rattle.records.specs.Records.{released}
use Rattle.walks.proofs.Upto.{upto}
use Rattle.lent_closed.proofs.closed.release_all.Given as goal

abbrev pub invariant-loop-record : goal.invariant-loop-record
invariant-loop-record l = l.records ≡ upto (released l.owner) l.record-index l.initial.records
