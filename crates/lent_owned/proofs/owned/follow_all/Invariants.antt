-- The records below the place have been moved.
use Rattle.std.proofs.Common.{◌≡◌}
use Rattle.records.specs.Records.{follows}
use Rattle.walks.proofs.Upto.{upto}
use Rattle.lent_owned.proofs.owned.follow_all.Given as goal

abbrev pub invariant-loop-record : goal.invariant-loop-record
invariant-loop-record l = l.records ≡ upto (follows l.owner l.pair) l.record-index l.initial.records
