-- The records that the test passes, counted.
use Rattle.std.proofs.Common.{rules, ◌≡◌, ◌∙◌}
use Rattle.std.specs.List.{count_by}
use Rattle.std.proofs.iter.runs.Made.{chains}
use Rattle.octets.proofs.Iterators.{how_many_is}
use Rattle.records.specs.Records.{of_operator}
use Rattle.lent_ike.proofs.ike.ike_count.Goals as goal

pub returns : goal.returns
returns c =
    let e : c.count.result ≡ count_by (of_operator c.args.operator) c.args.records.now = search (rules, chains) in
    e ∙ how_many_is (of_operator c.args.operator) c.args.records.now
