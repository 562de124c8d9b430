-- The records that the test passes, counted.
use Rattle.std.proofs.Common.{rules, ◌≡◌, ◌∙◌}
use Rattle.std.specs.List.{count_by}
use Rattle.std.proofs.iter.runs.Made.{chains}
use Rattle.octets.proofs.Iterators.{how_many_is}
use Rattle.tables.specs.Calls.{owns_ipsec}
use Rattle.lent_shares.proofs.shares.ipsec_count_of.Goals as goal

pub returns : goal.returns
returns c =
    let own = owns_ipsec c.args.operator c.args.ike.now in
    let e : c.count.result ≡ count_by own c.args.ipsec.now = search (rules, chains) in
    e ∙ how_many_is own c.args.ipsec.now
