-- One turn of the loop stores one address more.
use Rattle.std.proofs.Common.{rules, arith}
use lib.ListN.{replicate}
use Rattle.octets.specs.Limits.{addresses_most, address_octets}
use Rattle.octets.proofs.Zip.{joins_one}
use Rattle.values.specs.Values.{address_at}
use Rattle.values.proofs.additional.Goals as goal

pub loop-i-preserved : goal.loop-i-preserved
loop-i-preserved c =
    let a = c.args in
    rw c.address_at.ensures
    (joins_one (address_at a.body.now) (replicate address_octets 0) a.list.offsets a.list.families addresses_most
    (search rules) (search rules) _ _ 0 0 (omega arith) c.loop-i.invariant)
