-- The first i addresses are those of the joined list.
use Rattle.std.proofs.Common.{◌≡◌}
use lib.ListN.{replicate}
use Rattle.octets.specs.Limits.{addresses_most, address_octets}
use Rattle.octets.proofs.Zip.{joined}
use Rattle.values.specs.Values.{address_at}
use Rattle.values.proofs.additional.Given as goal

abbrev pub invariant-loop-i : goal.invariant-loop-i
invariant-loop-i l =
    l.out ≡ joined (address_at l.body) (replicate address_octets 0) l.list.offsets l.list.families addresses_most l.i
