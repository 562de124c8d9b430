-- The loop's invariant: the first i addresses are those of the joined list.
use Prim.Native.Nat.{◌≤◌}
use mathlib.Core.Path.{◌≡◌}
use Rattle.octets.specs.Limits.{addresses_most}
use Rattle.octets.proofs.Zip.{joined}
use Rattle.address.specs.Address.{address_of, no_address}
use Rattle.address.proofs.address.addresses_of.Given as goal

abbrev pub invariant-loop-i : goal.invariant-loop-i
invariant-loop-i l = (l.i ≤ l.n) × (l.out ≡ joined address_of no_address l.families l.octets addresses_most l.i)
