-- The loop stores one more element of the joined list.
use Rattle.std.proofs.Common.{rules, arith, []}
use Rattle.octets.specs.Limits.{addresses_most}
use Rattle.octets.proofs.Zip.{joins_one}
use Rattle.address.specs.Address.{address_of, no_address}
use Rattle.address.proofs.address.addresses_of.Goals as goal

pub loop-i-preserved : goal.loop-i-preserved
loop-i-preserved c = (
  omega arith,
  joins_one address_of no_address _ _ addresses_most (search rules) (search rules) _ _ 0 [] (omega arith)
      c.loop-i.invariant.1,
)
