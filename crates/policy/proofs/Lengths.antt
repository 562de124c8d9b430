-- Lengths that fit are at most the bits of an address.
use Prim.Native.Nat.{◌≤◌}
use mathlib.Core.Path.{◌≡◌}
use mathlib.Core.Bool.{true}
use native.Mathlib.Omega.{arith}
use borrow.Author.Tests.{leb-true}
use lib.Dec.{leb}
use Rattle.octets.proofs.Small.{both}
use Rattle.address.specs.Address.{width_of}
use Rattle.address.proofs.Width.{width_small}
use Rattle.prefix.specs.Prefix.{bits_of, address_bits}
use Rattle.policy.specs.Policy.{lengths_fit}
use Rattle.policy.specs.declared.rules.Rule.{Rule}

pub lengths_small : (r : Rule) → lengths_fit r ≡ true
    → (r.source_len ≤ address_bits) × (r.destination_len ≤ address_bits)
lengths_small r e =
    let bits = bits_of (width_of r.family) in
    let t = both (leb r.source_len bits) (leb r.destination_len bits) e in (
      omega (arith, leb-true r.source_len bits t.0, width_small r.family),
      omega (arith, leb-true r.destination_len bits t.1, width_small r.family),
    )
