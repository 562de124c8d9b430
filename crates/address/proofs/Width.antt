-- How many octets a family has.
use Prim.Native.Nat.{ℕ, ◌≤◌}
use mathlib.Core.Bool.{Bool, true, false, cond}
use native.Mathlib.Omega.{arith}
use lib.Dec.{eqb}
use Rattle.octets.specs.Limits.{address_octets, ip4_octets, ip6_octets}
use Rattle.address.specs.Address.{width_of}

pub width_small : (family : ℕ) → width_of family ≤ address_octets
width_small family = go (eqb family 4) (eqb family 6)
  where
    go : (a b : Bool) → cond a ip4_octets (cond b ip6_octets 0) ≤ address_octets
    go true b = omega arith
    go false true = omega arith
    go false false = omega arith
