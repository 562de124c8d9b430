-- How many slots the kinds have. Assumes nothing.
use mathlib.Core.Path.{refl}
use native.Mathlib.Omega.{arith}
use Rattle.entries.specs.Slots.{Enough, Widest}
use Rattle.entries.specs.declared.kind.Kind.TheVariants.{OpenBoth, AddIpsec, CloseIke, CloseIpsec, Request}
use Rattle.entries.specs.declared.kind.Kind.TheVariants.{Policy, CheckResponse, Clone, MarkDeletion}

pub widest : Widest
widest = record { enough = enough; needed = refl }
  where
    enough : Enough
    enough OpenBoth = omega arith
    enough AddIpsec = omega arith
    enough CloseIke = omega arith
    enough CloseIpsec = omega arith
    enough Request = omega arith
    enough Policy = omega arith
    enough CheckResponse = omega arith
    enough Clone = omega arith
    enough MarkDeletion = omega arith
