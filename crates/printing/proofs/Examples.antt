-- The lines of 02 and of docs/, by computing them. Assumes nothing.
use mathlib.Core.Path.{refl}
use Rattle.wording.specs.Text.{digits, decimal, hex, joined}
use Rattle.printing.specs.Examples.{Examples}

pub examples : Examples
unfolding joined decimal digits hex
examples = record { closed = refl; applied = refl; replaced = refl; refused = refl; ike = refl; ipsec = refl }
