-- The loop's invariant: the bits of the first i octets are the same.
use Prim.Native.Nat.{◌*◌}
use mathlib.Core.Path.{◌≡◌}
use mathlib.Core.Bool.{true}
use Rattle.prefix.specs.Prefix.{prefix_matches}
use Rattle.prefix.proofs.prefix.each_matches.Given as goal

abbrev pub invariant-loop-i : goal.invariant-loop-i
invariant-loop-i l = prefix_matches l.prefix (l.i * 8) l.octets ≡ true
