-- `writing::copy_each` meets its contract. The loop's invariant: `out` is what it was with the first i octets pasted
-- in from `at`, and as long as it was.
use Rattle.std.proofs.Common.{◌≤◌, ◌-◌, ◌≡◌}
use Rattle.std.proofs.Math.ListN.{length}
use Rattle.std.proofs.Math.Seq.{paste}
use Rattle.writing.proofs.copy_each.Given as goal

abbrev pub invariant-loop-i : goal.invariant-loop-i
invariant-loop-i l = (l.i ≤ length l.octets) × (length l.out ≡ length l.initial.out) × (l.out ≡ paste l.initial.out l.at l.octets l.i)

abbrev pub decreases-loop-i : goal.decreases-loop-i
decreases-loop-i l = length l.octets - l.i
