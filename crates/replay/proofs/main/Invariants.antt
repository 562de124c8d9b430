-- Where the replay stands lies within its window, and each turn leaves fewer.
use Rattle.std.proofs.Common.{◌≤◌, length}
use Rattle.replaying.specs.Standing.{Standing}
use Rattle.replay.proofs.main.Given as goal

abbrev pub invariant-loop-turns : goal.invariant-loop-turns
invariant-loop-turns l = Standing l.s × (l.s.len ≤ length l.window)

abbrev pub decreases-loop-turns : goal.decreases-loop-turns
decreases-loop-turns l = l.turns
