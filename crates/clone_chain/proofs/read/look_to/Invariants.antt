-- Looking at what is left of the chain, with what is known, gives what looking at the whole chain gives.
use Rattle.std.proofs.Common.{◌≡◌, ◌≤◌, ◌-◌, false, length}
use Rattle.reader.specs.Chain.{chain_at}
use Rattle.clone_chain.specs.Look.{look_to, Reaches}
use Rattle.clone_chain.proofs.read.look_to.Given as goal

abbrev pub invariant-loop-at : goal.invariant-loop-at
invariant-loop-at l =
    (l.at ≤ length l.body)
    × (l.ordinal ≤ l.at)
    × Reaches l.stop (chain_at l.body l.payload_type l.at)
    × (look_to l.stop l.body 0 false false (chain_at l.body l.first 0)
    ≡ look_to l.stop l.body l.ordinal l.supported l.clone (chain_at l.body l.payload_type l.at))

abbrev pub decreases-loop-at : goal.decreases-loop-at
decreases-loop-at l = length l.body - l.at
