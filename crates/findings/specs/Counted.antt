-- Inner. What the code needs to count on: `proofs/Counts.antt` says that a payload counts for one at most.
use Rattle.std.specs.Prelude.{ℕ, ◌≤◌}
use Rattle.findings.specs.declared.seen.Seen.{Seen}

-- No count is over n.
pub record Counted (n : ℕ) (s : Seen) : Type 0 where
  pub payloads : s.tally.payloads ≤ n
  pub unknown_payloads : s.tally.unknown_payloads ≤ n
  pub unknown_notifies : s.tally.unknown_notifies ≤ n
  pub errors : s.tally.errors ≤ n
  pub addresses : s.list.count ≤ n
