-- The first i rules are those that the entry gives, and the others are still none.
use Rattle.std.proofs.Common.{◌≡◌}
use Rattle.octets.specs.Limits.{rules_most}
use Rattle.octets.proofs.Pad.{copied}
use Rattle.policy.specs.Policy.{no_rule}
use Rattle.given.specs.Given.{rules_in}
use Rattle.given.proofs.reading.Slots.rules.Given as goal

abbrev pub invariant-loop-i : goal.invariant-loop-i
invariant-loop-i l = l.rule-items ≡ copied no_rule (rules_in l.s l.self.slots) rules_most l.i
