-- The rules that are kept, and behind them none.
use Rattle.std.proofs.lemmas.List.{drop-replicate}
use Rattle.octets.specs.Limits.{rules_most}
use Rattle.policy.specs.Policy.{no_rule}
use Rattle.policy.specs.declared.rules.Rule.{Rule}
use Rattle.policy.proofs.rules.Policy.new.Goals as goal

pub returns : goal.returns
returns c =
    rw (c.copy_from_slice.ensures.after, c.none-kept.ensures, drop-replicate {X = Rule} c.args.count rules_most no_rule)
