-- What the iterator tells of the rules that the count reaches, in the words of the definitions.
use Rattle.std.proofs.Common.{rules, ◌∙◌, Bool, take}
use Rattle.std.proofs.lemmas.Iterator.{YieldsList-from_slice, YieldsList-from_take}
use Rattle.std.proofs.lemmas.Iterator.Search.{any_from_yields_List}
use borrow.Author.Tests.{tests}
use Rattle.octets.proofs.Iterators.{any_is}
use Rattle.policy.specs.Policy.{rule_matches, acceptable}
use Rattle.policy.specs.declared.rules.Rule.{Rule}
use Rattle.policy.proofs.rules.Policy.accepts.Goals as goal

pub returns : goal.returns
unfolding acceptable
returns c =
    let accepted : Rule → Bool = λ r. rule_matches r c.args.pair.now in
    let p = c.args.self.now in
    any_from_yields_List accepted _ _ _ c.any.ensures.ran
    (YieldsList-from_take p.count (YieldsList-from_slice p.rules cc) cc) (λ x b q k. search (rules, tests))
    ∙ any_is accepted (take p.count p.rules)
