-- What the iterator tells of all rules, in the words of the definitions.
use Rattle.std.proofs.Common.{rules, ◌∙◌}
use Rattle.std.proofs.lemmas.Iterator.{YieldsList-from_slice}
use Rattle.std.proofs.lemmas.Iterator.Search.{all_from_yields_List}
use borrow.Author.Tests.{tests}
use Rattle.octets.proofs.Iterators.{all_is}
use Rattle.policy.specs.Policy.{lengths_fit}
use Rattle.policy.proofs.rules.all_lengths_fit.Goals as goal

pub returns : goal.returns
returns c =
    let given = c.args.rules.now in
    all_from_yields_List lengths_fit _ _ _ c.all.ensures.ran (YieldsList-from_slice given cc)
    (λ x b q k. search (rules, tests))
    ∙ all_is lengths_fit given
