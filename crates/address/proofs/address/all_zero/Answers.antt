-- What the iterator tells of all octets, in the words of the definitions.
use Rattle.std.proofs.Common.{rules, ◌∙◌}
use Rattle.std.proofs.lemmas.Iterator.{YieldsList-from_slice}
use Rattle.std.proofs.lemmas.Iterator.Search.{all_from_yields_List}
use borrow.Author.Tests.{tests}
use Rattle.octets.proofs.Iterators.{all_is}
use Rattle.address.specs.Address.{is_zero}
use Rattle.address.proofs.address.all_zero.Goals as goal

pub returns : goal.returns
returns c =
    let octets = c.args.octets.now in
    all_from_yields_List is_zero _ _ _ c.all.ensures.ran (YieldsList-from_slice octets cc)
    (λ x b q k. search (rules, tests))
    ∙ all_is is_zero octets
