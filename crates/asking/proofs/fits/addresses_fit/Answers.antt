-- What the iterator tells of the addresses that are asked for, in the words of the definitions.
use Rattle.std.proofs.Common.{rules, take, sym, ◌∙◌, arith}
use Rattle.std.proofs.lemmas.Iterator.{YieldsList-from_slice}
use Rattle.std.proofs.lemmas.Iterator.Search.{all_from_yields_List}
use borrow.Author.Tests.{tests}
use Rattle.octets.proofs.Iterators.{all_is}
use Rattle.asking.proofs.Listed.{entry_fits, listed_all}
use Rattle.asking.proofs.fits.addresses_fit.Goals as goal

pub returns : goal.returns
returns c =
    let all_of = c.args.addresses.now in
    let asked = take c.args.n all_of in
    all_from_yields_List entry_fits _ _ _ c.all.ensures.ran (YieldsList-from_slice asked cc)
    (λ x b q k. search (rules, tests))
    ∙ all_is entry_fits asked
    ∙ sym (listed_all c.args.n all_of (omega arith))
