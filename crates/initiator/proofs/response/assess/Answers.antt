-- `initiator::response::assess` meets its contract, by the three ways out.
-- Assumes nothing.
use Rattle.std.proofs.Common.{sym, ◌∙◌}
use Rattle.initiator.proofs.Ways.{unfit, errors_counted, broken, whole, assessed}
use Rattle.initiator.proofs.response.assess.Goals as goal

pub tally_of-requires : goal.tally_of-requires
tally_of-requires c =
    let a = c.args in
    errors_counted a.sent.now a.first a.body.now c.read-r.result c.read-r.ensures.is

pub returns-then-not-cookie_fits : goal.returns-then-not-cookie_fits
returns-then-not-cookie_fits c =
    let a = c.args in
    let u = unfit a.sent.now a.first a.body.now (sym c.cookie_fits.ensures ∙ c.if-not-cookie_fits.true) in
    assessed a.sent.now a.first a.body.now _ (c.refuse.ensures ∙ rw c.from.ensures u)

pub returns-then-r-ne0 : goal.returns-then-r-ne0
returns-then-r-ne0 c =
    let a = c.args in
    let f = sym c.cookie_fits.ensures ∙ c.if-not-cookie_fits.false in
    let r = c.read-r in
    assessed a.sent.now a.first a.body.now _
    (c.refuse-then-r-ne0.ensures ∙ broken a.sent.now a.first a.body.now r.result r.ensures.is f c.if-r-ne0.true)

pub returns : goal.returns
returns c =
    let a = c.args in
    let f = sym c.cookie_fits.ensures ∙ c.if-not-cookie_fits.false in
    let r = c.read-r in
    let w = whole a.sent.now a.first a.body.now r.result r.ensures.is f c.if-r-ne0.false in
    assessed a.sent.now a.first a.body.now _
    (rw (c.from-2.ensures, c.outcome_of.ensures, c.tally_of.ensures, c.cookie-got.ensures) w)
