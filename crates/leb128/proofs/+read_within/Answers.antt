-- `leb128::read_within` meets its contract, octet by octet.
use Rattle.std.proofs.Common.{sym, ◌∙◌, eq-eqb}
use borrow.Author.Tests.{ltb-false, ne_eqb, le-leb, lt-leb}
use Rattle.leb128.proofs.Within.{at_end, at_small, at_none, at_more}
use Rattle.leb128.proofs.+read_within.Goals as goal
use Rattle.leb128.proofs.+read_within.Goals.{then-v-eq-NONE_ABOVE-via-then-v-eq-NONE_ABOVE, then-v-eq-NONE_ABOVE-via-else-v-eq-NONE_ABOVE+then-v-ge-ABOVE_MOST}

pub returns-in_err-get : goal.returns-in_err-get
returns-in_err-get t c = rw c.from_residual.ensures (sym (at_end _ _ _ (ltb-false _ _ (sym c.in_err-get.ensures.lookup.0))))

pub returns-then-b-lt128 : goal.returns-then-b-lt128
returns-then-b-lt128 t c =
    let a = c.args in
    let here = c.in_ok-get.ensures.lookup.3 in
    sym (at_small a.s.now a.at here.0 c.from-b.result (c.from-b.ensures ∙ here.1 0) a.left c.if-b-lt128.true)

pub returns-then-left-eq0 : goal.returns-then-left-eq0
returns-then-left-eq0 t c =
    let a = c.args in
    let here = c.in_ok-get.ensures.lookup.3 in
    sym (at_none a.s.now a.at here.0 c.from-b.result (c.from-b.ensures ∙ here.1 0) a.left c.if-left-eq0.true
    c.if-b-lt128.false)

-- where more follows: the number read behind the first octet
pub returns-in_err-v : goal.returns-in_err-v
returns-in_err-v t c =
    let a = c.args in
    let here = c.in_ok-get.ensures.lookup.3 in
    let deeper = at_more a.s.now a.at here.0 c.from-b.result (c.from-b.ensures ∙ here.1 0) a.left c.if-left-eq0.false
    c.if-b-lt128.false in
    rw c.from_residual-in_err-v.ensures (sym (deeper ∙ rw (← c.in_err-v.ensures)))

pub returns-then-v-eq-NONE_ABOVE : goal.returns-then-v-eq-NONE_ABOVE
returns-then-v-eq-NONE_ABOVE t c =
    let a = c.args in
    let here = c.in_ok-get.ensures.lookup.3 in
    let deeper = at_more a.s.now a.at here.0 c.from-b.result (c.from-b.ensures ∙ here.1 0) a.left c.if-left-eq0.false
    c.if-b-lt128.false in
    elim c.then-v-eq-NONE_ABOVE.branch [
      | then-v-eq-NONE_ABOVE-via-then-v-eq-NONE_ABOVE w ↦
          sym (deeper ∙ rw (← c.in_ok-v.ensures, eq-eqb _ _ w.if-v-eq-NONE_ABOVE.true))
      | then-v-eq-NONE_ABOVE-via-else-v-eq-NONE_ABOVE+then-v-ge-ABOVE_MOST w ↦
          sym (deeper ∙ rw (
            ← c.in_ok-v.ensures,
            ne_eqb _ _ w.if-v-eq-NONE_ABOVE.false,
            le-leb _ _ w.if-v-ge-ABOVE_MOST.true,
          ))
    ]

pub returns : goal.returns
returns t c =
    let a = c.args in
    let here = c.in_ok-get.ensures.lookup.3 in
    let deeper = at_more a.s.now a.at here.0 c.from-b.result (c.from-b.ensures ∙ here.1 0) a.left c.if-left-eq0.false
    c.if-b-lt128.false in
    sym (deeper ∙ rw (← c.in_ok-v.ensures, ne_eqb _ _ c.if-v-eq-NONE_ABOVE.false, lt-leb _ _ c.if-v-ge-ABOVE_MOST.false))
