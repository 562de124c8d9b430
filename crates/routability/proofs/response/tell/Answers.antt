-- Refused by the checks before the chain, or assessed, since those have passed.
use Rattle.std.proofs.Common.{sym, ne_eqb, eq-eqb}
use Rattle.routability.specs.Routability.{check_told}
use Rattle.routability.proofs.Passed.{passed}
use Rattle.routability.proofs.response.tell.Goals as goal

pub returns-in-Err : goal.returns-in-Err
unfolding check_told
returns-in-Err c =
    let h = c.in-Err.ensures in
    rw (← h.value, ne_eqb _ _ h.refused, ← c.from.ensures) c.refuse.ensures

pub assess_kept-requires : goal.assess_kept-requires
assess_kept-requires c = (passed _ _ _ _ (sym c.in-Ok.ensures.value)).kept

pub returns-in-Ok : goal.returns-in-Ok
unfolding check_told
returns-in-Ok c = rw (eq-eqb _ _ (sym c.in-Ok.ensures.value)) c.assess_kept.ensures.is
