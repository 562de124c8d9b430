-- `best` is the best of the first paths.
use Rattle.std.proofs.Common.{refl, sym, ◌∙◌, eqb, get_or}
use borrow.Author.Tests.{eq-eqb, ne_eqb}
use Rattle.paths.specs.Choice.{best_of}
use Rattle.paths.specs.Columns.{columns, path_at}
use Rattle.paths.proofs.Laws.{round_trip, one_more}
use Rattle.host_paths.proofs.quickest.Goals as goal
use Rattle.host_paths.proofs.quickest.Goals.{then-event-k-eq-ROUND_TRIP+then-is_quicker, else-event-k-eq-ROUND_TRIP}
use Rattle.host_paths.proofs.quickest.Goals.{else-event-k-eq-ROUND_TRIP-via-then-event-k-eq-ROUND_TRIP+else-is_quicker}
use Rattle.host_paths.proofs.quickest.Goals.{else-event-k-eq-ROUND_TRIP-via-else-event-k-eq-ROUND_TRIP}

pub loop-ordinal-init : goal.loop-ordinal-init
unfolding best_of
loop-ordinal-init c sampled milliseconds spread = refl

pub loop-ordinal-preserved : goal.loop-ordinal-preserved
loop-ordinal-preserved c sampled milliseconds spread =
    let k = c.loop-ordinal.ordinal in
    one_more (path_at (columns c.args.count c.args.event.now sampled milliseconds c.args.smoothed.now spread))
    c.loop-ordinal.best _ k (eqb (get_or c.args.event.now k 0) 1) (c.loop-ordinal.invariant sampled milliseconds spread) (round_trip _ _)
    (elim c.if-event-k-eq-ROUND_TRIP.branch [
      | then-event-k-eq-ROUND_TRIP+then-is_quicker w ↦
          rw (w.best-is, eq-eqb _ _ w.if-event-k-eq-ROUND_TRIP.true, sym w.is_quicker.ensures ∙ w.if-is_quicker.true)
      | else-event-k-eq-ROUND_TRIP w ↦
          elim w.else-event-k-eq-ROUND_TRIP.branch [
            | else-event-k-eq-ROUND_TRIP-via-then-event-k-eq-ROUND_TRIP+else-is_quicker v ↦
                rw (w.best-is, eq-eqb _ _ v.if-event-k-eq-ROUND_TRIP.true, sym v.is_quicker.ensures ∙ v.if-is_quicker.false)
            | else-event-k-eq-ROUND_TRIP-via-else-event-k-eq-ROUND_TRIP v ↦
                rw (w.best-is, ne_eqb _ _ v.if-event-k-eq-ROUND_TRIP.false)
          ]
    ])
