-- `reading_tables::read_table` meets its contract: a field, and the fields behind it.
use Rattle.std.proofs.Common.{◌<◌, ◌≤◌, length, arith}
use Rattle.std.proofs.lemmas.Result.{err_from_is_err_and}
use Rattle.fields.proofs.Run.{rest_whole, rest_field, rest_end, reads_none, then_refused, then_read}
use Rattle.reading_tables.proofs.read_table.Goals as goal

pub loop-field-init : goal.loop-field-init
loop-field-init c =
    let e = rest_whole c.args.table.now in
    record { inside = c.requires.0; room = rw e c.requires.1; whole = λ left r h. rw e at h }

pub read_field-requires-clause-field_in_bounds : goal.read_field-requires-clause-field_in_bounds
read_field-requires-clause-field_in_bounds c =
    let here : c.loop-field.field-index < length c.args.table.now = omega arith in
    let w = rw (rest_field c.args.table.now c.loop-field.field-index here) at c.loop-field.invariant.room in
    omega arith

pub returns-in_err-next : goal.returns-in_err-next
returns-in_err-next c =
    let l = c.loop-field in
    let here : l.field-index < length c.args.table.now = omega arith in
    let p = err_from_is_err_and c.from_residual.result c.from_residual.ensures.1 in
    rw (p.1, p.2)
    (l.invariant.whole _ _
    (rw (rest_field c.args.table.now l.field-index here)
    (then_refused _ _ c.args.s.now l.next l.slots l.place _ _ c.in_err-next.ensures)))

pub loop-field-preserved : goal.loop-field-preserved
loop-field-preserved c =
    let l = c.loop-field in
    let here : l.field-index < length c.args.table.now = omega arith in
    let e = rest_field c.args.table.now l.field-index here in
    let w = rw e at l.invariant.room in
    let n = c.width-place.ensures in
    let r = c.read_field in
    record {
      inside = c.in_ok-next.ensures.within;
      room = omega (arith, n, r.auto.slots);
      whole = λ left r h. l.invariant.whole left r
          (rw e (then_read _ _ c.args.s.now l.next l.slots l.place _ _ left r w c.in_ok-next.ensures (rw n at h)));
    }

pub returns : goal.returns
returns c =
    let l = c.loop-field in
    let past : length c.args.table.now ≤ l.field-index = omega arith in
    l.invariant.whole _ _
    (rw (rest_end c.args.table.now l.field-index past) (reads_none c.args.s.now l.next l.slots l.place l.invariant.inside))
