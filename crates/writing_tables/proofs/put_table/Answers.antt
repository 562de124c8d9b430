-- `writing_tables::put_table` meets its contract: a field, and the fields behind it.
use Rattle.std.proofs.Common.{◌<◌, ◌≤◌, length, arith}
use Rattle.fields.specs.Fields.{octets}
use Rattle.fields.proofs.Run.{rest_whole, rest_field, rest_end}
use Rattle.fields.proofs.Puts.{puts_none, first_ready, rest_ready, both_put}
use Rattle.writing_tables.proofs.put_table.Goals as goal

pub loop-field-init : goal.loop-field-init
loop-field-init c =
    let e = rest_whole c.args.table.now in record { ready = rw e c.requires; whole = λ left r h. rw e at h }

pub put_field-next-requires : goal.put_field-next-requires
put_field-next-requires c =
    let a = c.args in
    let l = c.loop-field in
    let here : l.field-index < length a.table.now = omega arith in
    let e = rest_field a.table.now l.field-index here in
    first_ready _ _ a.values.source.now a.values.slots.now l.place l.out l.next (rw e at l.invariant.ready)

pub loop-field-preserved : goal.loop-field-preserved
loop-field-preserved c =
    let a = c.args in
    let l = c.loop-field in
    let here : l.field-index < length a.table.now = omega arith in
    let e = rest_field a.table.now l.field-index here in
    let p = rw e at l.invariant.ready in
    let n = c.width-place.ensures in
    record {
      ready = rw n (rest_ready _ _ a.values.source.now a.values.slots.now l.place l.out l.next p _ _ c.put_field-next.ensures);
      whole = λ left r h. l.invariant.whole left r
          (rw e
          (both_put _ _ a.values.source.now a.values.slots.now l.place l.out l.next p _ left _ r c.put_field-next.ensures (rw n at h)));
    }

pub returns : goal.returns
unfolding octets
returns c =
    let l = c.loop-field in
    let past : length c.args.table.now ≤ l.field-index = omega arith in
    l.invariant.whole _ _ (rw (rest_end c.args.table.now l.field-index past) (puts_none l.out l.next))
