-- `writing_tables::put_list` meets its contract.
use Rattle.std.proofs.Common.{◌-◌, ◌<◌, ◌≡◌, get_or, arith}
use Rattle.std.proofs.Math.Nat.{mul-le-mul_right}
use Rattle.fields.specs.Fields.{octets}
use Rattle.fields.specs.Slots.{width}
use Rattle.fields.specs.Codes.{table_of}
use Rattle.fields.proofs.Lists.{width_many, many_next}
use Rattle.fields.proofs.Puts.{puts_none, first_ready, rest_ready, both_put, list_count, list_room, items_ready, list_put}
use Rattle.writing_tables.proofs.put_list.Goals as goal

pub put_number-next-requires : goal.put_number-next-requires
put_number-next-requires c =
    let a = c.args in
    omega (arith, list_room (table_of a.list.each.now) a.values.source.now a.values.slots.now a.slot a.out.now a.at c.requires.ready)

pub loop-init : goal.loop-init
loop-init c =
    let a = c.args in
    let f = table_of a.list.each.now in
    let k = get_or a.values.slots.now a.slot 0 in
    let z : k - 0 ≡ k = omega arith in
    let q = c.requires.ready in
    let m = mul-le-mul_right (width f) (list_count f a.values.source.now a.values.slots.now a.slot a.out.now a.at q) in
    let p = c.put_number-next.ensures in
    record {
      ready = rw z (items_ready f a.values.source.now a.values.slots.now a.slot a.out.now a.at q _ _
          (rw (width_many f k) (omega (arith, m, q.told))) (record { place = p.value; written = p.out_after }));
      whole = λ left r h. rw z at h;
    }

pub put_table-next-requires : goal.put_table-next-requires
put_table-next-requires c =
    let a = c.args in
    let l = c.loop in
    let k = get_or a.values.slots.now a.slot 0 in
    let here : l.counter < k = omega arith in
    let e = many_next k l.counter (table_of a.list.each.now) here in
    first_ready _ _ a.values.source.now a.values.slots.now l.place l.out l.next (rw e at l.invariant.ready)

pub loop-preserved : goal.loop-preserved
loop-preserved c =
    let a = c.args in
    let l = c.loop in
    let k = get_or a.values.slots.now a.slot 0 in
    let here : l.counter < k = omega arith in
    let e = many_next k l.counter (table_of a.list.each.now) here in
    let p = rw e at l.invariant.ready in
    let s = c.args.list.size_value in
    record {
      ready = rw s (rest_ready _ _ a.values.source.now a.values.slots.now l.place l.out l.next p _ _ c.put_table-next.ensures);
      whole = λ left r h. l.invariant.whole left r
          (rw e
          (both_put _ _ a.values.source.now a.values.slots.now l.place l.out l.next p _ left _ r c.put_table-next.ensures (rw s at h)));
    }

pub returns : goal.returns
unfolding octets
returns c =
    let a = c.args in
    let l = c.loop in
    let k = get_or a.values.slots.now a.slot 0 in
    let z : k - l.counter ≡ 0 = omega arith in
    let p = c.put_number-next.ensures in
    list_put (table_of a.list.each.now) a.values.source.now a.values.slots.now a.slot a.out.now a.at c.requires.ready _ _ _ _
    (record { place = p.value; written = p.out_after })
    (l.invariant.whole _ _ (rw z (puts_none l.out l.next)))
