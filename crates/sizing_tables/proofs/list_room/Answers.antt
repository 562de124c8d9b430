-- `sizing_tables::list_room` meets its contract.
use Rattle.std.proofs.Common.{◌+◌, ◌-◌, ◌<◌, ◌≡◌, get_or, drop, ◌∙◌, arith}
use Rattle.std.proofs.Math.Nat.{mul-le-mul_right}
use Rattle.std.proofs.Math.Seq.{drop-drop}
use Rattle.fields.specs.Slots.{width}
use Rattle.fields.specs.Codes.{many, table_of}
use Rattle.fields.proofs.Lists.{width_many, many_next}
use Rattle.fields.proofs.Rooms.{none_room, then_room}
use Rattle.fields.proofs.Copies as copies
use Rattle.sizing_tables.proofs.list_room.Goals as goal

pub returns-then-count-gt-LIST_MOST : goal.returns-then-count-gt-LIST_MOST
returns-then-count-gt-LIST_MOST c =
    let a = c.args in
    copies.list_large (table_of a.list.each.now) a.values.source.now a.values.slots.now a.slot a.room c.if-count-gt-LIST_MOST.true

pub loop-init : goal.loop-init
loop-init c =
    let a = c.args in
    let k = get_or a.values.slots.now a.slot 0 in
    let f = table_of a.list.each.now in
    let z : k - 0 ≡ k = omega arith in
    let m = mul-le-mul_right (width f) c.if-count-gt-LIST_MOST.false in
    record { told = rw (z, width_many f k) (omega (arith, m, c.requires.each_in_bounds)); whole = rw z }

pub table_room-left-requires : goal.table_room-left-requires
table_room-left-requires c =
    let l = c.loop in
    let k = get_or c.args.values.slots.now c.args.slot 0 in
    let here : l.counter < k = omega arith in
    let w = rw (many_next k l.counter (table_of c.args.list.each.now) here) at l.invariant.told in
    omega arith

pub loop-preserved : goal.loop-preserved
loop-preserved c =
    let a = c.args in
    let l = c.loop in
    let k = get_or a.values.slots.now a.slot 0 in
    let f = table_of a.list.each.now in
    let here : l.counter < k = omega arith in
    let e = many_next k l.counter f here in
    let w = rw e at l.invariant.told in
    let s = c.args.list.size_value in
    record {
      told = omega (arith, s);
      whole = rw (s, c.table_room-left.ensures, ← drop-drop (width f) l.place a.values.slots.now)
          (then_room f (many (k - (l.counter + 1)) f) a.values.source.now (drop l.place a.values.slots.now) l.left
          ∙ (rw e at l.invariant.whole));
    }

pub returns : goal.returns
returns c =
    let a = c.args in
    let l = c.loop in
    let k = get_or a.values.slots.now a.slot 0 in
    let z : k - l.counter ≡ 0 = omega arith in
    none_room a.values.source.now (drop l.place a.values.slots.now) l.left
    ∙ (rw z at l.invariant.whole)
    ∙ rw (c.less_by-left.ensures, c.number_size.ensures)
    (copies.list_room (table_of a.list.each.now) a.values.source.now a.values.slots.now a.slot a.room c.if-count-gt-LIST_MOST.false)
