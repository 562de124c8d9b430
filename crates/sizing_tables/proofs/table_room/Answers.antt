-- `sizing_tables::table_room` meets its contract: a field, and the fields behind it.
use Rattle.std.proofs.Common.{◌+◌, ◌<◌, ◌≤◌, length, get_or, drop, ◌∙◌, arith}
use Rattle.std.proofs.Math.Seq.{drop-drop}
use Rattle.fields.specs.Slots.{width}
use Rattle.fields.specs.Codes.{field_of, rest_from}
use Rattle.fields.specs.declared.field_type.FieldType.TheVariants.{Number}
use Rattle.fields.proofs.Run.{rest_whole, rest_field, rest_end}
use Rattle.fields.proofs.Rooms.{none_room, then_room}
use Rattle.sizing_tables.proofs.table_room.Goals as goal

pub loop-field-init : goal.loop-field-init
loop-field-init c = let e = rest_whole c.args.table.now in record { told = rw e c.requires; whole = rw e }

pub field_room-left-requires : goal.field_room-left-requires
field_room-left-requires c =
    let l = c.loop-field in
    let here : l.field-index < length c.args.table.now = omega arith in
    let w = rw (rest_field c.args.table.now l.field-index here) at l.invariant.told in
    omega arith

pub loop-field-preserved : goal.loop-field-preserved
loop-field-preserved c =
    let a = c.args in
    let l = c.loop-field in
    let here : l.field-index < length a.table.now = omega arith in
    let e = rest_field a.table.now l.field-index here in
    let w = rw e at l.invariant.told in
    let n = c.width-place.ensures in
    let f = field_of (get_or a.table.now l.field-index (Number 0)) in
    record {
      told = omega (arith, n);
      whole = rw (n, c.field_room-left.ensures, ← drop-drop (width f) l.place a.values.slots.now)
          (then_room f (rest_from a.table.now (l.field-index + 1)) a.values.source.now (drop l.place a.values.slots.now) l.left
          ∙ (rw e at l.invariant.whole));
    }

pub returns : goal.returns
returns c =
    let l = c.loop-field in
    let past : length c.args.table.now ≤ l.field-index = omega arith in
    none_room c.args.values.source.now (drop l.place c.args.values.slots.now) l.left
    ∙ (rw (rest_end c.args.table.now l.field-index past) at l.invariant.whole)
