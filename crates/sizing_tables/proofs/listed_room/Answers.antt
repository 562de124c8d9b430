-- `sizing_tables::listed_room` meets its contract.
use Rattle.std.proofs.Common.{◌+◌, ◌*◌, ◌≡◌, ◌∙◌, drop, arith}
use Rattle.std.proofs.Math.Seq.{drop-drop}
use Rattle.fields.specs.Fields.{list_of, list_most}
use Rattle.fields.specs.Slots.{width}
use Rattle.fields.specs.Codes.{table_of}
use Rattle.fields.proofs.Rooms.{then_room}
use Rattle.sizing_tables.proofs.listed_room.Goals as goal

pub returns : goal.returns
returns c =
    let a = c.args in
    let f = list_of (table_of a.list.each.now) in
    let e : a.slot + 1 + list_most * a.list.size ≡ a.slot + width f = omega arith in
    c.table_room.ensures
    ∙ rw (e, c.list_room-left.ensures, ← drop-drop (width f) a.slot a.values.slots.now)
    (then_room f (table_of a.list.last.now) a.values.source.now (drop a.slot a.values.slots.now) a.room)
