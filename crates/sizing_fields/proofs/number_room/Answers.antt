-- `sizing_fields::number_room` meets its contract.
use Rattle.std.proofs.Common.{◌∙◌}
use Rattle.fields.proofs.Rooms as rooms
use Rattle.sizing_fields.proofs.number_room.Goals as goal

pub returns-then-v-most : goal.returns-then-v-most
returns-then-v-most c =
    let a = c.args in
    rooms.number_large a.values.source.now a.values.slots.now a.slot a.room a.most c.if-v-most.true

pub returns : goal.returns
returns c =
    let a = c.args in
    c.less_by.ensures ∙ rw c.number_size.ensures
    (rooms.number_room a.values.source.now a.values.slots.now a.slot a.room a.most c.if-v-most.false)
