-- `sizing_fields::address_room` meets its contract.
use Rattle.std.proofs.Common.{sym, ◌∙◌}
use Rattle.fields.proofs.Rooms.{address_outside}
use Rattle.fields.proofs.Rooms as rooms
use Rattle.sizing_fields.proofs.address_room.Goals as goal

pub returns-then-lies_within : goal.returns-then-lies_within
returns-then-lies_within c =
    let a = c.args in
    c.less_by.ensures ∙ rooms.address_room a.values.source.now a.values.slots.now a.slot a.room
    (sym c.lies_within.ensures ∙ c.if-lies_within.true)

pub returns : goal.returns
returns c =
    let a = c.args in
    address_outside a.values.source.now a.values.slots.now a.slot a.room (sym c.lies_within.ensures ∙ c.if-lies_within.false)
