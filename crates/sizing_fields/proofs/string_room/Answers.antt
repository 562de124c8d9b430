-- `sizing_fields::string_room` meets its contract.
use Rattle.std.proofs.Common.{◌+◌, get_or, sym, ◌∙◌, arith}
use Rattle.leb128.proofs.Octets.{at_most_ten}
use Rattle.fields.proofs.Rooms as rooms
use Rattle.sizing_fields.proofs.string_room.Goals as goal

pub returns-then-size-gt-STRING_MOST : goal.returns-then-size-gt-STRING_MOST
returns-then-size-gt-STRING_MOST c =
    let a = c.args in
    rooms.string_large a.values.source.now a.values.slots.now a.slot a.room c.if-size-gt-STRING_MOST.true

pub overflow_add-number_size : goal.overflow_add-number_size
overflow_add-number_size c =
    let a = c.args in
    omega (arith, c.number_size.ensures, at_most_ten (get_or a.values.slots.now (a.slot + 1) 0))

pub returns-then-lies_within : goal.returns-then-lies_within
returns-then-lies_within c =
    let a = c.args in
    c.less_by.ensures ∙ rw c.number_size.ensures
    (rooms.string_room a.values.source.now a.values.slots.now a.slot a.room c.if-size-gt-STRING_MOST.false
    (sym c.lies_within.ensures ∙ c.if-lies_within.true))

pub returns : goal.returns
returns c =
    let a = c.args in
    rooms.string_outside a.values.source.now a.values.slots.now a.slot a.room c.if-size-gt-STRING_MOST.false
    (sym c.lies_within.ensures ∙ c.if-lies_within.false)
