-- What the rest of the table leaves of what is left, the whole table leaves of the room.
use Rattle.std.proofs.Common.{◌+◌, ◌≤◌, ◌≡◌, length, drop}
use Rattle.fields.specs.Slots.{width}
use Rattle.fields.specs.Codes.{rest_from, table_of}
use Rattle.fields.specs.Writing.{room_in}
use Rattle.sizing_tables.proofs.table_room.Given as goal

abbrev pub invariant-loop-field : goal.invariant-loop-field
invariant-loop-field l =
    record {
      told : l.place + width (rest_from l.table l.field-index) ≤ length l.values.slots.now;
      whole : room_in (rest_from l.table l.field-index) l.values.source.now (drop l.place l.values.slots.now) l.left
          ≡ room_in (table_of l.table) l.values.source.now (drop l.slot l.values.slots.now) l.fn.room;
    }
