-- What the rest of the items leaves of what is left, all of them leave of the room behind the count.
use Rattle.std.proofs.Common.{◌+◌, ◌-◌, ◌≤◌, ◌≡◌, length, drop}
use Rattle.fields.specs.Slots.{width}
use Rattle.fields.specs.Codes.{many, table_of}
use Rattle.fields.specs.Writing.{room_in}
use Rattle.sizing_tables.proofs.list_room.Given as goal

abbrev pub invariant-loop : goal.invariant-loop
invariant-loop l =
    record {
      told : l.place + width (many (l.count - l.counter) (table_of l.list.each.now)) ≤ length l.values.slots.now;
      whole : room_in (many (l.count - l.counter) (table_of l.list.each.now)) l.values.source.now (drop l.place l.values.slots.now) l.left
          ≡ room_in (many l.count (table_of l.list.each.now)) l.values.source.now (drop (l.slot + 1) l.values.slots.now) l.initial.left;
    }
