-- What the rest of the table comes to, from the field that is next, is what the whole table comes to.
use Rattle.std.proofs.Common.{ℕ, List, ◌+◌, ◌≤◌, length}
use Rattle.std.specs.Prelude.{Result}
use Rattle.fields.specs.Slots.{width}
use Rattle.fields.specs.Codes.{rest_from, table_of, ReadsTo}
use Rattle.fields.specs.declared.refusal.Refusal.{Refusal}
use Rattle.reading_tables.proofs.read_table.Given as goal

abbrev pub invariant-loop-field : goal.invariant-loop-field
invariant-loop-field l =
    record {
      inside : l.next ≤ length l.s;
      room : l.place + width (rest_from l.table l.field-index) ≤ length l.slots;
      whole : (left : List ℕ) (r : Result ℕ Refusal)
          → ReadsTo (rest_from l.table l.field-index) l.s l.next l.slots l.place left r
          → ReadsTo (table_of l.table) l.s l.fn.at l.fn.slots l.fn.slot left r;
    }
