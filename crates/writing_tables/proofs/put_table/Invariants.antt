-- The rest of the table is ready to be written behind what is written, and what is written so is the whole table.
use Rattle.std.proofs.Common.{ℕ, List, drop}
use Rattle.fields.specs.Codes.{rest_from, table_of, Ready, Puts}
use Rattle.fields.specs.Writing.{octets_in}
use Rattle.writing_tables.proofs.put_table.Given as goal

abbrev pub invariant-loop-field : goal.invariant-loop-field
invariant-loop-field l =
    record {
      ready : Ready (rest_from l.table l.field-index) l.values.source.now l.values.slots.now l.place l.out l.next;
      whole : (left : List ℕ) (r : ℕ)
          → Puts (octets_in (rest_from l.table l.field-index) l.values.source.now (drop l.place l.values.slots.now)) l.out l.next left r
          → Puts (octets_in (table_of l.table) l.values.source.now (drop l.slot l.values.slots.now)) l.fn.out l.at left r;
    }
