-- The rest of the items is ready to be written behind what is written, and what is written so is all of them.
use Rattle.std.proofs.Common.{ℕ, List, ◌+◌, ◌-◌, drop}
use Rattle.fields.specs.Codes.{many, table_of, Ready, Puts}
use Rattle.fields.specs.Writing.{octets_in}
use Rattle.writing_tables.proofs.put_list.Given as goal

abbrev pub invariant-loop : goal.invariant-loop
invariant-loop l =
    record {
      ready : Ready (many (l.count - l.counter) (table_of l.list.each.now)) l.values.source.now l.values.slots.now l.place l.out l.next;
      whole : (left : List ℕ) (r : ℕ)
          → Puts (octets_in (many (l.count - l.counter) (table_of l.list.each.now)) l.values.source.now (drop l.place l.values.slots.now)) l.out l.next
          left r
          → Puts (octets_in (many l.count (table_of l.list.each.now)) l.values.source.now (drop (l.slot + 1) l.values.slots.now)) l.initial.out
          l.initial.next left r;
    }
