-- What the rest of the items comes to, from the one that is next, is what all of them come to.
use Rattle.std.proofs.Common.{ℕ, List, ◌+◌, ◌-◌, ◌*◌, ◌≤◌, ◌≡◌, length}
use Rattle.std.specs.Prelude.{Result}
use Rattle.fields.specs.Slots.{width}
use Rattle.fields.specs.Codes.{many, table_of, ReadsTo}
use Rattle.fields.specs.declared.refusal.Refusal.{Refusal}
use Rattle.reading_lists.proofs.read_list.Given as goal

abbrev pub invariant-loop : goal.invariant-loop
invariant-loop l =
    record {
      inside : l.next ≤ length l.s;
      here : l.place ≡ l.slot + 1 + l.counter * l.list.size;
      room : l.place + width (many (l.count - l.counter) (table_of l.list.each.now)) ≤ length l.slots;
      sized : length l.slots ≡ length l.fn.slots;
      whole : (left : List ℕ) (r : Result ℕ Refusal)
          → ReadsTo (many (l.count - l.counter) (table_of l.list.each.now)) l.s l.next l.slots l.place left r
          → ReadsTo (many l.count (table_of l.list.each.now)) l.s l.initial.next l.initial.slots (l.slot + 1) left r;
    }
