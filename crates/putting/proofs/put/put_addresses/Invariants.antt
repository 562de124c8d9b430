-- The loop's invariant: the first i addresses are written, each with the type of what follows it.
use Rattle.std.proofs.Common.{◌≡◌, ◌+◌, ◌*◌, ◌≤◌, length}
use Rattle.writing.specs.Notify.{first_type}
use Rattle.writing.specs.Wrote.{Wrote}
use Rattle.putting.specs.Put.{address_room}
use Rattle.putting.proofs.Addresses.{written, left}
use Rattle.putting.proofs.put.put_addresses.Given as goal

abbrev pub invariant-loop-i : goal.invariant-loop-i
invariant-loop-i l =
    record {
      wrote : Wrote l.initial.out l.at (written l.addresses l.i) (first_type (left l.addresses l.i) l.next) l.out l.end;
      within : l.end ≤ l.at + l.i * address_room;
      same : length l.out ≡ length l.initial.out;
    }
