-- `reading_fields::read_address` meets its contract.
use Rattle.std.proofs.Common.{arith}
use Rattle.fields.proofs.ReadsTo.{address_cut, address_read}
use Rattle.reading_fields.proofs.read_address.Goals as goal

pub returns-then-s-at-lt-ADDRESS_OCTETS : goal.returns-then-s-at-lt-ADDRESS_OCTETS
returns-then-s-at-lt-ADDRESS_OCTETS c =
    let a = c.args in
    address_cut a.s.now a.at a.slots.now a.slot (omega arith)

pub returns : goal.returns
returns c =
    let a = c.args in
    address_read a.s.now a.at a.slots.now a.slot c.requires.at_in_bounds (omega arith) c.requires.slot_in_bounds
