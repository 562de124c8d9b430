-- `writing_fields::put_field` meets its contract.
use Rattle.std.proofs.Common.{◌+◌, get_or, arith}
use Rattle.fields.proofs.Prefix.{part_length}
use Rattle.fields.proofs.Puts.{string_ready, address_ready, address_octets_lem, number_octets, puts_then}
use Rattle.writing_fields.proofs.put_field.Goals as goal

-- a number
pub put_number-requires : goal.put_number-requires
put_number-requires c =
    let a = c.args in
    let p = rw c.in-Number.is at c.requires in
    rw (number_octets a.values.source.now a.values.slots.now a.slot a.out.now a.at _) at p.room

pub returns-in-Number : goal.returns-in-Number
returns-in-Number c =
    let a = c.args in
    let n = c.put_number in
    rw (c.in-Number.is, number_octets a.values.source.now a.values.slots.now a.slot a.out.now a.at _)
    (record { place = n.ensures.value; written = n.ensures.out_after })

-- an address
pub put_part-requires : goal.put_part-requires
put_part-requires c =
    let a = c.args in
    address_ready a.values.source.now a.values.slots.now a.slot a.out.now a.at (rw c.in-Address.is at c.requires)

pub returns-in-Address : goal.returns-in-Address
returns-in-Address c =
    let a = c.args in
    rw (c.in-Address.is, address_octets_lem a.values.source.now a.values.slots.now a.slot a.out.now a.at) c.put_part.ensures

-- a string
pub put_number-next-requires : goal.put_number-next-requires
put_number-next-requires c =
    let a = c.args in
    let p = rw c.in-OctetString.is at c.requires in
    omega (arith, (string_ready a.values.source.now a.values.slots.now a.slot a.out.now a.at p).room)

pub put_part-requires-in-OctetString : goal.put_part-requires-in-OctetString
put_part-requires-in-OctetString c =
    let a = c.args in
    let p = rw c.in-OctetString.is at c.requires in
    let r = string_ready a.values.source.now a.values.slots.now a.slot a.out.now a.at p in
    let n = c.put_number-next in
    (r.inside, omega (arith, r.room, n.ensures.value, n.auto.out))

pub returns-in-OctetString : goal.returns-in-OctetString
returns-in-OctetString c =
    let a = c.args in
    let p = rw c.in-OctetString.is at c.requires in
    let r = string_ready a.values.source.now a.values.slots.now a.slot a.out.now a.at p in
    let n = c.put_number-next in
    let l = part_length a.values.source.now (get_or a.values.slots.now a.slot 0) (get_or a.values.slots.now (a.slot + 1) 0) r.inside in
    rw (c.in-OctetString.is, r.whole)
    (puts_then _ _ a.out.now _ _ a.at _ _ (omega (arith, r.room, l))
    (record { place = n.ensures.value; written = n.ensures.out_after }) c.put_part-in-OctetString.ensures)
