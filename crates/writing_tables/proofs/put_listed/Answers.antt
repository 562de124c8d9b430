-- `writing_tables::put_listed` meets its contract.
use Rattle.std.proofs.Common.{◌+◌, ◌*◌, ◌≡◌, arith}
use Rattle.fields.specs.Fields.{list_of, list_most}
use Rattle.fields.specs.Slots.{width}
use Rattle.fields.specs.Codes.{table_of}
use Rattle.fields.proofs.Puts.{first_ready, rest_ready, both_put}
use Rattle.writing_tables.proofs.put_listed.Goals as goal

pub put_list-next-requires : goal.put_list-next-requires
put_list-next-requires c = record { ready = first_ready _ _ _ _ _ _ _ c.requires.ready }

pub put_table-requires : goal.put_table-requires
put_table-requires c =
    let a = c.args in
    let e : a.slot + 1 + list_most * a.list.size ≡ a.slot + width (list_of (table_of a.list.each.now)) =
    omega (arith, c.args.list.size_value) in
    rw e (rest_ready _ _ _ _ _ _ _ c.requires.ready _ _ c.put_list-next.ensures)

pub returns : goal.returns
returns c =
    let a = c.args in
    let e : a.slot + 1 + list_most * a.list.size ≡ a.slot + width (list_of (table_of a.list.each.now)) =
    omega (arith, c.args.list.size_value) in
    both_put _ _ _ _ _ _ _ c.requires.ready _ _ _ _ c.put_list-next.ensures (rw e at c.put_table.ensures)
