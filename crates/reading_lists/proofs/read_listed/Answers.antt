-- `reading_lists::read_listed` meets its contract.
use Rattle.std.proofs.Common.{◌+◌, ◌*◌, ◌≡◌, arith}
use Rattle.std.proofs.lemmas.Result.{err_from_is_err_and}
use Rattle.fields.specs.Fields.{list_of, list_most}
use Rattle.fields.specs.Codes.{table_of}
use Rattle.fields.specs.Slots.{width}
use Rattle.fields.proofs.Run.{then_refused, then_read}
use Rattle.reading_lists.proofs.read_listed.Goals as goal

pub returns : goal.returns
returns c =
    let a = c.args in
    let e : a.slot + 1 + list_most * a.list.size ≡ a.slot + width (list_of (table_of a.list.each.now)) = omega arith in
    then_read _ _ a.s.now a.at a.slots.now a.slot _ _ _ _ c.requires.last_in_bounds c.in_ok-next.ensures
    (rw e at c.read_table.ensures)

pub returns-in_err-next : goal.returns-in_err-next
returns-in_err-next c =
    let a = c.args in
    let p = err_from_is_err_and c.from_residual.result c.from_residual.ensures.1 in
    rw (p.1, p.2) (then_refused _ _ a.s.now a.at a.slots.now a.slot _ _ c.in_err-next.ensures)
