-- `reading_entries::read_entry` meets its contract.
use Rattle.std.proofs.Common.{◌≡◌, sym, ◌∙◌}
use Rattle.std.proofs.lemmas.Result.{err_from_is_err_and}
use Rattle.fields.specs.declared.refusal.Refusal.TheVariants.{Cut}
use Rattle.reading_entries.proofs.Steps.{a_kind, no_kind, tells_cut, tells_unknown, tells_refused, tells_read}
use Rattle.reading_entries.proofs.read_entry.Goals as goal

pub returns-in_err-number : goal.returns-in_err-number
returns-in_err-number c =
    let p = err_from_is_err_and c.from_residual.result c.from_residual.ensures.1 in
    let n = c.in_err-number.ensures in
    let q = rw n.ok_part at n.value in
    let x : c.in_err-number.field-0.0 ≡ Cut = cc in
    rw (p.1, p.2, x) (tells_cut _ _ _ (sym c.read_number.ensures.value ∙ n.ok_part))

pub returns-in_err-kind : goal.returns-in_err-kind
returns-in_err-kind c =
    let p = err_from_is_err_and c.from_residual-in_err-kind.result c.from_residual-in_err-kind.ensures.1 in
    let k = no_kind _ _ c.in_err-kind.ensures in
    rw (p.1, p.2, k.1)
    (tells_unknown _ _ _ _ _ (sym c.read_number.ensures.value ∙ c.in_ok-number.ensures.ok_part) k.0)

pub read_fields-requires : goal.read_fields-requires
read_fields-requires c =
    ((rw c.in_ok-number.ensures.ok_part at c.read_number.ensures.within).1, c.requires)

pub returns-in_err-end : goal.returns-in_err-end
returns-in_err-end c =
    let a = c.args in
    let p = err_from_is_err_and c.from_residual-in_err-end.result c.from_residual-in_err-end.ensures.1 in
    rw (p.1, p.2)
    (tells_refused a.s.now a.at a.slots.now _ _ (sym c.read_number.ensures.value ∙ c.in_ok-number.ensures.ok_part) _
    (a_kind _ _ c.in_ok-kind.ensures) _ _ c.in_err-end.ensures)

pub returns : goal.returns
returns c =
    let a = c.args in
    tells_read a.s.now a.at a.slots.now _ _ (sym c.read_number.ensures.value ∙ c.in_ok-number.ensures.ok_part) _
    (a_kind _ _ c.in_ok-kind.ensures) _ _ c.in_ok-end.ensures
