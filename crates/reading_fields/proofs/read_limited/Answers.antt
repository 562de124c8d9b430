-- `reading_fields::read_limited` meets its contract.
use Rattle.std.proofs.Common.{◌≡◌, sym, ◌∙◌}
use Rattle.std.proofs.lemmas.Result.{err_from_is_err_and}
use Rattle.fields.proofs.ReadsTo.{limited_cut, limited_large, limited_read}
use Rattle.fields.specs.declared.refusal.Refusal.TheVariants.{Cut}
use Rattle.reading_fields.proofs.read_limited.Goals as goal

pub returns-in_err-v : goal.returns-in_err-v
returns-in_err-v c =
    let p = err_from_is_err_and c.from_residual.result c.from_residual.ensures.1 in
    let n = c.in_err-v.ensures in
    let q = rw n.ok_part at n.value in
    let x : c.in_err-v.field-0.0 ≡ Cut = cc in
    rw (p.1, p.2, x) (limited_cut _ _ _ _ _ (sym c.read_number.ensures.value ∙ n.ok_part))

pub returns-then-v-most : goal.returns-then-v-most
returns-then-v-most c =
    limited_large _ _ _ _ _ _ _ (sym c.read_number.ensures.value ∙ c.in_ok-v.ensures.ok_part) c.if-v-most.true

pub returns : goal.returns
returns c =
    let n = c.read_number.ensures in
    let r = c.in_ok-v.ensures.ok_part in
    limited_read _ _ _ _ _ _ _ (sym n.value ∙ r) c.if-v-most.false (rw r at n.within).1 c.requires
