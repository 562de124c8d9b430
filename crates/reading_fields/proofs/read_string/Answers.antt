-- `reading_fields::read_string` meets its contract.
use Rattle.std.proofs.Common.{◌≡◌, sym, ◌∙◌}
use Rattle.std.proofs.lemmas.Result.{err_from_is_err_and}
use Rattle.fields.proofs.ReadsTo.{string_bad, string_large, string_cut, string_read}
use Rattle.fields.specs.declared.refusal.Refusal.TheVariants.{Cut}
use Rattle.reading_fields.proofs.read_string.Goals as goal

pub returns-in_err-v : goal.returns-in_err-v
returns-in_err-v c =
    let p = err_from_is_err_and c.from_residual.result c.from_residual.ensures.1 in
    let n = c.in_err-v.ensures in
    let q = rw n.ok_part at n.value in
    let x : c.in_err-v.field-0.0 ≡ Cut = cc in
    rw (p.1, p.2, x) (string_bad _ _ _ _ (sym c.read_number.ensures.value ∙ n.ok_part))

pub returns-then-v-gt-STRING_MOST : goal.returns-then-v-gt-STRING_MOST
returns-then-v-gt-STRING_MOST c =
    string_large _ _ _ _ _ _ (sym c.read_number.ensures.value ∙ c.in_ok-v.ensures.ok_part) c.if-v-gt-STRING_MOST.true

pub returns-then-s-next : goal.returns-then-s-next
returns-then-s-next c =
    string_cut _ _ _ _ _ _ (sym c.read_number.ensures.value ∙ c.in_ok-v.ensures.ok_part) c.if-v-gt-STRING_MOST.false
    c.if-s-next.true

pub returns : goal.returns
returns c =
    let n = c.read_number.ensures in
    let r = c.in_ok-v.ensures.ok_part in
    string_read _ _ _ _ _ _ (sym n.value ∙ r) c.if-v-gt-STRING_MOST.false c.if-s-next.false (rw r at n.within).1
    c.requires
