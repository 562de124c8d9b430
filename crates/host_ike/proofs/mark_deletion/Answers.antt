-- What was looked up, decided and stored is the table call.
use Rattle.std.proofs.Common.{rules, ◌≡◌, ◌∙◌, sym}
use Rattle.octets.specs.Numbers.{told}
use Rattle.tables.specs.Changes.{closing_number}
use Rattle.tables.proofs.Changed.{marks_deletion_lem}
use Rattle.host_ike.proofs.mark_deletion.Goals as goal

pub returns-in_err-closing_number : goal.returns-in_err-closing_number
returns-in_err-closing_number c =
    let a = c.args in
    let w = c.in_err-closing_number.ensures in
    let k = rw (c.is_bad_marking.ensures, c.is_own-own.ensures, c.ike_at.ensures, c.ike_place-place.ensures) at w.as_listed in
    let s = (marks_deletion_lem a.ike.now c.told-ike a.spi a.operator).refused (λ z. w.refuses (k ∙ z)) in
    let t : told c.from_residual.result ≡ closing_number c.is_bad_marking.result c.is_own-own.result = search rules in
    (rw (c.is_bad_marking.ensures, c.is_own-own.ensures, c.ike_at.ensures, c.ike_place-place.ensures) at t ∙ s.0, s.1)

pub returns : goal.returns
returns c =
    let a = c.args in
    let k = rw (c.is_bad_marking.ensures, c.is_own-own.ensures, c.ike_at.ensures, c.ike_place-place.ensures) at c.in_ok-closing_number.ensures.as_listed in
    rw (c.store.ensures, c.deletion_marked-marked.ensures, c.ike_at-2.ensures, c.ike_place-place.ensures)
    ((marks_deletion_lem a.ike.now c.told-ike a.spi a.operator).passed (sym k))
