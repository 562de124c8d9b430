-- What was looked up, decided and stored is the table call.
use Rattle.std.proofs.Common.{rules, ◌≡◌, ◌∙◌, sym}
use Rattle.octets.specs.Numbers.{told}
use Rattle.tables.specs.Changes.{closing_number}
use Rattle.tables.proofs.Changed.{closes_ike_lem}
use Rattle.host_ike.proofs.close_ike.Goals as goal

pub returns-in_err-closing_number : goal.returns-in_err-closing_number
returns-in_err-closing_number c =
    let a = c.args in
    let w = c.in_err-closing_number.ensures in
    let k = rw (c.is_bad_closing.ensures, c.is_own-own.ensures, c.ike_at.ensures, c.ike_place-place.ensures) at w.as_listed in
    let s = (closes_ike_lem a.ike.now c.told-ike a.ipsec.now a.spi a.operator).refused (λ z. w.refuses (k ∙ z)) in
    let t : told c.from_residual.result ≡ closing_number c.is_bad_closing.result c.is_own-own.result = search rules in
    (rw (c.is_bad_closing.ensures, c.is_own-own.ensures, c.ike_at.ensures, c.ike_place-place.ensures) at t ∙ s.0, s.1, s.2)

pub returns : goal.returns
returns c =
    let a = c.args in
    let k = rw (c.is_bad_closing.ensures, c.is_own-own.ensures, c.ike_at.ensures, c.ike_place-place.ensures) at c.in_ok-closing_number.ensures.as_listed in
    rw (c.release_all.ensures, c.store.ensures, c.none.ensures, c.ike_place-place.ensures)
    ((closes_ike_lem a.ike.now c.told-ike a.ipsec.now a.spi a.operator).passed (sym k))
