-- What was looked up, decided and stored is the table call.
use Rattle.std.proofs.Common.{rules, ◌≡◌, ◌∙◌, sym, length}
use lib.Dec.{leb, ltb}
use Rattle.octets.specs.Limits.{ipsec_share}
use Rattle.octets.specs.Numbers.{told}
use Rattle.tables.specs.Changes.{adding_number}
use Rattle.tables.proofs.Changed.{opens_ipsec_lem}
use Rattle.host_ipsec.proofs.open_ipsec.Goals as goal

pub returns-in_err-adding_number : goal.returns-in_err-adding_number
returns-in_err-adding_number c =
    let a = c.args in
    let w = c.in_err-adding_number.ensures in
    let k = rw (c.is_bad_adding.ensures, c.is_own.ensures, c.ipsec_place.ensures, c.ipsec_count_of.ensures, c.ipsec_place-free.ensures, c.ike_at-found.ensures, c.ike_place-owned.ensures) at w.as_listed in
    let s = (opens_ipsec_lem a.ike.now c.told-ike a.ipsec.now a.spi a.owner a.operator).refused (λ z. w.refuses (k ∙ z)) in
    let t : told c.from_residual.result ≡ adding_number c.is_bad_adding.result c.is_own.result (ltb c.ipsec_place.result (length a.ipsec.now))
    (leb ipsec_share c.ipsec_count_of.result) (ltb c.ipsec_place-free.result (length a.ipsec.now)) = search rules in
    (rw (c.is_bad_adding.ensures, c.is_own.ensures, c.ipsec_place.ensures, c.ipsec_count_of.ensures, c.ipsec_place-free.ensures, c.ike_at-found.ensures, c.ike_place-owned.ensures) at t ∙ s.0, s.1)

pub returns : goal.returns
returns c =
    let a = c.args in
    let k = rw (c.is_bad_adding.ensures, c.is_own.ensures, c.ipsec_place.ensures, c.ipsec_count_of.ensures, c.ipsec_place-free.ensures, c.ike_at-found.ensures, c.ike_place-owned.ensures) at c.in_ok-adding_number.ensures.as_listed in
    rw (c.store.ensures, c.ipsec_place-free.ensures, c.ike_at-found.ensures, c.ike_place-owned.ensures)
    ((opens_ipsec_lem a.ike.now c.told-ike a.ipsec.now a.spi a.owner a.operator).passed (sym k))
