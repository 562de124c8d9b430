-- What was looked up, decided and stored is the table call.
use Rattle.std.proofs.Common.{rules, ◌≡◌, ◌∙◌, sym, length}
use lib.Dec.{leb, ltb}
use Rattle.octets.specs.Limits.{ike_places, ike_share, ipsec_share}
use Rattle.octets.specs.Numbers.{told}
use Rattle.tables.specs.Changes.{both_number}
use Rattle.tables.proofs.Changed.{opens_both_lem}
use Rattle.host_ike.proofs.open_both.Goals as goal

pub returns-in_err-both_number : goal.returns-in_err-both_number
returns-in_err-both_number c =
    let a = c.args in
    let w = c.in_err-both_number.ensures in
    let k = rw (c.opening_fits.ensures, c.ike_place.ensures, c.ipsec_place.ensures, c.ike_count.ensures, c.ipsec_count_of.ensures, c.ike_place-free.ensures, c.ipsec_place-child_free.ensures) at w.as_listed in
    let s = (opens_both_lem a.ike.now c.told-ike a.ipsec.now a.opening).refused (λ z. w.refuses (k ∙ z)) in
    let t : told c.from_residual.result ≡ both_number c.opening_fits.result (ltb c.ike_place.result ike_places)
    (ltb c.ipsec_place.result (length a.ipsec.now)) (leb ike_share c.ike_count.result)
    (leb ipsec_share c.ipsec_count_of.result) (ltb c.ike_place-free.result ike_places)
    (ltb c.ipsec_place-child_free.result (length a.ipsec.now)) = search rules in
    (rw (c.opening_fits.ensures, c.ike_place.ensures, c.ipsec_place.ensures, c.ike_count.ensures, c.ipsec_count_of.ensures, c.ike_place-free.ensures, c.ipsec_place-child_free.ensures) at t ∙ s.0, s.1, s.2)

pub returns : goal.returns
returns c =
    let a = c.args in
    let k = rw (c.opening_fits.ensures, c.ike_place.ensures, c.ipsec_place.ensures, c.ike_count.ensures, c.ipsec_count_of.ensures, c.ike_place-free.ensures, c.ipsec_place-child_free.ensures) at c.in_ok-both_number.ensures.as_listed in
    rw (c.store-2.ensures, c.child_of.ensures, c.store.ensures, c.ike_of.ensures, c.ike_place-free.ensures, c.ipsec_place-child_free.ensures)
    ((opens_both_lem a.ike.now c.told-ike a.ipsec.now a.opening).passed (sym k))
