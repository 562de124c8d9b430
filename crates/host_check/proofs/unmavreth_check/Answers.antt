-- What was looked up, decided and stored is the end of a check as defined.
use Rattle.std.proofs.Common.{◌≡◌}
use Rattle.routability.specs.Routability.{check_response}
use Rattle.routability.proofs.Ended.{ends, ending_counts, stored}
use Rattle.host_check.proofs.unmavreth_check.Goals as goal
use Rattle.host_check.proofs.unmavreth_check.Goals.{in-Some, in_default}

pub returns : goal.returns
returns c =
    let a = c.args in
    let q = check_response a.spi a.id a.first a.body.now a.operator in
    let call = ends a.ike.now a.ipsec.now q c.told-ike in
    let is : c.match-ending.ike ≡ stored a.ike.now a.ipsec.now q c.told-ike c.end_check-ending.result.entry =
    elim c.match-ending.branch [
      | in-Some w ↦ rw (w.ike-is, w.in-Some.is, w.store.ensures, c.ike_place-place.ensures)
      | in_default w ↦ rw (w.ike-is, w.in_default.is)
    ] in
    rw (
      c.end_owned.ensures,
      is,
      c.end_check-ending.ensures,
      c.ike_at.ensures,
      c.ike_place-place.ensures,
    )
    (record {
      told = call.told_so;
      records = call.ike_after;
      owned = call.ipsec_after;
      counts = ending_counts a.ike.now a.ipsec.now q c.told-ike;
    })
