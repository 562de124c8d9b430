-- What was looked up, decided and stored is the clone request's call as defined.
use Rattle.std.proofs.Common.{◌≡◌, length, ap}
use Rattle.writing.specs.Notify.{placed}
use Rattle.cloning.specs.Clone.{clone_request}
use Rattle.cloning.proofs.Cloned.{clones, clone_told_counts, stored}
use Rattle.host_clone.proofs.unmavreth_clone.Goals as goal
use Rattle.host_clone.proofs.unmavreth_clone.Goals.{in-Some, in_default}

pub returns : goal.returns
returns c =
    let a = c.args in
    let ike = a.ike.now in
    let out = a.out.now in
    let q = clone_request a.spi a.new_spi a.first a.body.now (length out) a.operator in
    let call = clones ike q c.told-ike in
    let is : c.match-answer.ike ≡ stored ike q c.clone_at-answer.result.clone =
    elim c.match-answer.branch [
      | in-Some w ↦ rw (w.ike-is, w.in-Some.is, w.store.ensures, c.ike_place.ensures)
      | in_default w ↦ rw (w.ike-is, w.in_default.is)
    ] in
    rw (
      is,
      c.clone_at-answer.ensures.1,
      c.clone_at-answer.ensures.0,
      c.ike_count.ensures,
      c.ike_peers.ensures,
      c.ike_place-2.ensures,
      c.ike_place.ensures,
      c.ike_at-entry.ensures,
      c.ike_place-place.ensures,
    )
    (record {
      told = call.0;
      records = call.1;
      written = ap (placed out 0) call.2;
      counts = rw call.0 (clone_told_counts ike q);
    })
