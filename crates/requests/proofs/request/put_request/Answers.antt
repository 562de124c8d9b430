-- `requests::request::put_request` meets its contract: what is known before the first part is written, and then the
-- parts joined. Assumes nothing.
use Rattle.std.proofs.Common.{◌≡◌, ◌≤◌, ℕ, ◌∷◌, [], true, length, take, refl, arith}
use Rattle.std.proofs.Math.ListN.{length-map, length-take}
use Rattle.octets.specs.Wire.{nat_detection_source_ip, nat_detection_destination_ip}
use Rattle.octets.specs.Wire.{update_sa_addresses, no_nats_allowed}
use Rattle.address.specs.declared.address.Address.{Address}
use Rattle.writing.specs.Notify.{notification}
use Rattle.asking.specs.Draft.{pair_octets, request_octets}
use Rattle.asking.specs.Fits.{request_fits}
use Rattle.asking.specs.Wanted.{draft_of}
use Rattle.asking.specs.declared.ask.Wanted.{Wanted}
use Rattle.asking.proofs.Fitting.{fitting}
use Rattle.putting.specs.Put.{TypeIf, TailType}
use Rattle.requests.proofs.Asked.{asked_taken}
use Rattle.requests.proofs.Whole.{Ready, first_type_lem, fits_no_nats, fits_nats, fits_tail, short, whole}
use Rattle.requests.proofs.request.put_request.Goals as goal

readied : (w : Wanted) (to_tail to_nats to_no_nats : ℕ) → request_fits (draft_of w) ≡ true
    → w.ask.count ≤ length w.addresses.now → TailType w.ask.no_additional w.ask.count (length w.cookie.now) to_tail
    → TypeIf w.ask.nat_source to_tail to_nats → TypeIf w.ask.no_nats to_nats to_no_nats
    → Ready (draft_of w) to_tail to_nats to_no_nats
readied w to_tail to_nats to_no_nats fits l t n m =
    let q = draft_of w in
    let fit = fitting q fits in
    let families = length-map w.addresses.now (λ (a : Address). a.family) in
    let octets = length-map w.addresses.now (λ (a : Address). a.octets) in
    record {
      fit = fit;
      at_tail = t q.families q.addresses q.cookie (omega (arith, families, l)) (omega (arith, octets, l)) refl;
      at_nats =
          n (notification nat_detection_source_ip q.nat-source)
          (notification nat_detection_destination_ip q.nat-destination ∷ []);
      at_no_nats = m (notification no_nats_allowed (pair_octets q.pair)) [];
    }

-- that the first `count` addresses are so many says that there are as many
enough : (w : Wanted) → length (take w.ask.count w.addresses.now) ≡ w.ask.count → w.ask.count ≤ length w.addresses.now
enough w e = omega (arith, length-take w.ask.count w.addresses.now)

pub put_no_nats-b-requires : goal.put_no_nats-b-requires
put_no_nats-b-requires c =
    let ready = readied c.args.wanted _ _ _ c.requires.1 (omega (arith, enough c.args.wanted)) c.tail_type-to_tail.ensures
    c.type_if-to_nats.ensures c.type_if-to_no_nats.ensures in
    fits_no_nats ready c.requires.0 c.put_if-a.ensures

pub put_nats-c-requires-clause-nats_room_in_bounds : goal.put_nats-c-requires-clause-nats_room_in_bounds
put_nats-c-requires-clause-nats_room_in_bounds c =
    let ready = readied c.args.wanted _ _ _ c.requires.1 (omega (arith, enough c.args.wanted)) c.tail_type-to_tail.ensures
    c.type_if-to_nats.ensures c.type_if-to_no_nats.ensures in
    fits_nats ready c.requires.0 c.put_if-a.ensures c.put_no_nats-b.ensures

pub put_nats-c-requires-clause-nat_source_len : goal.put_nats-c-requires-clause-nat_source_len
put_nats-c-requires-clause-nat_source_len c = (fitting (draft_of c.args.wanted) c.requires.1).nats

pub shared_ref_as_front-asked : goal.shared_ref_as_front-asked
shared_ref_as_front-asked c = omega (arith, (fitting (draft_of c.args.wanted) c.requires.1).few)

pub put_tail-end-requires-clause-tail_room_in_bounds : goal.put_tail-end-requires-clause-tail_room_in_bounds
put_tail-end-requires-clause-tail_room_in_bounds c =
    let ready = readied c.args.wanted _ _ _ c.requires.1 (omega (arith, enough c.args.wanted)) c.tail_type-to_tail.ensures
    c.type_if-to_nats.ensures c.type_if-to_no_nats.ensures in (
      fits_tail ready c.requires.0 c.put_if-a.ensures c.put_no_nats-b.ensures c.put_nats-c.ensures,
      ready.fit.short,
    )

pub put_tail-end-requires-clause-count_le_addresses_most : goal.put_tail-end-requires-clause-count_le_addresses_most
put_tail-end-requires-clause-count_le_addresses_most c =
    let w = c.args.wanted in
    let fit = fitting (draft_of w) c.requires.1 in
    (omega (arith, fit.few), λ h. omega (arith, fit.none h))

pub overflow_cast-result : goal.overflow_cast-result
overflow_cast-result c =
    let w = c.args.wanted in
    let ready = readied w _ _ _ c.requires.1 (omega (arith, enough c.args.wanted)) c.tail_type-to_tail.ensures
    c.type_if-to_nats.ensures c.type_if-to_no_nats.ensures in
    let tail = rw (asked_taken w.ask.count w.addresses.now) at c.put_tail-end.ensures in
    let s = short ready c.requires.0 c.put_if-a.ensures c.put_no_nats-b.ensures c.put_nats-c.ensures tail in
    omega (arith, s)

pub returns : goal.returns
returns c =
    let w = c.args.wanted in
    let q = draft_of w in
    let ready = readied w _ _ _ c.requires.1 (omega (arith, enough c.args.wanted)) c.tail_type-to_tail.ensures
    c.type_if-to_nats.ensures c.type_if-to_no_nats.ensures in
    let tail = rw (asked_taken w.ask.count w.addresses.now) at c.put_tail-end.ensures in
    let all = whole ready c.requires.0 c.put_if-a.ensures c.put_no_nats-b.ensures c.put_nats-c.ensures tail in
    let size : c.put_tail-end.result ≡ length (request_octets q) = omega (arith, all.offset) in
    let first = first_type_lem ready c.type_if.result (c.type_if.ensures (notification update_sa_addresses []) []) in
    (rw (size, first), all.octets)
