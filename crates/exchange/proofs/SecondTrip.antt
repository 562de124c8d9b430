-- The second round trip: a chain is plainly read exactly if writing what it gave writes it again.
use Prim.Native.Nat.{ℕ, min}
use mathlib.Core.Path.{◌≡◌, refl, sym, ap, ap₂, ◌∙◌}
use mathlib.Core.List.{List, [], zip_with}
use mathlib.Core.Bool.{true}
use native.Mathlib.Omega.{arith}
use lib.ListN.{length, get_or, replicate}
use Rattle.octets.specs.Limits.{addresses_most, address_octets, request_room}
use Rattle.octets.proofs.Pad.{length-copied, copied_at}
use Rattle.octets.proofs.Zip.{length-zip, get_d_zip}
use Rattle.address.specs.Address.{width_of}
use Rattle.payload.specs.declared.payload.Content.{Content}
use Rattle.payload.specs.declared.payload.Content.TheVariants.{Skipped, Unknown as UnknownPayload, Notify}
use Rattle.findings.specs.Seen.{content_noted}
use Rattle.values.specs.Values.{part_of, address_at}
use Rattle.findings.specs.declared.seen.Seen.{Seen}
use Rattle.writing.specs.Notify.{first_type}
use Rattle.reader.specs.Chain.{reading}
use Rattle.reader.proofs.Chain.{DataFits}
use Rattle.reader.proofs.Kept.{kept}
use Rattle.asking.specs.Draft.{requested, request_octets}
use Rattle.requests.specs.declared.request.Written.{Written}
use Rattle.exchange.specs.Plain.{plainly_read}
use Rattle.exchange.specs.RoundTrips.{given, Sized, Octets, WrittenAgain, WritingRead}
use Rattle.exchange.proofs.Payloads.{chain_of}
use Rattle.exchange.proofs.Structs.{Sixteen, families_in, octets_in_lem, octets_sixteen}
use Rattle.exchange.proofs.Reading.{noted_sixteen}
use Rattle.exchange.proofs.Staged.{request_fits_lem}
use Rattle.exchange.proofs.FirstTrip.{given_back, fits_written, number_zero}
use Rattle.exchange.proofs.Data.{length-padded, pair_sized}
use Rattle.exchange.proofs.Plainly.{plain_request}
use Rattle.exchange.proofs.Ordered.{plain_again}

content_sixteen : (s : Seen) (content : Content) (offset : ℕ) → Sixteen s.list → DataFits content
    → Sixteen (content_noted s content offset).list
unfolding content_noted
content_sixteen s Skipped offset h f = h
content_sixteen s UnknownPayload offset h f = h
content_sixteen s (Notify k number len) offset h f = noted_sixteen _ k number offset len h

module _ (first : ℕ) (body : List ℕ) where
  sixteen : Sixteen (reading first body).seen.list
  sixteen = kept (λ s. Sixteen s.list) (refl, refl) content_sixteen first body

  given_sized : Sized (given first body)
  given_sized =
      let l = (reading first body).seen.list in
      let at = address_at body in
      let all = zip_with at l.offsets l.families in
      let long : length all ≡ addresses_most = length-zip at l.offsets l.families (sixteen.0 ∙ sym sixteen.1)
      ∙ sixteen.0 in
      let pair = pair_sized
      (part_of body (reading first body).seen.no_nats (reading first body).seen.no_nats_len) in
      record {
        source = pair.0;
        destination = pair.1;
        families = rw (families_in body l sixteen)
            (length-copied 0 l.families addresses_most l.count sixteen.1);
        addresses = rw (octets_in_lem body l sixteen) (octets_sixteen body l sixteen);
        octets =
            λ i h. rw (octets_in_lem body l sixteen)
            (copied_at (replicate address_octets 0) (λ a. length a ≡ address_octets) [] refl all addresses_most
            (min l.count addresses_most) i h (omega (arith, long))
            (ap length (get_d_zip at l.offsets l.families i 0 0 [] (omega (arith, sixteen.0))
            (omega (arith, sixteen.1)))
            ∙ length-padded (part_of body (get_or l.offsets i 0) (width_of (get_or l.families i 0)))));
      }

  -- what a plainly read chain gave is the request that writes it
  again : Octets body → plainly_read first body ≡ true → WrittenAgain first body
  again bytes e room r =
      let w = plain_request first body bytes e in
      let same = ap₂ given w.starts w.octets ∙ (given_back w.q w.sized w.fits).values ∙ w.normal in
      let o = fits_written w.q room w.fits r in
      (rw (same, o.0, ← w.starts, ← w.octets), rw (same, o.1, ← w.octets))

  -- a chain that is written again of what it gave is a written request
  plainly : WrittenAgain first body → plainly_read first body ≡ true
  plainly h =
      let q = given first body in
      let t = h request_room (omega arith) in
      let n = number_zero q request_room (ap (λ (w : Written). w.number) t.0) in
      let o = fits_written q request_room n.0 n.1 in
      let starts : first ≡ first_type (requested q) 0 = ap (λ (w : Written). w.first) (sym t.0 ∙ o.0) in
      let octets : body ≡ request_octets q = sym t.1 ∙ o.1 in
      let back = given_back q given_sized n.0 in
      plain_again first body n.0 (rw (← starts, ← octets) at back.number) octets
      (rw (← starts, ← octets) at (chain_of (requested q) (request_fits_lem q given_sized n.0) []))

pub writing_read : WritingRead
writing_read first body bytes = (again first body bytes, plainly first body)
