-- Both round trips of one of the two notifications of a clone, in the clone's reading; and every other reading.
use Prim.Native.Nat.{ℕ}
use mathlib.Core.Path.{◌≡◌, sym, ap, ap₂, ◌∙◌}
use mathlib.Core.List.{List}
use mathlib.Core.Bool.{true}
use native.Mathlib.Omega.{arith}
use lib.ListN.{length}
use Rattle.octets.specs.Limits.{request_room}
use Rattle.octets.specs.Wire.{notify_payload}
use Rattle.octets.proofs.Small.{both, and_true}
use Rattle.asking.specs.Draft.{Draft}
use Rattle.asking.specs.declared.ask.CloneAsk.{CloneAsk}
use Rattle.requests.specs.declared.request.Written.{Written}
use Rattle.clone_requests.specs.WrittenAny.{asks_clone, one_clone, nothing_else, asked_octets}
use Rattle.exchange.specs.RoundTrips.{Octets}
use Rattle.clone_exchange.specs.ClonePlain.{clone_given, also_given, clone_plain}
use Rattle.clone_exchange.specs.CloneTrips.{CloneReadingWritten, CloneWrittenAgain, CloneWritingRead}
use Rattle.clone_exchange.specs.CloneTrips.{TalliedElsewhere}
use Rattle.clone_exchange.proofs.Alone.{one_asks, alone_written, number_zero, asks_nothing, reads}
use Rattle.clone_exchange.proofs.OneNotify.{plain_is}

pub clone_reading_written : CloneReadingWritten
clone_reading_written a q room asks e =
    let n = number_zero a q room asks e in
    let w = alone_written a q room asks n.0 n.1 in
    let f = both (one_clone a) _ n.0 in
    let r = reads a f.0 in
    rw (w.0, w.1)
    (record {
      number = r.number;
      payloads = r.payloads;
      clone = r.clone;
      values = r.also q ∙ sym (asks_nothing q f.1);
    })

pub tallied_elsewhere : TalliedElsewhere
tallied_elsewhere a q room asks e =
    let n = number_zero a q room asks e in
    let w = alone_written a q room asks n.0 n.1 in
    rw (w.0, w.1) (reads a (both (one_clone a) _ n.0).0).elsewhere

module _ (first : ℕ) (body : List ℕ) where
  abbrev a : CloneAsk
  a = clone_given first body

  abbrev q : Draft
  q = also_given first body

  abbrev told : ℕ → List ℕ → Written
  told f b = record { number = 0; first = f; length = length b }

  -- what a plainly read chain gave is what writes it
  again : Octets body → clone_plain first body ≡ true → CloneWrittenAgain first body
  again bytes e room long =
      let p = plain_is first body bytes e in
      let nothing : nothing_else q.ask (length q.cookie) ≡ true =
      ap (λ (d : Draft). nothing_else d.ask (length d.cookie)) (ap₂ also_given p.0 p.1)
      ∙ (reads a p.2).nothing in
      let w = alone_written a q room (one_asks a p.2) (and_true p.2 nothing) long in
      (w.0 ∙ ap₂ told (sym p.0) (sym p.1), w.1 ∙ sym p.1)

  -- a chain that is written again of what it gave is what is written for one of the two
  plainly : asks_clone a ≡ true → CloneWrittenAgain first body → clone_plain first body ≡ true
  plainly asks h =
      let t = h request_room (omega arith) in
      let n = number_zero a q request_room asks (ap (λ (w : Written). w.number) t.0) in
      let w = alone_written a q request_room asks n.0 n.1 in
      let starts : first ≡ notify_payload = ap (λ (w : Written). w.first) (sym t.0 ∙ w.0) in
      let octets : body ≡ asked_octets a = sym t.1 ∙ w.1 in
      ap₂ clone_plain starts octets ∙ (reads a (both (one_clone a) _ n.0).0).plain

pub clone_writing_read : CloneWritingRead
clone_writing_read first body bytes = (again first body bytes, plainly first body)
