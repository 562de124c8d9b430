-- A written request, answered: never 61 to 65 or 7, and where the responder says done the initiator accepts its
-- response.
use Prim.Native.Nat.{ℕ, ◌+◌, ◌-◌, ◌<◌}
use mathlib.Core.Path.{◌≡◌, refl, ap, ◌∙◌}
use mathlib.Core.List.{List, [], zip_with}
use mathlib.Core.Bool.{Bool, true, false, cond, ◌&&◌, not}
use native.Mathlib.Omega.{arith}
use native.Mathlib.Decide.{ℕ_discrete}
use borrow.Author.Tests.{eq-eqb, ne_eqb, eqb-false, ltb-true, not-true}
use lib.Dec.{eqb, ltb}
use lib.ListN.{length, get_or, replicate}
use Rattle.octets.specs.Limits.{addresses_most, address_octets, nat_octets}
use Rattle.octets.specs.Lists.{same_at}
use Rattle.octets.specs.Numbers.{number_of}
use Rattle.octets.proofs.Small.{both}
use Rattle.address.specs.Address.{no_pair}
use Rattle.policy.specs.declared.rules.Policy.{Policy}
use Rattle.records.specs.Records.{marks_in}
use Rattle.records.specs.declared.ike.IkeRecord.{IkeRecord}
use Rattle.records.specs.declared.ike.Marks.{Marks}
use Rattle.records.specs.declared.ipsec.IpsecRecord.{IpsecRecord}
use Rattle.writing.specs.Notify.{first_type}
use Rattle.payload.specs.declared.payload.Fault.{Fault}
use Rattle.payload.specs.declared.payload.Fault.TheVariants.{ChainLength, NotifyShape, DataSize}
use Rattle.payload.specs.declared.payload.Fault.TheVariants.{Conflict, Leftover, Critical}
use Rattle.reader.specs.Chain.{fault_number, reading}
use Rattle.answering.specs.Core.{cookie_in, decision_on, core_answer, core_response}
use Rattle.responding.specs.Respond.{wants_nats, response_to}
use Rattle.verdict.specs.declared.update.Verdict.TheVariants as verdict
use Rattle.checking.specs.Checks.{Request as Received}
use Rattle.responder.specs.Handle.{accepts, early_number, handled, handled_response}
use Rattle.verdict.proofs.Numbers.{verdict_of, number_accepted}
use Rattle.checking.proofs.Checks.{passed, early_passes}
use Rattle.asking.specs.Draft.{Draft, draft, requested, request_octets}
use Rattle.asking.specs.Fits.{request_fits, cookie_fits}
use Rattle.requests.specs.declared.request.Written.{Written}
use Rattle.initiator.specs.Response.{same, closes, outcome_of, tally_of, assessment}
use Rattle.initiator.proofs.Ways.{whole}
use Rattle.asking.proofs.Fitting.{fitting}
use Rattle.exchange.specs.RoundTrips.{given, Sized, all_known, GivenBack}
use Rattle.exchange.specs.Exchange.{Accepted, Understood, AllUnderstood}
use Rattle.exchange.proofs.Asked.{all_below_lem, sized_at}
use Rattle.exchange.proofs.FirstTrip.{given_back, fits_written, number_zero}
use Rattle.tables.specs.Tables.{meant}

-- The numbers that the first five checks and the decision give are no fault's: all are under 61, and none is 7.
abbrev Other : ℕ → Type 0
Other n = (f : Fault) → n ≡ number_of (fault_number f) → ⊥

abbrev is_other : ℕ → Bool
is_other n = ltb n 61 && not (eqb n 7)

others : (n : ℕ) → is_other n ≡ true → Other n
others n e = go (ltb-true n 61 b.0) (eqb-false n 7 (not-true _ b.1))
  where
    b : (ltb n 61 ≡ true) × (not (eqb n 7) ≡ true)
    b = both (ltb n 61) (not (eqb n 7)) e

    go : n < 61 → (n ≡ 7 → ⊥) → Other n
    go l s ChainLength z = omega arith
    go l s NotifyShape z = omega arith
    go l s DataSize z = omega arith
    go l s Conflict z = omega arith
    go l s Leftover z = omega arith
    go l s (Critical payload_type) z = s z

-- A response that says done is a request for the NAT values, if they are wanted, and the cookie.
module _ (wanted : Bool) (nat-source nat-destination cookie : List ℕ) where
  abbrev reply : Draft
  reply =
      draft
      (record {
        update = false;
        no_nats = false;
        nat_source = wanted;
        nat_destination = wanted;
        no_additional =
            false;
        count = 0;
      })
      no_pair (replicate addresses_most 0) (replicate addresses_most (replicate address_octets 0)) nat-source
      nat-destination cookie

  reply_sized : Sized reply
  reply_sized =
      record {
        source = refl;
        destination = refl;
        families = refl;
        addresses = refl;
        octets = sized_at [] addresses_most;
      }

  reply_fits : (wanted ≡ true → (length nat-source ≡ nat_octets) × (length nat-destination ≡ nat_octets))
      → cookie_fits (length cookie) ≡ true → request_fits reply ≡ true
  unfolding request_fits
  reply_fits n k = go wanted n
    where
      go : (b : Bool) → (b ≡ true → (length nat-source ≡ nat_octets) × (length nat-destination ≡ nat_octets))
          → cond b (b && (eqb (length nat-source) nat_octets && eqb (length nat-destination) nat_octets)) (not b)
          && cookie_fits (length cookie)
          ≡ true
      go true h =
          let l = h refl in
          rw (eq-eqb (length nat-source) nat_octets l.0, eq-eqb (length nat-destination) nat_octets l.1) k
      go false h = k

  reply_notifies : response_to verdict.Accepted wanted nat-source nat-destination cookie ≡ requested reply
  unfolding zip_with
  reply_notifies = refl

-- The cookie that comes back as it was sent doesn't close, and is not tallied.
module _ (k : List ℕ) where
  same_self : same k k ≡ true
  same_self =
      rw (eq-eqb (length k) (length k) refl) (all_below_lem (same_at k k) (length k)
      (λ i h. eq-eqb (get_or k i 0) (get_or k i 0) refl))

  kept_open : closes k k 0 ≡ false
  unfolding closes
  kept_open = rw same_self (go (eqb (length k) 0))
    where
      go : (b : Bool) → not b && cond b true false ≡ false
      go true = refl
      go false = refl

  not_tallied : (n : ℕ) → tally_of k k (all_known n) ≡ 0
  unfolding tally_of
  not_tallied n = go (eqb (length k) 0)
    where
      go : (b : Bool) → ◌≡◌ {A = ℕ} (0 + (0 - 0) + cond b (cond b 0 1) 0) 0
      go true = omega arith
      go false = omega arith

  -- a response that gives back nothing but the cookie, and no error
  taken : (first n : ℕ) (body : List ℕ) → cookie_fits (length k) ≡ true → (reading first body).number ≡ 0
      → (reading first body).seen.tally ≡ all_known n
      → (given first body).cookie ≡ k → Accepted k body (assessment k first body)
  unfolding outcome_of
  taken first n body f z t c =
      rw (← whole k first body (reading first body) refl f z)
      (record { number = refl; outcome = rw (t, c, kept_open); tally = rw (t, c) (not_tallied n); cookie = c })

-- What the responder makes of a written request.
module _ (q : Draft) (z : Sized q) (fits : request_fits q ≡ true) (r : Received)
    (first : r.asks.first ≡ first_type (requested q) 0) (body : r.asks.body ≡ request_octets q) where
  back : GivenBack q r.asks.first r.asks.body
  back = rw (first, body) (given_back q z fits)

  module _ (accepted : Bool) (m : Marks) where
    core_fine : Other (core_answer accepted r.asks m).reply.number
    unfolding core_answer
    core_fine =
        rw (eq-eqb (reading r.asks.first r.asks.body).number 0 back.number)
        (verdict_of Other (others 0 refl) (others 8 refl) (others 9 refl) (decision_on accepted r.asks m).verdict)

    module _ (s : length r.asks.nat-source ≡ nat_octets) (d : length r.asks.nat-destination ≡ nat_octets) where
      core_accepted : (core_answer accepted r.asks m).reply.number ≡ 0
          → Accepted q.cookie (core_response accepted r.asks m)
          (assessment q.cookie (core_answer accepted r.asks m).reply.first (core_response accepted r.asks m))
      unfolding core_answer core_response
      core_accepted e =
          let read = eq-eqb (reading r.asks.first r.asks.body).number 0 back.number in
          let seen = (reading r.asks.first r.asks.body).seen in
          let w = wants_nats seen in
          let p = reply w r.asks.nat-source r.asks.nat-destination q.cookie in
          let k : cookie_in r.asks.body seen ≡ q.cookie = ap (λ (x : Draft). x.cookie) back.values in
          let cf = (fitting q fits).cookie in
          let g = given_back p (reply_sized w _ _ _) (reply_fits w _ _ _ (λ e. (s, d)) cf) in
          let done = number_accepted (decision_on accepted r.asks m).verdict (rw read at e) in
          rw (read, done, k, reply_notifies w r.asks.nat-source r.asks.nat-destination q.cookie)
          (taken q.cookie (first_type (requested p) 0) (length (requested p)) (request_octets p) cf g.number
          g.tally (ap (λ (x : Draft). x.cookie) g.values))

  module _ (policies : List Policy) (ike : List IkeRecord) (ipsec : List IpsecRecord) where
    abbrev early : ℕ
    early = early_number ike ipsec r

    understood : Understood q (handled policies ike ipsec r).reply (handled_response policies ike ipsec r)
    unfolding handled handled_response
    understood = go (ℕ_discrete early 0)
      where
        go : Dec (early ≡ 0) → Understood q (handled policies ike ipsec r).reply (handled_response policies ike ipsec r)
        go (yes e) =
            let o = core_fine (accepts policies r) (marks_in (meant ike r.spi)) in
            let p = passed _ _ _ r e in
            rw (eq-eqb early 0 e)
            (record {
              no_fault = o;
              accepted =
                  core_accepted (accepts policies r) (marks_in (meant ike r.spi)) p.nat-source
                  p.nat-destination;
            })
        go (no n) =
            let o = others early (early_passes _ _ _ r is_other refl refl) in
            rw (ne_eqb early 0 n) (record { no_fault = o; accepted = λ e. absurd (n e) })

pub all_understood : AllUnderstood
all_understood q room z e policies ike ipsec r c =
    let n = number_zero q room e in
    let w = fits_written q room n.0 n.1 in
    understood q z n.0 r (c.first ∙ ap (λ (x : Written). x.first) w.0) (c.body ∙ w.1) policies ike ipsec
