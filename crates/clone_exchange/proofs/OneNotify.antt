-- A chain that is plainly read in the clone's reading is what the writer writes for one of the two: its eight octets.
use Prim.Native.Nat.{ℕ, ◌+◌, ◌≤◌}
use mathlib.Core.Path.{◌≡◌, refl, ap, ◌∙◌}
use mathlib.Core.List.{List, []}
use mathlib.Core.Bool.{Bool, true, false, cond, ◌||◌, not, false≢true}
use native.Mathlib.Omega.{arith}
use borrow.Author.Tests.{eqb-true}
use lib.Dec.{eqb, ltb}
use lib.ListN.{length, get_or, drop, drop_of_length-le}
use Rattle.octets.specs.Wire.{notify_payload, clone_ike_sa_supported, clone_ike_sa}
use Rattle.octets.proofs.Small.{both}
use Rattle.notify.specs.declared.notify.NotifyKind.{NotifyKind}
use Rattle.payload.specs.Payload.{payload_at}
use Rattle.payload.specs.declared.payload.Content.TheVariants.{Skipped, Unknown as UnknownPayload, Notify}
use Rattle.payload.specs.declared.payload.Fault.TheVariants.{NotifyShape, DataSize, Leftover}
use Rattle.payload.specs.Payload.{Found, Payload, Faulty}
use Rattle.findings.specs.Seen.{nothing_seen}
use Rattle.writing.specs.Notify.{notification}
use Rattle.writing.proofs.Chained.{chained_one}
use Rattle.reader.specs.Chain.{Chain, ends, faulty, payload, link, chain_end, chain_at, Scan, scanned}
use Rattle.reader.specs.Chain.{Outcome, Whole, Broken}
use Rattle.reader.proofs.Chain.{chain_step, takes}
use Rattle.reader.proofs.Whole.{told_whole}
use Rattle.clone_chain.specs.CloneChain.{is_clone, clone_fault, or_else, clone_outcome, earlier, clone_reading}
use Rattle.asking.specs.declared.ask.CloneAsk.{CloneAsk}
use Rattle.clone_requests.specs.WrittenAny.{one_clone, clone_type, asked_octets}
use Rattle.exchange.specs.Plain.{zero_fields}
use Rattle.exchange.specs.RoundTrips.{Octets}
use Rattle.exchange.proofs.Offsets.{be16_on}
use Rattle.exchange.proofs.Parsed.{ReadFrom, told, notify_of, eight}
use Rattle.clone_exchange.specs.ClonePlain.{clone_given, is_end, one_notify, clone_plain}

-- the chain in which a Notify stands, and nothing behind it
record One (first : ℕ) (body : List ℕ) : Type 0 where
  kind : NotifyKind
  number : ℕ
  len : ℕ
  from : ReadFrom first body 0 (length body) kind number len
  zeros : zero_fields body 0 ≡ true
  next : get_or body 0 0 ≡ 0
  chain : chain_at body first 0 ≡ payload 0 (Notify kind number len) ends

-- nothing stands from `at` on where the chain ends there
ended : (first : ℕ) (body : List ℕ) (at : ℕ) → at ≤ length body → is_end (chain_at body first at) ≡ true
    → (first ≡ 0) × (at ≡ length body) × (chain_at body first at ≡ ends)
ended first body at inside e =
    go (eqb first 0) refl (eqb at (length body)) refl (payload_at first body at) (rw step at e)
  where
    step : chain_at body first at
        ≡ cond (eqb first 0) (chain_end body at) (link (chain_at body (get_or body at 0)) at (payload_at first body at))
    step = chain_step first body at inside

    go : (b : Bool) → eqb first 0 ≡ b → (c : Bool) → eqb at (length body) ≡ c → (x : Found)
        → is_end (cond b (cond c ends (faulty Leftover at)) (link (chain_at body (get_or body at 0)) at x)) ≡ true
        → (first ≡ 0) × (at ≡ length body) × (chain_at body first at ≡ ends)
    go true z true l x e = (eqb-true first 0 z, eqb-true at (length body) l, rw (step, z, l))
    go true z false l x e = absurd (false≢true e)
    go false z c l (Faulty f) e = absurd (false≢true e)
    go false z c l (Payload size content) e = absurd (false≢true e)

one_of : (first : ℕ) (body : List ℕ) → one_notify body (chain_at body first 0) ≡ true → One first body
one_of first body e = go (eqb first 0) refl (eqb 0 (length body)) (payload_at first body 0) refl (rw step at e)
  where
    step : chain_at body first 0
        ≡ cond (eqb first 0) (chain_end body 0) (link (chain_at body (get_or body 0 0)) 0 (payload_at first body 0))
    step = chain_step first body 0 (omega arith)

    go : (b : Bool) → eqb first 0 ≡ b → (c : Bool) → (x : Found) → payload_at first body 0 ≡ x
        → one_notify body (cond b (cond c ends (faulty Leftover 0)) (link (chain_at body (get_or body 0 0)) 0 x)) ≡ true
        → One first body
    go true z true x p e = absurd (false≢true e)
    go true z false x p e = absurd (false≢true e)
    go false z c (Faulty f) p e = absurd (false≢true e)
    go false z c (Payload size Skipped) p e = absurd (false≢true e)
    go false z c (Payload size UnknownPayload) p e = absurd (false≢true e)
    go false z c (Payload size (Notify kind number len)) p e =
        let t = takes first body 0 (omega arith) size (Notify kind number len) p in
        let a = both (zero_fields body 0) _ e in
        let n = ended (get_or body 0 0) body (0 + size) t.1 a.1 in
        let whole : size ≡ length body = omega (arith, n.1) in
        let f : ReadFrom first body 0 size kind number len = rw p at (told first body 0) in
        record {
          kind = kind;
          number = number;
          len = len;
          from = rw whole at f;
          zeros = a.0;
          next = n.0;
          chain = rw (step, z, p) (ap (payload 0 (Notify kind number len)) n.2);
        }

-- no fault in one way or the other, so none in the second
second_whole : (o p : Outcome) → earlier o p ≡ Whole → p ≡ Whole
second_whole Whole p e = e
second_whole (Broken f at) Whole e = refl
second_whole (Broken f at) (Broken g to) e = absurd (never (ltb to at) e)
  where
    never : (b : Bool) → cond b (Broken g to) (Broken f at) ≡ Whole → ⊥
    never true e = let z : ◌≡◌ {A = ℕ} 0 1 = cc in omega arith
    never false e = let z : ◌≡◌ {A = ℕ} 0 1 = cc in omega arith

module _ (first : ℕ) (body : List ℕ) (read : (clone_reading first body).reading.number ≡ 0) where
  abbrev ch : Chain
  ch = chain_at body first 0

  whole : earlier (scanned nothing_seen ch).outcome (clone_outcome body ch) ≡ Whole
  unfolding clone_reading
  whole =
      let scan = scanned nothing_seen ch in
      let o = earlier scan.outcome (clone_outcome body ch) in
      ap (λ (x : Scan). x.outcome) (told_whole ch o scan.seen read)

  no_fault : clone_outcome body ch ≡ Whole
  no_fault = second_whole (scanned nothing_seen ch).outcome (clone_outcome body ch) whole

-- one of the two that is no fault has neither SPI nor data
bare : (body : List ℕ) (kind : NotifyKind) (number len : ℕ) → is_clone number ≡ true
    → or_else (clone_fault body 0 (Notify kind number len)) Whole ≡ Whole → (get_or body 5 0 ≡ 0) × (len ≡ 0)
bare body kind number len c e = go (eqb (get_or body 5 0) 0) refl (eqb len 0) refl (rw c at e)
  where
    go : (s : Bool) → eqb (get_or body 5 0) 0 ≡ s → (d : Bool) → eqb len 0 ≡ d
        → or_else (cond (not s) (Broken NotifyShape 0) (cond (not d) (Broken DataSize 0) Whole)) Whole ≡ Whole
        → (get_or body 5 0 ≡ 0) × (len ≡ 0)
    go true s true d e = (eqb-true (get_or body 5 0) 0 s, eqb-true len 0 d)
    go true s false d e = absurd (let z : ◌≡◌ {A = ℕ} 0 1 = cc in omega arith)
    go false s d t e = absurd (let z : ◌≡◌ {A = ℕ} 0 1 = cc in omega arith)

-- the notify type of a Notify that is one of the two
typed : (number : ℕ) (a : CloneAsk) → a.supported ≡ (eqb number clone_ike_sa_supported || false)
    → a.clone ≡ (eqb number clone_ike_sa || false) → one_clone a ≡ true
    → (number ≡ clone_type a) × (is_clone number ≡ true)
typed number a =
    go (eqb number clone_ike_sa_supported) refl (eqb number clone_ike_sa) refl a.supported a.clone
  where
    go : (s : Bool) → eqb number clone_ike_sa_supported ≡ s → (c : Bool) → eqb number clone_ike_sa ≡ c → (x y : Bool)
        → x ≡ (s || false) → y ≡ (c || false) → cond x (not y) y ≡ true
        → (number ≡ cond x clone_ike_sa_supported clone_ike_sa) × (s || c ≡ true)
    go true s c d x y p q e = (rw p (eqb-true number clone_ike_sa_supported s), refl)
    go false s true d x y p q e = (rw p (eqb-true number clone_ike_sa d), refl)
    go false s false d x y p q e = absurd (false≢true (rw (p, q) at e))

-- what is told of the two in a chain of one Notify that was read whole
holds_of : (first : ℕ) (body : List ℕ) → (clone_reading first body).reading.number ≡ 0 → (o : One first body)
    → ((clone_reading first body).supported ≡ (eqb o.number clone_ike_sa_supported || false))
    × ((clone_reading first body).clone ≡ (eqb o.number clone_ike_sa || false))
unfolding clone_reading
holds_of first body read o =
    let w = rw o.chain at (whole first body read) in
    (simp (o.chain, w), simp (o.chain, w))

-- The eight octets.
pub plain_is : (first : ℕ) (body : List ℕ) → Octets body → clone_plain first body ≡ true
    → (first ≡ notify_payload) × (body ≡ asked_octets (clone_given first body)) × (one_clone (clone_given first body) ≡ true)
unfolding clone_plain
plain_is first body bytes e =
    let a = both (eqb (clone_reading first body).reading.number 0) _ e in
    let b = both (one_notify body (chain_at body first 0)) _ a.1 in
    let o = one_of first body b.0 in
    let read = eqb-true (clone_reading first body).reading.number 0 a.0 in
    let given = holds_of first body read o in
    let t = typed o.number (clone_given first body) given.0 given.1 b.1 in
    let n = no_fault first body read in
    let s = bare body o.kind o.number o.len t.1 (rw o.chain at n) in
    (o.from.type, octets o s.0 s.1 t.0, b.1)
  where
    octets : (o : One first body) → get_or body 5 0 ≡ 0 → o.len ≡ 0 → o.number ≡ clone_type (clone_given first body)
        → body ≡ asked_octets (clone_given first body)
    octets o spi none named =
        let f = o.from in
        let z = both (eqb (get_or body 1 0) 0) (eqb (get_or body 4 0) 0) o.zeros in
        let long : length body ≡ 8 = omega (arith, f.header, f.data_len, spi, none) in
        let end : drop 8 body ≡ [] = drop_of_length-le body {i = 8} (omega arith) in
        let x = notification (clone_type (clone_given first body)) [] in
        eight body 0 (omega arith)
        ∙ rw (
          chained_one x 0,
          ← named,
          f.named,
          be16_on body 0 6,
          notify_of 0 (get_or body 2 0) (get_or body 3 0) (get_or body 6 0) (get_or body 7 0) [] (bytes 3) (bytes 7)
              (omega (arith, long, f.whole, be16_on body 0 2)),
          o.next,
          eqb-true (get_or body 1 0) 0 z.0,
          eqb-true (get_or body 4 0) 0 z.1,
          spi,
          end,
        )
