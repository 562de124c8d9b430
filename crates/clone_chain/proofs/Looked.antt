-- What looking at a chain for the two tells is what is trusted of them, and a clone request is read as it is defined.
use Prim.Native.Nat.{ℕ, zero, suc, ◌+◌, ◌-◌, ◌≤◌, ◌<◌}
use mathlib.Core.Path.{◌≡◌, refl, ◌∙◌}
use mathlib.Core.List.{List}
use mathlib.Core.Bool.{Bool, true, false, cond, ◌&&◌, ◌||◌, not}
use native.Mathlib.Omega.{arith}
use borrow.Author.Tests.{lt-ltb, le-ltb, ltb-true, ltb-false, eq-eqb, ne_eqb}
use lib.Dec.{eqb, ltb}
use lib.ListN.{length, get_or}
use Rattle.octets.specs.Limits.{body_most, notify_header}
use Rattle.octets.specs.Numbers.{number_of}
use Rattle.octets.specs.declared.number.Number.{Number}
use Rattle.octets.specs.Wire.{clone_ike_sa_supported, clone_ike_sa}
use Rattle.octets.proofs.Small.{chosen}
use Rattle.payload.specs.Payload.{payload_at, spi_size_at}
use Rattle.payload.specs.declared.payload.Fault.{Fault}
use Rattle.payload.specs.declared.payload.Fault.TheVariants.{ChainLength, NotifyShape, DataSize, Conflict, Leftover}
use Rattle.payload.specs.declared.payload.Fault.TheVariants.{Critical}
use Rattle.payload.specs.declared.payload.Content.{Content}
use Rattle.payload.specs.declared.payload.Content.TheVariants.{Skipped, Unknown, Notify}
use Rattle.payload.specs.Payload.{Found, Payload, Faulty}
use Rattle.findings.specs.Seen.{nothing_seen, content_noted, conflicts}
use Rattle.findings.specs.declared.seen.Seen.{Seen}
use Rattle.reader.specs.Chain.{Chain, ends, faulty, payload, link, chain_end, chain, chain_at, payloads_before}
use Rattle.reader.specs.Chain.{Scan, scanned, stopped, reading, Outcome, Whole, Broken, fault_number, fault_type, answer, refused}
use Rattle.reader.specs.declared.read.Reading.{Reading}
use Rattle.reader.proofs.Chain.{takes, Formed, chain_formed}
use Rattle.reader.proofs.Whole.{faults_told}
use Rattle.clone_chain.specs.CloneChain.{is_clone, clone_fault, or_else, clone_outcome, earlier, is_of_type, holds}
use Rattle.clone_chain.specs.CloneChain.{is_whole, clone_reading}
use Rattle.clone_chain.specs.Look.{Look, WellFormed, Malformed, outcome_number, looked, look_to, Reaches, stop_of, clone_read, told}
use Rattle.clone_chain.specs.declared.read.CloneReading.{CloneReading}

-- A chain's payloads begin before `most`, and no fault is behind it.
abbrev Inside : ℕ → Chain → Type 0
Inside most ends = Unit {0}
Inside most (faulty f at) = at ≤ most
Inside most (payload at content rest) = (at < most) × Inside most rest

steps_inside : (k : ℕ) (body : List ℕ) (payload_type at : ℕ) → at ≤ length body
    → Inside (length body) (chain k body payload_type at)
unfolding chain
steps_inside zero body payload_type at inside = tt
steps_inside (suc k) body payload_type at inside =
    go (eqb payload_type 0) (payload_at payload_type body at) refl
    (λ n l. steps_inside k body (get_or body at 0) (at + n) l)
  where
    end : (b : Bool) → Inside (length body) (cond b ends (faulty Leftover at))
    end true = tt
    end false = inside

    go : (b : Bool) (x : Found) → payload_at payload_type body at ≡ x
        → ((n : ℕ) → at + n ≤ length body → Inside (length body) (chain k body (get_or body at 0) (at + n)))
        → Inside (length body) (cond b (chain_end body at) (link (chain k body (get_or body at 0)) at x))
    go true x e r = end (eqb at (length body))
    go false (Payload n content) e r =
        let w = takes payload_type body at inside n content e in
        (omega (arith, w.0, w.1), r n w.1)
    go false (Faulty f) e r = inside

chain_inside : (body : List ℕ) (first : ℕ) → Inside (length body) (chain_at body first 0)
unfolding chain_at
chain_inside body first = steps_inside (suc (length body - 0)) body first 0 (omega arith)

-- the scan behind a payload, after what was seen
abbrev next : Seen → ℕ → Content → Chain → Scan
next s at content rest = scanned (content_noted s content (at + notify_header)) rest

-- A chain has no faulty payload up to where reading it stops, which is not past its end.
whole_reaches : (stop : ℕ) (s : Seen) (ch : Chain) → (scanned s ch).outcome ≡ Whole → Reaches stop ch
unfolding scanned
whole_reaches stop s ends e = tt
whole_reaches stop s (faulty f at) e = let z : ◌≡◌ {A = ℕ} 0 1 = cc in absurd (omega arith)
whole_reaches stop s (payload at content rest) e =
    go (conflicts s content) e (whole_reaches stop (content_noted s content (at + notify_header)) rest)
  where
    go : (b : Bool) → (cond b (stopped (Broken Conflict at) s) (next s at content rest)).outcome ≡ Whole
        → ((next s at content rest).outcome ≡ Whole → Reaches stop rest) → at < stop → Reaches stop rest
    go true e r l = let z : ◌≡◌ {A = ℕ} 0 1 = cc in absurd (omega arith)
    go false e r l = r e

stops_at : (most : ℕ) (s : Seen) (ch : Chain) (f : Fault) (o : ℕ) → Inside most ch → (scanned s ch).outcome ≡ Broken f o
    → (o ≤ most) × Reaches o ch
unfolding scanned
stops_at most s ends f o h e = let z : ◌≡◌ {A = ℕ} 0 1 = cc in absurd (omega arith)
stops_at most s (faulty g at) f o h e = let z : at ≡ o = cc in (omega (arith, h), omega arith)
stops_at most s (payload at content rest) f o h e =
    go (conflicts s content) e (stops_at most (content_noted s content (at + notify_header)) rest f o h.1)
  where
    go : (b : Bool) → (cond b (stopped (Broken Conflict at) s) (next s at content rest)).outcome ≡ Broken f o
        → ((next s at content rest).outcome ≡ Broken f o → (o ≤ most) × Reaches o rest)
        → (o ≤ most) × (at < o → Reaches o rest)
    go true e r = let z : at ≡ o = cc in (omega (arith, h.0), λ l. absurd (omega arith))
    go false e r = ((r e).0, λ l. (r e).1)

-- the faults that a payload has as one of the two
data OwnFault (at : ℕ) : Outcome → Type 0 where
  none : OwnFault at Whole
  shape : OwnFault at (Broken NotifyShape at)
  data_size_lem : OwnFault at (Broken DataSize at)

own_fault : (body : List ℕ) (at : ℕ) (content : Content) → OwnFault at (clone_fault body at content)
own_fault body at Skipped = none
own_fault body at Unknown = none
own_fault body at (Notify kind notify_type size) =
    chosen (OwnFault at) (not (is_clone notify_type)) (λ e. none)
    (λ e.
    chosen (OwnFault at) (not (eqb (get_or body (at + spi_size_at) 0) 0)) (λ e. shape)
    (λ e. chosen (OwnFault at) (not (eqb size 0)) (λ e. data_size_lem) (λ e. none)))

-- What a look says that found this fault at an offset, after so many payloads before the chain.
record Finds (ordinal : ℕ) (ch : Chain) (f : Fault) (at : ℕ) (l : Look) : Type 0 where
  number : l.number ≡ number_of (fault_number f)
  offset : l.offset ≡ at
  before : l.ordinal ≡ ordinal + payloads_before ch at

-- What was looked at tells the first fault of the two, which is not before `least` but before `most` and has no type,
-- and the payloads before it; where it is not before `stop`, nothing is told.
abbrev Tells : ℕ → ℕ → ℕ → ℕ → Chain → Outcome → Look → Type 0
Tells most stop least ordinal ch Whole l = l.number ≡ 0
Tells most stop least ordinal ch (Broken f at) l =
    (least ≤ at) × (at < most) × (fault_type f ≡ 0) × (stop ≤ at → l.number ≡ 0)
    × (at < stop → Finds ordinal ch f at l)

module _ (most stop : ℕ) (body : List ℕ) where
  look_tells : (ch : Chain) (least ordinal : ℕ) (supported clone : Bool) → Formed least ch → Inside most ch
      → Tells most stop least ordinal ch (clone_outcome body ch) (look_to stop body ordinal supported clone ch)
  unfolding look_to
  look_tells ends least ordinal supported clone h i = refl
  look_tells (faulty f at) least ordinal supported clone h i = refl
  look_tells (payload at content rest) least ordinal supported clone h i =
      go (ltb at stop) refl (clone_fault body at content) (own_fault body at content) (clone_outcome body rest) _
      (look_tells rest (suc at) (ordinal + 1) _ _ h.2 i.1)
    where
      found : (f : Fault) → ltb at stop ≡ true → fault_type f ≡ 0
          → Tells most stop least ordinal (payload at content rest) (Broken f at)
          (looked (number_of (fault_number f)) at ordinal supported clone)
      found f e t =
          let s = ltb-true at stop e in (
            h.0,
            i.0,
            t,
            λ z. absurd (omega arith),
            λ z. record { number = refl; offset = refl; before = rw (le-ltb at at (omega arith)) (omega arith) },
          )

      go : (b : Bool) → ltb at stop ≡ b → (o : Outcome) → OwnFault at o → (p : Outcome) (l : Look)
          → Tells most stop (suc at) (ordinal + 1) rest p l
          → Tells most stop least ordinal (payload at content rest) (or_else o p)
          (cond b (cond (eqb (outcome_number o) 0) l (looked (outcome_number o) at ordinal supported clone))
          (looked 0 0 ordinal supported clone))
      go true e Whole none Whole l r = r
      go true e Whole none (Broken f to) l r = (
        omega (arith, h.0, r.0),
        r.1,
        r.2,
        r.3,
        λ z.
            let q = r.4 z in
            record {
              number = q.number;
              offset = q.offset;
              before = rw (lt-ltb at to r.0) (omega (arith, q.before));
            },
      )
      go true e (Broken NotifyShape to) shape p l r = found NotifyShape e refl
      go true e (Broken ChainLength to) w p l r = elim w [ ]
      go true e (Broken Conflict to) w p l r = elim w [ ]
      go true e (Broken Leftover to) w p l r = elim w [ ]
      go true e (Broken (Critical payload_type) to) w p l r = elim w [ ]
      go true e (Broken DataSize to) data_size_lem p l r = found DataSize e refl
      go false e Whole none Whole l r = refl
      go false e Whole none (Broken f to) l r =
          let s = ltb-false at stop e in
          (omega (arith, h.0, r.0), r.1, r.2, λ z. refl, λ z. absurd (omega (arith, r.0)))
      go false e (Broken ChainLength to) w p l r = elim w [ ]
      go false e (Broken Conflict to) w p l r = elim w [ ]
      go false e (Broken Leftover to) w p l r = elim w [ ]
      go false e (Broken (Critical payload_type) to) w p l r = elim w [ ]
      go false e (Broken NotifyShape to) shape p l r =
          let s = ltb-false at stop e in
          (h.0, i.0, refl, λ z. refl, λ z. absurd (omega arith))
      go false e (Broken DataSize to) data_size_lem p l r =
          let s = ltb-false at stop e in
          (h.0, i.0, refl, λ z. refl, λ z. absurd (omega arith))

or_none : (b : Bool) → b ≡ b || false
or_none true = refl
or_none false = refl

or_more : (a b c : Bool) → (a || b) || c ≡ a || (b || c)
or_more true b c = refl
or_more false b c = refl

-- Where nothing is wrong with the two, all of a chain before `stop` is looked at for them.
module _ (stop : ℕ) (body : List ℕ) where
  abbrev Notes : Bool → Bool → Chain → Look → Type 0
  Notes supported clone ch l =
      (l.supported ≡ supported || holds clone_ike_sa_supported ch) × (l.clone ≡ clone || holds clone_ike_sa ch)

  look_notes : (ch : Chain) (ordinal : ℕ) (supported clone : Bool) → Inside stop ch → clone_outcome body ch ≡ Whole
      → Notes supported clone ch (look_to stop body ordinal supported clone ch)
  unfolding look_to
  look_notes ends ordinal supported clone i e = (or_none supported, or_none clone)
  look_notes (faulty f at) ordinal supported clone i e = (or_none supported, or_none clone)
  look_notes (payload at content rest) ordinal supported clone i e =
      rw (lt-ltb at stop i.0) (go (clone_fault body at content) e _ (look_notes rest (ordinal + 1) _ _ i.1))
    where
      is_supported : Bool
      is_supported = is_of_type clone_ike_sa_supported content

      is_clone_lem : Bool
      is_clone_lem = is_of_type clone_ike_sa content

      go : (o : Outcome) → or_else o (clone_outcome body rest) ≡ Whole → (l : Look)
          → (clone_outcome body rest ≡ Whole → Notes (supported || is_supported) (clone || is_clone_lem) rest l)
          → Notes supported clone (payload at content rest)
          (cond (eqb (outcome_number o) 0) l (looked (outcome_number o) at ordinal supported clone))
      go Whole e l r =
          let q = r e in
          (q.0 ∙ or_more supported is_supported _, q.1 ∙ or_more clone is_clone_lem _)
      go (Broken f to) e l r = let z : ◌≡◌ {A = ℕ} 0 1 = cc in absurd (omega arith)

-- no fault has the number 0
told_fault : (f : Fault) → eqb (number_of (fault_number f)) 0 ≡ false
told_fault f = ne_eqb (number_of (fault_number f)) 0 (λ z. omega (arith, faults_told f))

module _ (first : ℕ) (body : List ℕ) where
  abbrev ch : Chain
  ch = chain_at body first 0

  abbrev scan : Scan
  scan = scanned nothing_seen ch

  abbrev stop : Outcome → ℕ
  stop o = stop_of (answer ch o scan.seen) (length body)

  reading_answers : length body ≤ body_most → reading first body ≡ answer ch scan.outcome scan.seen
  unfolding reading
  reading_answers short = rw (le-ltb body_most (length body) short)

  -- what looking after a reading asks
  pub read_to : length body ≤ body_most → (r : Reading) → r ≡ reading first body
      → (stop_of r (length body) ≤ length body) × Reaches (stop_of r (length body)) ch
  read_to short r e = rw (e, reading_answers short) (go scan.outcome refl)
    where
      go : (o : Outcome) → scan.outcome ≡ o → (stop o ≤ length body) × Reaches (stop o) ch
      go Whole e = (omega arith, whole_reaches (length body) nothing_seen ch e)
      go (Broken f at) e = rw (told_fault f) (stops_at (length body) nothing_seen ch f at (chain_inside body first) e)

  abbrev read_as : Outcome → CloneReading
  read_as o =
      let r = answer ch o scan.seen in
      clone_read r (is_whole o && holds clone_ike_sa_supported ch) (is_whole o && holds clone_ike_sa ch)

  -- of the two refusals of a chain the one at the smaller offset is told
  first_told : (o p : Outcome) (l : Look) → Tells (length body) (stop o) 0 0 ch p l
      → (o ≡ Whole → p ≡ Whole → Notes (stop o) body false false ch l)
      → told (answer ch o scan.seen) l ≡ read_as (earlier o p)
  first_told Whole Whole l h n = let q = n refl refl in rw (h, q.0, q.1)
  first_told Whole (Broken g to) l h n =
      let q = h.4 h.1 in
      let b : l.ordinal ≡ payloads_before ch to = omega (arith, q.before) in
      rw (q.number, q.offset, b, told_fault g, h.2)
  first_told (Broken f at) Whole l h n = rw (h, told_fault f)
  first_told (Broken f at) (Broken g to) l h n = go (ltb to at) refl
    where
      at_stop : stop (Broken f at) ≡ at
      at_stop = rw (told_fault f)

      go : (b : Bool) → ltb to at ≡ b
          → told (answer ch (Broken f at) scan.seen) l ≡ read_as (cond b (Broken g to) (Broken f at))
      go true e =
          let q = h.4 (rw at_stop (ltb-true to at e)) in
          let b : l.ordinal ≡ payloads_before ch to = omega (arith, q.before) in
          rw (q.number, q.offset, b, told_fault g, h.2)
      go false e = rw (h.3 (rw at_stop (ltb-false to at e)), told_fault f)

  -- what the code puts together
  pub put_together : length body ≤ body_most → (r : Reading) → r ≡ reading first body
      → (l : Look) → l ≡ look_to (stop_of r (length body)) body 0 false false ch → told r l ≡ clone_reading first body
  unfolding clone_reading
  put_together short r e l f =
      let q = e ∙ reading_answers short in
      let o = stop scan.outcome in
      rw q
      (first_told scan.outcome (clone_outcome body ch) l
      (rw (f, q)
      (look_tells (length body) o body ch 0 0 false false (chain_formed body first 0 (omega arith))
      (chain_inside body first)))
      (λ w v. rw (f, q) (look_notes o body ch 0 false false (rw w (chain_inside body first)) v)))

  -- The three ways that the code ends, in what it is told of the reading and of the look.
  module _ (r : Reading) (at : ℕ) (short : length body ≤ body_most) (e : r ≡ reading first body)
      (s : at ≡ stop_of r (length body)) where
    abbrev look : Look
    look = look_to at body 0 false false ch

    together : told r look ≡ clone_reading first body
    together = rw s (put_together short r e (look_to (stop_of r (length body)) body 0 false false ch) refl)

    pub refused_told : (x : Reading) (n : Number) (offset ordinal : ℕ) → Malformed look n offset ordinal
        → x ≡ refused (number_of n) 0 offset ordinal → clone_read x false false ≡ clone_reading first body
    refused_told x n offset ordinal m y =
        rw (y, ← m.number, ← m.there, ← m.before) (rw (ne_eqb look.number 0 m.some) at together)

    pub stopped_told : (supported clone : Bool) → WellFormed look supported clone → (r.number ≡ 0 → ⊥)
        → clone_read r false false ≡ clone_reading first body
    stopped_told supported clone f n = rw (eq-eqb look.number 0 f.none, ne_eqb r.number 0 n) at together

    pub whole_told : (supported clone : Bool) → WellFormed look supported clone → r.number ≡ 0
        → clone_read r supported clone ≡ clone_reading first body
    whole_told supported clone f y =
        rw (← f.supports, ← f.clones) (rw (eq-eqb look.number 0 f.none, eq-eqb r.number 0 y) at together)
