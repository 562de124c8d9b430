-- One turn of looking at a chain that was read already: what stands at an offset before the end of what was read, and
-- what the next turn looks at.
use Prim.Native.Nat.{ℕ, ◌+◌, ◌-◌, ◌≤◌, ◌<◌}
use mathlib.Core.Path.{◌≡◌, refl, sym, ◌∙◌}
use mathlib.Core.List.{List}
use mathlib.Core.Bool.{Bool, true, false, cond, ◌&&◌, ◌||◌, not}
use native.Mathlib.Omega.{arith}
use borrow.Author.Tests.{eq-eqb, ne_eqb, eqb-true, eqb-false, lt-ltb, le-ltb, ltb-false}
use lib.Dec.{eqb, leb, ltb}
use lib.ListN.{length, get_or}
use Rattle.octets.specs.Limits.{payload_header, notify_header}
use Rattle.octets.specs.Numbers.{number_of}
use Rattle.octets.specs.declared.number.Number.TheVariants.{BadNotify, BadDataSize}
use Rattle.octets.specs.Octets.{be16}
use Rattle.octets.specs.Wire.{notify_payload, first_known_payload, last_known_payload, critical_bit}
use Rattle.octets.specs.Wire.{clone_ike_sa_supported, clone_ike_sa}
use Rattle.octets.proofs.Small.{neither, chosen}
use Rattle.notify.specs.Notify.{kind_of, data_fits}
use Rattle.payload.specs.Payload.{flags_at, length_at, spi_size_at, notify_type_at, spi_fits, notify_at, sized, payload_at}
use Rattle.payload.specs.declared.payload.Fault.TheVariants.{NotifyShape, DataSize}
use Rattle.payload.specs.declared.payload.Content.{Content}
use Rattle.payload.specs.declared.payload.Content.TheVariants.{Skipped, Unknown, Notify}
use Rattle.payload.specs.Payload.{Found, Payload, Faulty}
use Rattle.reader.specs.Chain.{Chain, ends, faulty, payload, link, chain_end, chain_at, Whole, Broken}
use Rattle.reader.proofs.Chain.{chain_step, takes, Formed, chain_formed}
use Rattle.clone_chain.specs.CloneChain.{is_clone, clone_fault, is_of_type}
use Rattle.clone_chain.specs.Look.{outcome_number, notify_type_of, number_at, looked, look_to, Reaches}

-- with no SPI a Notify has no data where it is as long as its header
data_size_lem : (n spi : ℕ) → notify_header ≤ n → spi ≡ 0 → eqb (n - notify_header - spi) 0 ≡ eqb n notify_header
data_size_lem n spi l z =
    go (eqb n notify_header)
    (λ e. let f = eqb-true n notify_header e in eq-eqb (n - notify_header - spi) 0 (omega arith))
    (λ e. let f = eqb-false n notify_header e in ne_eqb (n - notify_header - spi) 0 (λ g. f (omega arith)))
  where
    go : (b : Bool) → (b ≡ true → eqb (n - notify_header - spi) 0 ≡ true)
        → (b ≡ false → eqb (n - notify_header - spi) 0 ≡ false) → eqb (n - notify_header - spi) 0 ≡ b
    go true p q = p refl
    go false p q = q refl

-- What the octets of a body say of a payload that was found in it, as one of the two.
pub record Read (payload_type : ℕ) (body : List ℕ) (at n : ℕ) (content : Content) : Type 0 where
  pub size : n ≡ be16 body (at + length_at)
  pub long : payload_type ≡ notify_payload → notify_header ≤ n
  pub number : outcome_number (clone_fault body at content) ≡ number_at body at (notify_type_of payload_type body at) n
  pub supported : is_of_type clone_ike_sa_supported content ≡ eqb (notify_type_of payload_type body at) clone_ike_sa_supported
  pub clone : is_of_type clone_ike_sa content ≡ eqb (notify_type_of payload_type body at) clone_ike_sa

module _ (payload_type : ℕ) (body : List ℕ) (at : ℕ) where
  abbrev OfFound : Found → Type 0
  OfFound (Payload n content) = Read payload_type body at n content
  OfFound (Faulty f) = Unit {0}

  module _ (n : ℕ) (s : n ≡ be16 body (at + length_at)) where
    -- a payload that is no Notify is neither of the two
    read_other : eqb payload_type notify_payload ≡ false → OfFound (Payload n Skipped) × OfFound (Payload n Unknown)
    read_other e =
        let no = eqb-false payload_type notify_payload e in (
          record { size = s; long = λ z. absurd (no z); number = rw e; supported = rw e; clone = rw e },
          record { size = s; long = λ z. absurd (no z); number = rw e; supported = rw e; clone = rw e },
        )

    abbrev spi : ℕ
    spi = get_or body (at + spi_size_at) 0

    abbrev notify_type : ℕ
    notify_type = be16 body (at + notify_type_at)

    read_notify : eqb payload_type notify_payload ≡ true → notify_header ≤ n
        → OfFound (Payload n (Notify (kind_of notify_type) notify_type (n - notify_header - spi)))
    read_notify e l =
        record {
          size = s;
          long = λ z. l;
          number = rw e (same (not (is_clone notify_type)) (eqb spi 0) (λ z. data_size_lem n spi l (eqb-true spi 0 z)));
          supported = rw e;
          clone = rw e;
        }
      where
        same : (b c : Bool) {d x : Bool} → (c ≡ true → d ≡ x)
            → outcome_number
            (cond b Whole (cond (not c) (Broken NotifyShape at) (cond (not d) (Broken DataSize at) Whole)))
            ≡ cond b 0 (cond (not c) (number_of BadNotify) (cond (not x) (number_of BadDataSize) 0))
        same true c f = refl
        same false false f = refl
        same false true {d} {x} f = rw (f refl) (either x)
          where
            either : (x : Bool)
                → outcome_number (cond (not x) (Broken DataSize at) Whole) ≡ cond (not x) (number_of BadDataSize) 0
            either true = refl
            either false = refl

    read_sized : OfFound (sized payload_type body at n)
    unfolding sized notify_at
    read_sized =
        chosen OfFound (eqb payload_type notify_payload)
        (λ e.
        chosen OfFound (ltb n notify_header || ltb (n - notify_header) spi) (λ z. tt)
        (λ z.
        let l = ltb-false n notify_header (neither (ltb n notify_header) (ltb (n - notify_header) spi) z).0 in
        chosen OfFound (spi_fits (kind_of notify_type) spi)
        (λ z.
        chosen OfFound (data_fits (kind_of notify_type) (n - notify_header - spi)) (λ z. read_notify e l) (λ z. tt))
        (λ z. tt)))
        (λ e.
        let o = read_other e in
        chosen OfFound (leb first_known_payload payload_type && leb payload_type last_known_payload) (λ z. o.0)
        (λ z. chosen OfFound (leb critical_bit (get_or body (at + flags_at) 0)) (λ z. tt) (λ z. o.1)))

  read_at : OfFound (payload_at payload_type body at)
  unfolding payload_at
  read_at =
      let left = length body - at in
      let size = be16 body (at + length_at) in
      chosen OfFound (ltb left payload_header) (λ z. tt)
      (λ z.
      chosen OfFound (ltb size payload_header || ltb left size) (λ z. tt) (λ z. read_sized size refl))

  pub reads : (n : ℕ) (content : Content) → payload_at payload_type body at ≡ Payload n content
      → Read payload_type body at n content
  reads n content e = rw e at read_at

-- What a turn needs and what it hands on, by the size of the payload at `at`.
pub record Turned (stop payload_type : ℕ) (body : List ℕ) (at n : ℕ) : Type 0 where
  pub header : payload_header ≤ n
  pub within : at + n ≤ length body
  pub long : payload_type ≡ notify_payload → at + notify_header ≤ length body
  pub reaches : Reaches stop (chain_at body (get_or body at 0) (at + n))
  pub stops : (ordinal : ℕ) (supported clone : Bool)
      → (number_at body at (notify_type_of payload_type body at) n ≡ 0 → ⊥)
      → look_to stop body ordinal supported clone (chain_at body payload_type at)
      ≡ looked (number_at body at (notify_type_of payload_type body at) n) at ordinal supported clone
  pub goes_on : (ordinal : ℕ) (supported clone : Bool)
      → number_at body at (notify_type_of payload_type body at) n ≡ 0
      → look_to stop body ordinal supported clone (chain_at body payload_type at)
      ≡ look_to stop body (ordinal + 1) (supported || eqb (notify_type_of payload_type body at) clone_ike_sa_supported)
      (clone || eqb (notify_type_of payload_type body at) clone_ike_sa) (chain_at body (get_or body at 0) (at + n))

module _ (stop payload_type : ℕ) (body : List ℕ) (at : ℕ) (inside : at ≤ length body) where
  abbrev rest : ℕ → Chain
  rest = chain_at body (get_or body at 0)

  abbrev step : Bool → Found → Chain
  step b x = cond b (chain_end body at) (link rest at x)

  pub turned : stop ≤ length body → at < stop → Reaches stop (chain_at body payload_type at)
      → (n : ℕ) → n ≡ be16 body (at + length_at) → Turned stop payload_type body at n
  unfolding look_to
  turned short before r n s =
      let q = chain_step payload_type body at inside in
      go (eqb payload_type 0) (payload_at payload_type body at) refl (rw q at r) q
    where
      one : (content : Content) → payload_at payload_type body at ≡ Payload n content → Reaches stop (rest (at + n))
          → chain_at body payload_type at ≡ payload at content (rest (at + n)) → Turned stop payload_type body at n
      one content e r q =
          let w = takes payload_type body at inside n content e in
          let d = reads payload_type body at n content e in
          record {
            header = w.0;
            within = w.1;
            long = λ z. omega (arith, d.long z, w.1);
            reaches = r;
            stops = λ o s c z. rw (q, lt-ltb at stop before, d.number, ne_eqb _ 0 z);
            goes_on = λ o s c z. rw (q, lt-ltb at stop before, d.number, eq-eqb _ 0 z, d.supported, d.clone);
          }

      go : (b : Bool) (x : Found) → payload_at payload_type body at ≡ x → Reaches stop (step b x)
          → chain_at body payload_type at ≡ step b x → Turned stop payload_type body at n
      go true x e r q =
          let l : stop ≤ at = rw (ne_eqb at (length body) (λ z. omega arith)) at r in
          absurd (omega arith)
      go false (Faulty f) e r q = absurd (omega (arith, r))
      go false (Payload m content) e r q =
          let d = reads payload_type body at m content e in
          let same : m ≡ n = d.size ∙ sym s in
          one content (rw same at e) (rw same at (r before)) (rw same at q)

  -- nothing is looked at from the end of what was read on
  pub passed : stop ≤ at → (ordinal : ℕ) (supported clone : Bool)
      → look_to stop body ordinal supported clone (chain_at body payload_type at) ≡ looked 0 0 ordinal supported clone
  unfolding look_to
  passed l o s c = go (chain_at body payload_type at) (chain_formed body payload_type at inside)
    where
      go : (ch : Chain) → Formed at ch → look_to stop body o s c ch ≡ looked 0 0 o s c
      go ends f = refl
      go (faulty e to) f = refl
      go (payload to content more) f = rw (le-ltb to stop (omega (arith, l, f.0)))
