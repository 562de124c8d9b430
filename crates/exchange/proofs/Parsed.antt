-- The inverse of reading: the octets of a chain in order are notifications one behind the other.
use Prim.Native.Nat.{ℕ, zero, suc, ◌+◌, ◌*◌, ◌-◌, ◌≤◌, ◌<◌}
use mathlib.Core.Path.{◌≡◌, refl, sym, ap, ◌∙◌}
use mathlib.Core.List.{List, [], ◌∷◌, ◌++◌}
use mathlib.Core.Bool.{Bool, true, false, cond, ◌&&◌, ◌||◌, false≢true}
use native.Mathlib.Omega.{arith}
use borrow.Author.Tests.{eqb-true, ltb-true, ltb-false, eq-eqb, ne_eqb, lt-ltb}
use lib.Dec.{eqb, leb, ltb}
use lib.ListN.{length, get_or, take, drop, take-append-drop, drop_of_length-le, length-drop}
use lib.Seq.{drop-drop, length-take-le, get_or-drop}
use Rattle.octets.specs.Limits.{notify_header}
use Rattle.octets.specs.Wire.{notify_payload}
use Rattle.octets.specs.Octets.{be16}
use Rattle.octets.proofs.Small.{both, neither, chosen}
use Rattle.notify.specs.Notify.{kind_of, data_fits, is_unknown}
use Rattle.payload.specs.Payload.{spi_fits, notify_at, sized, payload_at}
use Rattle.notify.specs.declared.notify.NotifyKind.{NotifyKind}
use Rattle.notify.specs.declared.notify.NotifyKind.TheVariants.{NatDetectionSource, NatDetectionDestination}
use Rattle.notify.specs.declared.notify.NotifyKind.TheVariants.{MobikeSupported, AdditionalIp4, AdditionalIp6}
use Rattle.notify.specs.declared.notify.NotifyKind.TheVariants.{NoAdditionalAddresses, UpdateSaAddresses, Cookie2}
use Rattle.notify.specs.declared.notify.NotifyKind.TheVariants.{NoNatsAllowed, UnacceptableAddresses}
use Rattle.notify.specs.declared.notify.NotifyKind.TheVariants.{UnexpectedNatDetected, OtherError, OtherStatus}
use Rattle.payload.specs.declared.payload.Content.TheVariants.{Skipped, Unknown as UnknownPayload, Notify}
use Rattle.payload.specs.declared.payload.Fault.TheVariants.{Leftover}
use Rattle.payload.specs.Payload.{Found, Payload, Faulty}
use Rattle.writing.specs.Notify.{Notification, notification, notify_octets, first_type, chained}
use Rattle.reader.specs.Chain.{ends, faulty, payload, link, chain_end, chain_at}
use Rattle.reader.proofs.Chain.{chain_step, takes}
use Rattle.exchange.specs.Plain.{rank, may_follow, zero_fields, in_order}
use Rattle.exchange.specs.RoundTrips.{Octets}
use Rattle.exchange.proofs.Notifies.{AllFit, notify_chain}
use Rattle.exchange.proofs.Offsets.{high, low, here, on, be16_on}

abbrev pub rank_of : Notification → ℕ
rank_of x = rank (kind_of x.notify_type)

-- The notifications have the writer's order, behind one of rank `last` (0: none).
abbrev pub ranked : ℕ → List Notification → Bool
ranked last [] = true
ranked last (x ∷ xs) = may_follow last (rank_of x) && ranked (rank_of x) xs

abbrev pub AllOctets : List Notification → Type 0
AllOctets [] = Unit {0}
AllOctets (x ∷ xs) = Octets x.octets × AllOctets xs

-- what a Notify with its kind, number and data's length was read from
pub record ReadFrom (first : ℕ) (body : List ℕ) (at size : ℕ) (kind : NotifyKind) (number len : ℕ) : Type 0 where
  pub type : first ≡ notify_payload
  pub whole : size ≡ be16 body (at + 2)
  pub header : 8 ≤ size
  pub known : kind ≡ kind_of number
  pub named : number ≡ be16 body (at + 6)
  pub spi : spi_fits kind (get_or body (at + 5) 0) ≡ true
  pub data_len : len ≡ size - 8 - get_or body (at + 5) 0

module _ (first : ℕ) (body : List ℕ) (at : ℕ) where
  -- what is told of a Notify that was found
  abbrev pub Told : Found → Type 0
  Told (Faulty f) = Unit {0}
  Told (Payload size Skipped) = Unit {0}
  Told (Payload size UnknownPayload) = Unit {0}
  Told (Payload size (Notify kind number len)) = ReadFrom first body at size kind number len

  pub told : Told (payload_at first body at)
  unfolding payload_at sized notify_at
  told =
      let size = be16 body (at + 2) in
      let number = be16 body (at + 6) in
      let spi = get_or body (at + 5) 0 in
      chosen Told (ltb (length body - at) 4) (λ e. tt)
      (λ e. chosen Told (ltb size 4 || ltb (length body - at) size) (λ e. tt)
      (λ e. chosen Told (eqb first notify_payload)
      (λ t. chosen Told (ltb size 8 || ltb (size - 8) spi) (λ e. tt)
      (λ h. chosen Told (spi_fits (kind_of number) spi)
      (λ s. chosen Told (data_fits (kind_of number) (size - 8 - spi))
      (λ e. record {
        type = eqb-true first notify_payload t;
        whole = refl;
        header = ltb-false size 8 (neither (ltb size 8) (ltb (size - 8) spi) h).0;
        known = refl;
        named = refl;
        spi = s;
        data_len = refl;
      })
      (λ e. tt))
      (λ e. tt)))
      (λ e. chosen Told (leb 33 first && leb first 48) (λ e. tt)
      (λ e. chosen Told (leb 128 (get_or body (at + 1) 0)) (λ e. tt) (λ e. tt)))))

-- the octets of a Notify whose sizes are as its octets say
pub notify_of : (next h l nh nl : ℕ) (octets : List ℕ) → l < 256 → nl < 256 → notify_header + length octets ≡ h * 256 + l
    → notify_octets next (nh * 256 + nl) octets ≡ next ∷ 0 ∷ h ∷ l ∷ 0 ∷ 0 ∷ nh ∷ nl ∷ octets
unfolding notify_octets
notify_of next h l nh nl octets sl sn e = rw (e, high h l sl, low h l sl, high nh nl sn, low nh nl sn)

pub eight : (body : List ℕ) (at : ℕ) → at + notify_header ≤ length body
    → drop at body
    ≡ get_or body at 0 ∷ get_or body (at + 1) 0 ∷ get_or body (at + 2) 0 ∷ get_or body (at + 3) 0
    ∷ get_or body (at + 4) 0 ∷ get_or body (at + 5) 0 ∷ get_or body (at + 6) 0 ∷ get_or body (at + 7) 0 ∷ drop
    (at + notify_header) body
eight body at h =
    rw (
      here body at (omega arith),
      next 1 (omega arith),
      next 2 (omega arith),
      next 3 (omega arith),
      next 4 (omega arith),
      next 5 (omega arith),
      next 6 (omega arith),
      next 7 (omega arith),
    )
  where
    next : (k : ℕ) → at + k < length body → drop (at + k) body ≡ get_or body (at + k) 0 ∷ drop (at + (k + 1)) body
    next = on body at

-- the lowest rank that may follow
abbrev pub after : ℕ → ℕ
after last = cond (eqb last 6) 6 (suc last)

pub follows : (last next : ℕ) → may_follow last next ≡ true → after last ≤ next
follows last next = go (ltb last next) refl
  where
    go : (b : Bool) → ltb last next ≡ b → b || (eqb last 6 && eqb next 6) ≡ true → after last ≤ next
    go true l e = let h = ltb-true last next l in
        chosen (λ n. n ≤ next) (eqb last 6) (λ s. omega (arith, eqb-true last 6 s)) (λ s. omega arith)
    go false l e = let s = both (eqb last 6) (eqb next 6) e in rw s.0 (omega (arith, eqb-true next 6 s.1))

pub after_more : (last : ℕ) → (last ≤ after last) × (0 < after last)
after_more last = chosen (λ n. (last ≤ n) × (0 < n)) (eqb last 6) (λ s. omega (arith, eqb-true last 6 s))
    (λ s. omega arith)

-- an unknown kind has no rank
known_ranks : (k : NotifyKind) → is_unknown k && ltb 0 (rank k) ≡ false
known_ranks NatDetectionSource = refl
known_ranks NatDetectionDestination = refl
known_ranks MobikeSupported = refl
known_ranks AdditionalIp4 = refl
known_ranks AdditionalIp6 = refl
known_ranks NoAdditionalAddresses = refl
known_ranks UpdateSaAddresses = refl
known_ranks Cookie2 = refl
known_ranks NoNatsAllowed = refl
known_ranks UnacceptableAddresses = refl
known_ranks UnexpectedNatDetected = refl
known_ranks OtherError = refl
known_ranks OtherStatus = refl

-- a kind with a rank has no SPI
no_spi : (k : NotifyKind) (spi : ℕ) → spi_fits k spi ≡ true → 0 < rank k → spi ≡ 0
no_spi k spi = go (eqb spi 0) refl
  where
    go : (b : Bool) → eqb spi 0 ≡ b → b || is_unknown k ≡ true → 0 < rank k → spi ≡ 0
    go true z e r = eqb-true spi 0 z
    go false z e r = absurd (false≢true (sym (known_ranks k) ∙ rw (e, lt-ltb 0 (rank k) r)))

-- What is parsed from `at` on, where a payload of type `first` stands behind a notification of rank `last`.
pub record Parsed (body : List ℕ) (first at last : ℕ) : Type 0 where
  pub xs : List Notification
  pub octets : drop at body ≡ chained xs 0
  pub starts : first ≡ first_type xs 0
  pub chain : chain_at body first at ≡ notify_chain at xs
  pub fit : AllFit xs
  pub bytes : AllOctets xs
  pub order : ranked last xs ≡ true

-- the data of a Notify with no SPI at `at`
abbrev data_at : List ℕ → ℕ → ℕ → List ℕ
data_at body at len = take len (drop (at + notify_header) body)

bytes_taken : (n : ℕ) (l : List ℕ) → Octets l → Octets (take n l)
bytes_taken zero l o i = omega arith
bytes_taken (suc n) [] o i = omega arith
bytes_taken (suc n) (x ∷ l) o zero = o zero
bytes_taken (suc n) (x ∷ l) o (suc i) = bytes_taken n l (λ j. o (suc j)) i

module _ (body : List ℕ) (bytes : Octets body) (first at last : ℕ) (inside : at ≤ length body) where
  -- type 0: the chain ends where the body does
  at_end : first ≡ 0 → at ≡ length body → Parsed body first at last
  unfolding chained
  at_end z e =
      record {
        xs = [];
        octets = drop_of_length-le body {i = at} (omega arith);
        starts = z;
        chain = rw (chain_step first body at inside, eq-eqb first 0 z, eq-eqb at (length body) e);
        fit = tt;
        bytes = tt;
        order = refl;
      }

  -- a notification that may follow, with zero fields, and the rest behind it
  module _ (size : ℕ) (kind : NotifyKind) (number len : ℕ) (found : payload_at first body at
      ≡ Payload size (Notify kind number len))
      (zeros : zero_fields body at ≡ true) (follow : may_follow last (rank kind) ≡ true) where
    facts : ReadFrom first body at size kind number len
    facts = rw found at (told first body at)

    no_spi_here : get_or body (at + 5) 0 ≡ 0
    no_spi_here = no_spi kind (get_or body (at + 5) 0) facts.spi
        (omega (arith, follows last (rank kind) follow, after_more last))

    fits_here : (at + size ≤ length body) × (data_fits kind len ≡ true)
    fits_here = let t = takes first body at inside size (Notify kind number len) found in (t.1, t.2)

    size_is : notify_header + len ≡ size
    size_is = omega (arith, facts, no_spi_here)

    data_length : length (data_at body at len) ≡ len
    data_length = length-take-le len (drop (at + notify_header) body)
        (rw (length-drop (at + notify_header) body) (omega (arith, fits_here, size_is)))

    data_rest : drop (at + notify_header) body ≡ data_at body at len ++ drop (at + size) body
    data_rest =
        let e : at + size ≡ at + notify_header + len = omega (arith, size_is) in
        rw (e, ← drop-drop len (at + notify_header) body) (sym (take-append-drop len (drop (at + notify_header) body)))

    octets_here : drop at body ≡ notify_octets (get_or body at 0) number (data_at body at len) ++ drop (at + size) body
    octets_here =
        let z = both (eqb (get_or body (at + 1) 0) 0) (eqb (get_or body (at + 4) 0) 0) zeros in
        rw (
          facts.named,
          be16_on body at 6,
          notify_of (get_or body at 0) (get_or body (at + 2) 0) (get_or body (at + 3) 0) (get_or body (at + 6) 0)
              (get_or body (at + 7) 0) (data_at body at len)
              (bytes (at + 3)) (bytes (at + 7)) (omega (arith, data_length, size_is, facts, be16_on body at 2)),
          eight body at (omega (arith, fits_here, size_is)),
          eqb-true (get_or body (at + 1) 0) 0 z.0,
          eqb-true (get_or body (at + 4) 0) 0 z.1,
          no_spi_here,
          ← data_rest,
        )

    at_notify : Parsed body (get_or body at 0) (at + size) (rank kind) → Parsed body first at last
    unfolding chained
    at_notify rest =
        record {
          xs = notification number (data_at body at len) ∷ rest.xs;
          octets = rw (← rest.starts, ← rest.octets) octets_here;
          starts = facts.type;
          chain =
              rw (
                chain_step first body at inside,
                ne_eqb first 0 (omega (arith, facts)),
                found,
                data_length,
                size_is,
                ← facts.known,
              )
              (ap (payload at (Notify kind number len)) rest.chain);
          fit = (rw (data_length, ← facts.known) fits_here.1, rest.fit);
          bytes = (
            bytes_taken len (drop (at + notify_header) body)
                (λ i. rw (get_or-drop (at + notify_header) body i 0) (bytes (at + notify_header + i))),
            rest.bytes,
          );
          order = rw (← facts.known, follow) rest.order;
        }

-- n is more than the octets left
parse : (n : ℕ) (body : List ℕ) (first at last : ℕ) → Octets body → at ≤ length body → length body - at < n
    → in_order body last (chain_at body first at) ≡ true → Parsed body first at last
parse zero body first at last bytes inside h e = absurd (omega arith)
parse (suc n) body first at last bytes inside h e =
    go (eqb first 0) refl (payload_at first body at) refl (rw (chain_step first body at inside) at e)
    (λ size. parse n body (get_or body at 0) (at + size))
  where
    end : (b : Bool) → eqb at (length body) ≡ b → first ≡ 0 → in_order body last (cond b ends (faulty Leftover at))
        ≡ true → Parsed body first at last
    end true t z e = at_end body bytes first at last inside z (eqb-true at (length body) t)
    end false t z e = absurd (false≢true e)

    go : (b : Bool) → eqb first 0 ≡ b → (x : Found) → payload_at first body at ≡ x
        → in_order body last (cond b (chain_end body at) (link (chain_at body (get_or body at 0)) at x)) ≡ true
        → ((size next : ℕ) → Octets body → at + size ≤ length body → length body - (at + size) < n
        → in_order body next (chain_at body (get_or body at 0) (at + size)) ≡ true
        → Parsed body (get_or body at 0) (at + size) next)
        → Parsed body first at last
    go true z x p e r = end (eqb at (length body)) refl (eqb-true first 0 z) e
    go false z (Faulty f) p e r = absurd (false≢true e)
    go false z (Payload size Skipped) p e r = absurd (false≢true e)
    go false z (Payload size UnknownPayload) p e r = absurd (false≢true e)
    go false z (Payload size (Notify kind number len)) p e r =
        let a = both (zero_fields body at) _ e in
        let b = both (may_follow last (rank kind)) _ a.1 in
        let t = takes first body at inside size (Notify kind number len) p in
        at_notify body bytes first at last inside size kind number len p a.0 b.0
        (r size (rank kind) bytes t.1 (omega arith) b.1)

-- A chain in order is notifications one behind the other.
pub parsed : (body : List ℕ) (first at last : ℕ) → Octets body → at ≤ length body
    → in_order body last (chain_at body first at) ≡ true → Parsed body first at last
parsed body first at last bytes inside e = parse (suc (length body - at)) body first at last bytes inside
    (omega arith) e
