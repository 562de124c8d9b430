-- Laws of the chain definition: what is known of a payload found, and one step of a chain.
use Prim.Native.Nat.{ℕ, zero, suc, ◌+◌, ◌-◌, ◌≤◌, ◌<◌}
use mathlib.Core.Path.{◌≡◌, refl, ap}
use mathlib.Core.List.{List}
use mathlib.Core.Bool.{Bool, true, false, cond, ◌&&◌, ◌||◌}
use native.Mathlib.Omega.{arith}
use borrow.Author.Tests.{ltb-false}
use lib.Dec.{eqb, leb, ltb}
use lib.ListN.{length, get_or}
use Rattle.octets.specs.Limits.{payload_header, notify_header}
use Rattle.octets.specs.Wire.{notify_payload, first_known_payload, last_known_payload, critical_bit}
use Rattle.octets.specs.Octets.{be16}
use Rattle.octets.proofs.Small.{neither, chosen}
use Rattle.notify.specs.Notify.{kind_of, data_fits}
use Rattle.payload.specs.Payload.{flags_at, length_at, spi_size_at, notify_type_at, spi_fits, notify_at, sized, payload_at}
use Rattle.reader.specs.Chain.{Chain, ends, faulty, payload, link, chain_end, chain, chain_at}
use Rattle.payload.specs.declared.payload.Fault.{Fault}
use Rattle.payload.specs.declared.payload.Fault.TheVariants.{Leftover}
use Rattle.payload.specs.declared.payload.Content.{Content}
use Rattle.payload.specs.declared.payload.Content.TheVariants.{Skipped, Unknown, Notify}
use Rattle.payload.specs.Payload.{Found, Payload, Faulty}

-- what is claimed of a payload that was found, by its size and its content
data OfFound (P : ℕ → Content → Type 0) : Found → Type 0 where
  one : {n : ℕ} {content : Content} → P n content → OfFound P (Payload n content)
  none : {f : Fault} → OfFound P (Faulty f)

claimed : {P : ℕ → Content → Type 0} {n : ℕ} {content : Content} → OfFound P (Payload n content) → P n content
claimed (one p) = p

-- A notification's data has a size that its kind allows.
abbrev pub DataFits : Content → Type 0
DataFits Skipped = Unit {0}
DataFits Unknown = Unit {0}
DataFits (Notify kind notify_type size) = data_fits kind size ≡ true

module _ {P : ℕ → Content → Type 0} where
  -- both ways of a test
  each_way : (b : Bool) {x y : Found} → OfFound P x → OfFound P y → OfFound P (cond b x y)
  each_way b p q = chosen (OfFound P) b (λ z. p) (λ z. q)

  -- a payload has the size that it was read at, and data that fits
  read_one : (payload_type : ℕ) (body : List ℕ) (at n : ℕ) → ((content : Content) → DataFits content → P n content)
      → OfFound P (sized payload_type body at n)
  unfolding sized notify_at
  read_one payload_type body at n p =
      let spi = get_or body (at + spi_size_at) 0 in
      let notify_type = be16 body (at + notify_type_at) in
      let kind = kind_of notify_type in
      let size = n - notify_header - spi in
      each_way (eqb payload_type notify_payload)
      (each_way (ltb n notify_header || ltb (n - notify_header) spi) none
      (each_way (spi_fits kind spi)
      (chosen (OfFound P) (data_fits kind size) (λ e. one (p (Notify kind notify_type size) e)) (λ e. none))
      none))
      (each_way (leb first_known_payload payload_type && leb payload_type last_known_payload) (one (p Skipped tt))
      (each_way (leb critical_bit (get_or body (at + flags_at) 0)) none (one (p Unknown tt))))

-- 4 octets at least, none past the end, and data that fits
abbrev Within : List ℕ → ℕ → ℕ → Content → Type 0
Within body at n content = (payload_header ≤ n) × (at + n ≤ length body) × DataFits content

module _ (payload_type : ℕ) (body : List ℕ) (at : ℕ) (inside : at ≤ length body) where
  found_within : OfFound (Within body at) (payload_at payload_type body at)
  unfolding payload_at
  found_within =
      let left = length body - at in
      let size = be16 body (at + length_at) in
      each_way (ltb left payload_header) none
      (chosen (OfFound (Within body at)) (ltb size payload_header || ltb left size)
      (λ e. none)
      (λ e.
      let t = neither (ltb size payload_header) (ltb left size) e in
      let l = ltb-false size payload_header t.0 in
      let m = ltb-false left size t.1 in
      read_one payload_type body at size (λ content f. (omega arith, omega arith, f))))

  -- what is told of a payload that was found
  pub takes : (n : ℕ) (content : Content) → payload_at payload_type body at ≡ Payload n content → Within body at n content
  takes n content e = claimed (rw e at found_within)

-- Any number of steps over the octets left gives the same chain.
linked : (f g : ℕ → Chain) (body : List ℕ) (at : ℕ)
    → ((n : ℕ) (content : Content) → Within body at n content → f (at + n) ≡ g (at + n))
    → (x : Found) → OfFound (Within body at) x → link f at x ≡ link g at x
linked f g body at same (Payload n content) (one w) = ap (payload at content) (same n content w)
linked f g body at same (Faulty e) none = refl

steps_enough : (k l : ℕ) (body : List ℕ) (payload_type at : ℕ) → at ≤ length body
    → length body - at < k → length body - at < l → chain k body payload_type at ≡ chain l body payload_type at
unfolding chain
steps_enough zero l body payload_type at inside h i = absurd (omega arith)
steps_enough (suc k) zero body payload_type at inside h i = absurd (omega arith)
steps_enough (suc k) (suc l) body payload_type at inside h i =
    ap (cond (eqb payload_type 0) (chain_end body at))
    (linked (chain k body (get_or body at 0)) (chain l body (get_or body at 0)) body at
    (λ n content w. steps_enough k l body (get_or body at 0) (at + n) w.1 (omega arith) (omega arith))
    (payload_at payload_type body at) (found_within payload_type body at inside))

module _ (payload_type : ℕ) (body : List ℕ) (at : ℕ) where
  -- 01's rule for a chain, with no count of steps: type 0 ends it, and any other is a payload followed by the rest
  pub chain_step : at ≤ length body → chain_at body payload_type at
      ≡ cond (eqb payload_type 0) (chain_end body at)
      (link (chain_at body (get_or body at 0)) at (payload_at payload_type body at))
  unfolding chain chain_at
  chain_step inside =
      ap (cond (eqb payload_type 0) (chain_end body at))
      (linked (chain (length body - at) body (get_or body at 0)) (chain_at body (get_or body at 0)) body at
      (λ n content w.
      let left = length body - at in
      let next = get_or body at 0 in
      steps_enough left (suc (length body - (at + n))) body next (at + n) w.1 (omega arith) (omega arith))
      (payload_at payload_type body at) (found_within payload_type body at inside))

-- A chain's payloads begin at `least` or behind it, each behind the one before, and every notification has data that
-- fits.
abbrev pub Formed : ℕ → Chain → Type 0
Formed least ends = Unit {0}
Formed least (faulty f at) = least ≤ at
Formed least (payload at content rest) = (least ≤ at) × DataFits content × Formed (suc at) rest

formed_less : (least more : ℕ) (ch : Chain) → least ≤ more → Formed more ch → Formed least ch
formed_less least more ends l h = tt
formed_less least more (faulty f at) l h = omega arith
formed_less least more (payload at content rest) l h = (omega (arith, h.0), h.1, h.2)

steps_form : (k : ℕ) (body : List ℕ) (payload_type at : ℕ) → at ≤ length body → Formed at (chain k body payload_type at)
unfolding chain
steps_form zero body payload_type at inside = tt
steps_form (suc k) body payload_type at inside =
    go (eqb payload_type 0) (payload_at payload_type body at) (found_within payload_type body at inside)
    (λ n l. steps_form k body (get_or body at 0) (at + n) l)
  where
    end : (b : Bool) → Formed at (cond b ends (faulty Leftover at))
    end true = tt
    end false = omega arith

    go : (b : Bool) (x : Found) → OfFound (Within body at) x
        → ((n : ℕ) → at + n ≤ length body → Formed (at + n) (chain k body (get_or body at 0) (at + n)))
        → Formed at (cond b (chain_end body at) (link (chain k body (get_or body at 0)) at x))
    go true x w r = end (eqb at (length body))
    go false (Payload n content) (one w) r = (
      omega arith,
      w.2,
      formed_less (suc at) (at + n) (chain k body (get_or body at 0) (at + n)) (omega (arith, w.0))
          (r n w.1),
    )
    go false (Faulty f) none r = omega arith

pub chain_formed : (body : List ℕ) (payload_type at : ℕ) → at ≤ length body → Formed at (chain_at body payload_type at)
unfolding chain_at
chain_formed body payload_type at inside = steps_form (suc (length body - at)) body payload_type at inside
