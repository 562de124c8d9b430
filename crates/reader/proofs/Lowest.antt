-- The number told at a payload is that of the first of its checks that fails.
use Prim.Native.Nat.{ℕ, ◌+◌, ◌-◌, ◌≤◌, ◌<◌}
use mathlib.Core.Path.{◌≡◌, refl, ◌∙◌}
use mathlib.Core.List.{List}
use mathlib.Core.Bool.{Bool, true, false, cond, ◌&&◌, ◌||◌, not}
use native.Mathlib.Omega.{arith}
use borrow.Author.Tests.{eq-eqb, ne_eqb, eqb-true}
use lib.Dec.{eqb, leb, ltb}
use lib.ListN.{length, get_or}
use Rattle.octets.specs.Checks.{first_failed}
use Rattle.octets.specs.Limits.{payload_header, notify_header}
use Rattle.octets.specs.Numbers.{number_of}
use Rattle.octets.specs.Octets.{be16}
use Rattle.octets.specs.Wire.{critical_bit, notify_payload}
use Rattle.octets.specs.declared.number.Number.TheVariants.{Repeated}
use Rattle.notify.specs.Notify.{data_fits}
use Rattle.notify.specs.declared.notify.NotifyKind.{NotifyKind}
use Rattle.payload.specs.Payload.{flags_at, notify_type_at, spi_fits, notify_at, sized, payload_at}
use Rattle.payload.specs.declared.payload.Fault.TheVariants.{ChainLength, NotifyShape, DataSize, Conflict, Critical}
use Rattle.payload.specs.declared.payload.Content.TheVariants.{Skipped, Unknown, Notify}
use Rattle.payload.specs.Payload.{Found, Payload, Faulty}
use Rattle.findings.specs.Seen.{content_noted, repeats, conflicts}
use Rattle.findings.specs.declared.seen.Seen.{Seen}
use Rattle.reader.specs.Chain.{Scan, Chain, Outcome, Whole, Broken, link, chain_at, stopped, scanned, fault_number}
use Rattle.reader.specs.Lowest.{left, size, is_notify, spi_size, kind, is_known, fault_checks, told_at, LowestTold}
use Rattle.reader.proofs.Chain.{chain_step, takes, chain_formed}
use Rattle.reader.proofs.Ordinal.{Stops, scan_stops}

module _ (s : Seen) (payload_type : ℕ) (body : List ℕ) (at : ℕ) where
  -- the number of what was found, with what was seen before it
  abbrev here : Found → ℕ
  here (Faulty f) = number_of (fault_number f)
  here (Payload n content) = cond (conflicts s content) (number_of Repeated) 0

  -- A payload that is a Notify is of a known type.
  notify_known : is_notify s payload_type body at ≡ true → is_known s payload_type body at ≡ true
  notify_known e = rw (eqb-true payload_type notify_payload e)

  lowest_here : here (payload_at payload_type body at) ≡ first_failed (fault_checks s payload_type body at)
  unfolding payload_at sized notify_at
  lowest_here =
      go (ltb l payload_header) (ltb n payload_header || ltb l n) (eqb payload_type notify_payload)
      (ltb n notify_header || ltb (n - notify_header) spi) (spi_fits k spi) (data_fits k data_size)
      (is_known s payload_type body at) (leb critical_bit (get_or body (at + flags_at) 0)) notify_known
    where
      l : ℕ
      l = left s payload_type body at

      n : ℕ
      n = size s payload_type body at

      spi : ℕ
      spi = spi_size s payload_type body at

      k : NotifyKind
      k = kind s payload_type body at

      data_size : ℕ
      data_size = n - notify_header - spi

      go : (short wrong notify cut fits sized known critical : Bool) → (notify ≡ true → known ≡ true)
          → here
          (cond short (Faulty ChainLength)
          (cond wrong (Faulty ChainLength)
          (cond notify
          (cond cut (Faulty NotifyShape)
          (cond fits
          (cond sized (Payload n (Notify k (be16 body (at + notify_type_at)) data_size)) (Faulty DataSize))
          (Faulty NotifyShape)))
          (cond known (Payload n Skipped) (cond critical (Faulty (Critical payload_type)) (Payload n Unknown))))))
          ≡ cond (short || wrong) 61
          (cond (notify && (cut || not fits)) 62
          (cond (notify && not sized) 63
          (cond (notify && repeats s k) 64
          (cond (not known && critical) 7 0))))
      go true wrong notify cut fits sized known critical e = refl
      go false true notify cut fits sized known critical e = refl
      go false false true true fits sized known critical e = refl
      go false false true false false sized known critical e = refl
      go false false true false true false known critical e = refl
      go false false true false true true known critical e = rw (e refl)
      go false false false cut fits sized true critical e = refl
      go false false false cut fits sized false true e = refl
      go false false false cut fits sized false false e = refl

  -- a scan that goes on stops behind this payload
  later : (least start : ℕ) (ch : Chain) (o : Outcome) (t : Seen) → at < least → Stops least start ch o t
      → told_at at o ≡ 0
  later least start ch Whole t l h = refl
  later least start ch (Broken f stop) t l h = rw (ne_eqb stop at (λ z. omega (arith, h.0, l, z)))

  module _ (inside : at ≤ length body) where
    stops_here : (x : Found) → payload_at payload_type body at ≡ x
        → told_at at (scanned s (link (chain_at body (get_or body at 0)) at x)).outcome ≡ here x
    unfolding scanned
    stops_here (Faulty f) e = rw (eq-eqb at at refl)
    stops_here (Payload n content) e = go (conflicts s content)
      where
        next : Scan
        next = scanned (content_noted s content (at + notify_header)) (chain_at body (get_or body at 0) (at + n))

        go : (b : Bool)
            → told_at at (cond b (stopped (Broken Conflict at) s) next).outcome ≡ cond b (number_of Repeated) 0
        go true = rw (eq-eqb at at refl)
        go false =
            let w = takes payload_type body at inside n content e in
            later (at + n) _ _ next.outcome next.seen (omega (arith, w.0))
            (scan_stops (content_noted s content (at + notify_header)) (chain_at body (get_or body at 0) (at + n)) (at + n)
            (chain_formed body (get_or body at 0) (at + n) w.1))

pub lowest_told : LowestTold
lowest_told s payload_type body at inside more =
    rw (chain_step payload_type body at inside, ne_eqb payload_type 0 more)
    (stops_here s payload_type body at inside (payload_at payload_type body at) refl ∙ lowest_here s payload_type body at)
