-- What a payload adds to the counts: one to the payloads, and one at most to each other.
use Prim.Native.Nat.{ℕ, ◌+◌, ◌≤◌}
use mathlib.Core.Path.{◌≡◌, refl, ap}
use mathlib.Core.Bool.{Bool, true, false, cond}
use native.Mathlib.Omega.{arith}
use Rattle.notify.specs.Notify.{is_unknown}
use Rattle.notify.specs.declared.notify.NotifyKind.{NotifyKind}
use Rattle.notify.specs.declared.notify.NotifyKind.TheVariants.{NatDetectionSource, NatDetectionDestination}
use Rattle.notify.specs.declared.notify.NotifyKind.TheVariants.{MobikeSupported, AdditionalIp4, AdditionalIp6}
use Rattle.notify.specs.declared.notify.NotifyKind.TheVariants.{NoAdditionalAddresses}
use Rattle.notify.specs.declared.notify.NotifyKind.TheVariants.{UpdateSaAddresses, Cookie2, NoNatsAllowed}
use Rattle.notify.specs.declared.notify.NotifyKind.TheVariants.{UnacceptableAddresses, UnexpectedNatDetected}
use Rattle.notify.specs.declared.notify.NotifyKind.TheVariants.{OtherError, OtherStatus}
use Rattle.payload.specs.declared.payload.Content.{Content}
use Rattle.payload.specs.declared.payload.Content.TheVariants.{Skipped, Unknown as UnknownPayload, Notify}
use Rattle.findings.specs.Seen.{counted, unknown_notify, noted, with_tally, content_noted}
use Rattle.findings.specs.Counted.{Counted}
use Rattle.findings.specs.declared.seen.Tally.{Tally}
use Rattle.findings.specs.declared.seen.Seen.{Seen}

either_tally : (b : Bool) (t u : Tally) → t.payloads ≡ u.payloads → (cond b t u).payloads ≡ u.payloads
either_tally true t u e = e
either_tally false t u e = refl

-- a notification adds nothing to the counts of payloads
pub tally_same : (s : Seen) (kind : NotifyKind) (notify_type at size : ℕ)
    → let t = noted s kind notify_type at size in
    (t.tally.payloads ≡ s.tally.payloads) × (t.tally.unknown_payloads ≡ s.tally.unknown_payloads)
unfolding noted
tally_same s kind notify_type at size = go (is_unknown kind)
  where
    go : (b : Bool) → let t = cond b (unknown_notify s.tally kind notify_type) s.tally in
        (t.payloads ≡ s.tally.payloads) × (t.unknown_payloads ≡ s.tally.unknown_payloads)
    go true = (refl, refl)
    go false = (refl, refl)

-- so a notification may be noted first and counted after
pub payload_last : (s : Seen) (kind : NotifyKind) (notify_type at size : ℕ)
    → let t = noted s kind notify_type at size in
    with_tally t (counted t.tally 0) ≡ noted (with_tally s (counted s.tally 0)) kind notify_type at size
unfolding noted
payload_last s kind notify_type at size = ap (with_tally (noted s kind notify_type at size)) (go (is_unknown kind))
  where
    go : (b : Bool)
        → counted (cond b (unknown_notify s.tally kind notify_type) s.tally) 0
        ≡ cond b (unknown_notify (counted s.tally 0) kind notify_type) (counted s.tally 0)
    go true = refl
    go false = refl

-- a payload of any content is counted as one
pub one : (s : Seen) (content : Content) (at : ℕ) → (content_noted s content at).tally.payloads ≡ s.tally.payloads + 1
unfolding content_noted noted
one s Skipped at = refl
one s UnknownPayload at = refl
one s (Notify kind notify_type size) at =
    either_tally (is_unknown kind) (unknown_notify (counted s.tally 0) kind notify_type) (counted s.tally 0) refl

-- A payload counts for one at most in each count.
notify_more : (s : Seen) (kind : NotifyKind) (notify_type at size n m : ℕ) → Counted n s → n + 1 ≤ m
    → Counted m (noted (with_tally s (counted s.tally 0)) kind notify_type at size)
unfolding noted
notify_more s NatDetectionSource notify_type at size n m c h = omega arith
notify_more s NatDetectionDestination notify_type at size n m c h = omega arith
notify_more s MobikeSupported notify_type at size n m c h = omega arith
notify_more s AdditionalIp4 notify_type at size n m c h = omega arith
notify_more s AdditionalIp6 notify_type at size n m c h = omega arith
notify_more s NoAdditionalAddresses notify_type at size n m c h = omega arith
notify_more s UpdateSaAddresses notify_type at size n m c h = omega arith
notify_more s Cookie2 notify_type at size n m c h = omega arith
notify_more s NoNatsAllowed notify_type at size n m c h = omega arith
notify_more s UnacceptableAddresses notify_type at size n m c h = omega arith
notify_more s UnexpectedNatDetected notify_type at size n m c h = omega arith
notify_more s OtherError notify_type at size n m c h = omega arith
notify_more s OtherStatus notify_type at size n m c h = omega arith

pub counted_more : (s : Seen) (content : Content) (at n m : ℕ) → Counted n s → n + 1 ≤ m
    → Counted m (content_noted s content at)
unfolding content_noted
counted_more s Skipped at n m c h = omega arith
counted_more s UnknownPayload at n m c h = omega arith
counted_more s (Notify kind notify_type size) at n m c h = notify_more s kind notify_type at size n m c h
