-- The errors are among the unknown notifications of a reading.
use Prim.Native.Nat.{ℕ, ◌≤◌}
use mathlib.Core.List.{List}
use native.Mathlib.Omega.{arith}
use Rattle.notify.specs.declared.notify.NotifyKind.{NotifyKind}
use Rattle.notify.specs.declared.notify.NotifyKind.TheVariants.{NatDetectionSource, NatDetectionDestination}
use Rattle.notify.specs.declared.notify.NotifyKind.TheVariants.{MobikeSupported, AdditionalIp4, AdditionalIp6}
use Rattle.notify.specs.declared.notify.NotifyKind.TheVariants.{NoAdditionalAddresses}
use Rattle.notify.specs.declared.notify.NotifyKind.TheVariants.{UpdateSaAddresses, Cookie2, NoNatsAllowed}
use Rattle.notify.specs.declared.notify.NotifyKind.TheVariants.{UnacceptableAddresses, UnexpectedNatDetected}
use Rattle.notify.specs.declared.notify.NotifyKind.TheVariants.{OtherError, OtherStatus}
use Rattle.payload.specs.declared.payload.Content.{Content}
use Rattle.payload.specs.declared.payload.Content.TheVariants.{Skipped, Unknown as UnknownPayload, Notify}
use Rattle.findings.specs.Seen.{noted, content_noted}
use Rattle.findings.specs.declared.seen.Seen.{Seen}
use Rattle.reader.specs.Chain.{reading}
use Rattle.reader.proofs.Chain.{DataFits}
use Rattle.reader.proofs.Kept.{kept}

abbrev Among : Seen → Type 0
Among s = s.tally.errors ≤ s.tally.unknown_notifies

noted_among : (s : Seen) (kind : NotifyKind) (notify_type at size : ℕ) → Among s
    → Among (noted s kind notify_type at size)
unfolding noted
noted_among s NatDetectionSource notify_type at size h = h
noted_among s NatDetectionDestination notify_type at size h = h
noted_among s MobikeSupported notify_type at size h = h
noted_among s AdditionalIp4 notify_type at size h = h
noted_among s AdditionalIp6 notify_type at size h = h
noted_among s NoAdditionalAddresses notify_type at size h = h
noted_among s UpdateSaAddresses notify_type at size h = h
noted_among s Cookie2 notify_type at size h = h
noted_among s NoNatsAllowed notify_type at size h = h
noted_among s UnacceptableAddresses notify_type at size h = omega arith
noted_among s UnexpectedNatDetected notify_type at size h = omega arith
noted_among s OtherError notify_type at size h = omega arith
noted_among s OtherStatus notify_type at size h = omega arith

content_among : (s : Seen) (content : Content) (at : ℕ) → Among s → DataFits content → Among (content_noted s content at)
unfolding content_noted
content_among s Skipped at h f = h
content_among s UnknownPayload at h f = h
content_among s (Notify kind notify_type size) at h f = noted_among _ kind notify_type at size h

pub errors_among : (first : ℕ) (body : List ℕ)
    → (reading first body).seen.tally.errors ≤ (reading first body).seen.tally.unknown_notifies
errors_among first body = kept Among (omega arith) content_among first body
