-- The cookie that a reading hands out is not longer than the longest.
use Prim.Native.Nat.{ℕ, ◌≤◌}
use mathlib.Core.Path.{◌≡◌}
use mathlib.Core.List.{List}
use mathlib.Core.Bool.{true}
use native.Mathlib.Omega.{arith}
use borrow.Author.Tests.{leb-true}
use lib.Dec.{leb}
use Rattle.octets.specs.Limits.{cookie_least, cookie_most}
use Rattle.octets.proofs.Small.{both}
use Rattle.notify.specs.Notify.{data_fits}
use Rattle.notify.specs.declared.notify.NotifyKind.{NotifyKind}
use Rattle.notify.specs.declared.notify.NotifyKind.TheVariants.{NatDetectionSource, NatDetectionDestination}
use Rattle.notify.specs.declared.notify.NotifyKind.TheVariants.{MobikeSupported, AdditionalIp4, AdditionalIp6}
use Rattle.notify.specs.declared.notify.NotifyKind.TheVariants.{NoAdditionalAddresses}
use Rattle.notify.specs.declared.notify.NotifyKind.TheVariants.{UpdateSaAddresses, Cookie2, NoNatsAllowed}
use Rattle.notify.specs.declared.notify.NotifyKind.TheVariants.{UnacceptableAddresses, UnexpectedNatDetected}
use Rattle.notify.specs.declared.notify.NotifyKind.TheVariants.{OtherError, OtherStatus}
use Rattle.payload.specs.declared.payload.Content.{Content}
use Rattle.payload.specs.declared.payload.Content.TheVariants.{Skipped, Unknown as UnknownPayload, Notify}
use Rattle.findings.specs.Seen.{noted, content_noted}
use Rattle.findings.specs.declared.seen.Seen.{Seen}
use Rattle.reader.specs.Chain.{reading}
use Rattle.reader.proofs.Chain.{DataFits}
use Rattle.reader.proofs.Kept.{kept}

abbrev Short : Seen → Type 0
Short s = s.cookie_len ≤ cookie_most

noted_short : (s : Seen) (kind : NotifyKind) (notify_type at size : ℕ) → Short s → data_fits kind size ≡ true
    → Short (noted s kind notify_type at size)
unfolding noted
noted_short s NatDetectionSource notify_type at size h f = h
noted_short s NatDetectionDestination notify_type at size h f = h
noted_short s MobikeSupported notify_type at size h f = h
noted_short s AdditionalIp4 notify_type at size h f = h
noted_short s AdditionalIp6 notify_type at size h f = h
noted_short s NoAdditionalAddresses notify_type at size h f = h
noted_short s UpdateSaAddresses notify_type at size h f = h
noted_short s Cookie2 notify_type at size h f =
    leb-true size cookie_most (both (leb cookie_least size) (leb size cookie_most) f).1
noted_short s NoNatsAllowed notify_type at size h f = h
noted_short s UnacceptableAddresses notify_type at size h f = h
noted_short s UnexpectedNatDetected notify_type at size h f = h
noted_short s OtherError notify_type at size h f = h
noted_short s OtherStatus notify_type at size h f = h

content_short : (s : Seen) (content : Content) (at : ℕ) → Short s → DataFits content → Short (content_noted s content at)
unfolding content_noted
content_short s Skipped at h f = h
content_short s UnknownPayload at h f = h
content_short s (Notify kind notify_type size) at h f = noted_short _ kind notify_type at size h f

pub cookie_short : (first : ℕ) (body : List ℕ) → (reading first body).seen.cookie_len ≤ cookie_most
cookie_short first body = kept Short (omega arith) content_short first body
