-- Notifications one behind the other, as a chain of payloads.
use Prim.Native.Nat.{ℕ, ◌+◌}
use mathlib.Core.Path.{◌≡◌}
use mathlib.Core.List.{List, [], ◌∷◌}
use mathlib.Core.Bool.{true}
use lib.ListN.{length}
use Rattle.octets.specs.Limits.{notify_header}
use Rattle.notify.specs.Notify.{kind_of, data_fits}
use Rattle.payload.specs.declared.payload.Content.{Content}
use Rattle.payload.specs.declared.payload.Content.TheVariants.{Notify}
use Rattle.writing.specs.Notify.{Notification}
use Rattle.reader.specs.Chain.{Chain, ends, payload}

-- each notification's data has a size that its kind allows
abbrev pub AllFit : List Notification → Type 0
AllFit [] = Unit {0}
AllFit (x ∷ xs) = (data_fits (kind_of x.notify_type) (length x.octets) ≡ true) × AllFit xs

abbrev pub content_of : Notification → Content
content_of x = Notify (kind_of x.notify_type) x.notify_type (length x.octets)

abbrev pub notify_chain : ℕ → List Notification → Chain
notify_chain at [] = ends
notify_chain at (x ∷ xs) = payload at (content_of x) (notify_chain (at + (notify_header + length x.octets)) xs)
