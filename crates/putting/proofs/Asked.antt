-- What is asked for, one notification: how many octets it takes at most.
use Prim.Native.Nat.{ℕ, ◌+◌, ◌≤◌}
use mathlib.Core.List.{[], ◌∷◌}
use mathlib.Core.Bool.{Bool, true, false}
use native.Mathlib.Omega.{arith}
use lib.ListN.{length}
use Rattle.octets.specs.Limits.{notify_header}
use Rattle.writing.specs.Notify.{Notification, chained}
use Rattle.writing.proofs.Chained.{length-one}
use Rattle.asking.specs.Draft.{if_asked}

pub length-asked : (asked : Bool) (x : Notification) (next : ℕ)
    → length (chained (if_asked asked (x ∷ [])) next) ≤ notify_header + length x.octets
unfolding chained
length-asked true x next = omega (arith, length-one x next)
length-asked false x next = omega arith
