-- How long a response's parts are, and what is told of all that was written.
use Prim.Native.Nat.{ℕ, ◌+◌, ◌≤◌}
use mathlib.Core.List.{List, [], ◌∷◌}
use mathlib.Core.Bool.{Bool, true, false, cond, not}
use native.Mathlib.Nat.{zero-add}
use native.Mathlib.Omega.{arith}
use lib.Dec.{eqb}
use lib.ListN.{length}
use Rattle.octets.specs.Limits.{notify_header}
use Rattle.octets.specs.Wire.{cookie2}
use Rattle.writing.specs.Notify.{Notification, notification, first_type, chained}
use Rattle.writing.specs.Parts.{cookie_notifies}
use Rattle.writing.specs.Wrote.{Wrote}
use Rattle.writing.proofs.Chained.{length-one}
use Rattle.responding.specs.Put.{Responds}

-- the cookie's payload, if there is one
pub cookie_length : (cookie : List ℕ) → length (chained (cookie_notifies cookie) 0) ≤ notify_header + length cookie
unfolding chained
cookie_length cookie = go (eqb (length cookie) 0)
  where
    go : (b : Bool)
        → length (chained (cond (not b) (notification cookie2 cookie ∷ []) []) 0) ≤ notify_header + length cookie
    go true = omega arith
    go false = omega (arith, length-one (notification cookie2 cookie) 0)

-- what was written from the output's start on, with what is told of it
pub responds : (xs : List Notification) (out end : List ℕ) (r : ℕ) → Wrote out 0 xs 0 end r
    → Responds xs out end (record { first = first_type xs 0; length = r })
responds xs out end r w = record { told = rw (w.offset, zero-add); octets = w.octets }
