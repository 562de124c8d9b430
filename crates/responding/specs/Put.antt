-- Inner. What the functions that put a whole response into an output ensure of it, by the list of notifications that it
-- is; `responds` in `proofs/Lengths.antt` has it of what was written (`Wrote`).
use Rattle.std.specs.Prelude.{ℕ, ◌≡◌, List, length}
use Rattle.octets.specs.Limits.{nat_octets}
use Rattle.writing.specs.Notify.{Notification, placed, chained}
use Rattle.responding.specs.Respond.{told_of}
use Rattle.responding.specs.declared.respond.Response.{Response}

-- the notifications, from the output's start on, and what is told of them
pub record Responds (xs : List Notification) (before after : List ℕ) (r : Response) : Type 0 where
  pub told : r ≡ told_of xs
  pub octets : after ≡ placed before 0 (chained xs 0)

-- the two lent NAT detection values have their size
abbrev pub NatsSized : List ℕ → List ℕ → Type 0
NatsSized nat-source nat-destination =
    (length nat-source ≡ nat_octets) × (length nat-destination ≡ nat_octets)
