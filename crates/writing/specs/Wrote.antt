-- Inner. What a function leaves that writes notifications into an output, for the contracts of those that put a request
-- together part by part; `wrote_both` in `proofs/Chained.antt` joins two parts.
use Rattle.std.specs.Prelude.{ℕ, ◌+◌, ◌≡◌, List, length}
use Rattle.writing.specs.Notify.{placed, Notification, chained}

-- `end` is `out` with the notifications at `at`, and r is the offset after them; `next` is the type of what follows.
pub record Wrote (out : List ℕ) (at : ℕ) (xs : List Notification) (next : ℕ) (end : List ℕ) (r : ℕ) : Type 0 where
  pub offset : r ≡ at + length (chained xs next)
  pub octets : end ≡ placed out at (chained xs next)
