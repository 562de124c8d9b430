-- Inner. What a function leaves that writes words into an output, for the contracts of those that put a line together
-- word by word; `Puts-then` in proofs/Puts.antt joins two parts.
use Rattle.std.specs.Prelude.{ℕ, ◌+◌, ◌≡◌, List, length}
use Rattle.writing.specs.Notify.{placed}
use Rattle.wording.specs.Text.{joined}

-- `left` is `out` with the words at `at` and `after` behind them, and r is the place after that.
pub record Puts (words : List (List ℕ)) (after : ℕ) (out : List ℕ) (at : ℕ) (left : List ℕ) (r : ℕ) : Type 0 where
  pub place : r ≡ at + length (joined words after)
  pub written : left ≡ placed out at (joined words after)
