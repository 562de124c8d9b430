-- The octets at the front of a line are those that were put there.
use Rattle.std.proofs.Common.{◌≡◌, ℕ, List, length, take, drop, sym}
use Rattle.std.proofs.Math.Seq.{take_at}
use Rattle.writing.specs.Notify.{placed}
use Rattle.writing.proofs.Placed.{placed_front}

pub put_in_front : (line octets : List ℕ) (n : ℕ) → n ≡ length octets → take n (placed line 0 octets) ≡ octets
put_in_front line octets n e =
    rw placed_front (take_at octets (drop (length octets) line) n (sym e))
