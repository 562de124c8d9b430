-- One octet stored in a buffer, or behind what was placed. Assumes nothing.
use Prim.Native.Nat.{ℕ, ◌+◌, ◌<◌}
use mathlib.Core.Path.{◌≡◌, ◌∙◌}
use mathlib.Core.List.{List, [], ◌∷◌, ◌++◌}
use native.Mathlib.Omega.{arith}
use native.Mathlib.Numerals.{add-one}
use lib.ListN.{length, set}
use lib.Seq.{set_split}
use Rattle.writing.specs.Notify.{placed}
use Rattle.writing.proofs.Placed.{placed_then, length-placed}

pub placed_one : (out : List ℕ) (at b : ℕ) → at < length out → set out at b ≡ placed out at (b ∷ [])
unfolding placed
placed_one out at b h = set_split out at b h ∙ rw (← add-one at)

pub placed_behind : (out last : List ℕ) (at r b : ℕ) (os : List ℕ) → last ≡ placed out at os → r ≡ at + length os
    → r < length out → set last r b ≡ placed out at (os ++ (b ∷ []))
placed_behind out last at r b os e f h =
    let l : length last ≡ length out = rw e (length-placed out at os (omega arith)) in
    placed_then out last (set last r b) at r os (b ∷ []) (omega arith) e f (placed_one last r b (omega arith))
