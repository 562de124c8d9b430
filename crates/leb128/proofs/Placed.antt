-- Octets placed one by one. Assumes nothing.
use Prim.Native.Nat.{ℕ, suc, ◌+◌, ◌<◌}
use mathlib.Core.Path.{◌≡◌, ◌∙◌}
use mathlib.Core.List.{List, [], ◌∷◌, append_assoc}
use native.Mathlib.Omega.{arith}
use native.Mathlib.Numerals.{add-one}
use lib.ListN.{length, set}
use lib.Seq.{set_split, take-suc-set, drop-set-lt}
use Rattle.writing.specs.Notify.{placed}

pub placed_one : (out : List ℕ) (at b : ℕ) → at < length out → set out at b ≡ placed out at (b ∷ [])
unfolding placed
placed_one out at b h = set_split out at b h ∙ rw (← add-one at)

pub placed_cons : (out : List ℕ) (at b : ℕ) (os : List ℕ) → at < length out
    → placed (set out at b) (at + 1) os ≡ placed out at (b ∷ os)
unfolding placed
placed_cons out at b os h =
    let e : at + 1 + length os ≡ at + suc (length os) = omega arith in
    rw (e, drop-set-lt (at + suc (length os)) out at b (omega arith), add-one at, take-suc-set out at b h, append_assoc)
