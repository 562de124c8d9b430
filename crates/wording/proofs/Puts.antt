-- Words written one behind the other. Assumes nothing.
use Prim.Native.Nat.{ℕ, ◌+◌, ◌≤◌, ◌<◌}
use mathlib.Core.Path.{◌≡◌, sym}
use mathlib.Core.List.{List, [], ◌∷◌, ◌++◌, append_assoc}
use native.Mathlib.Omega.{arith}
use lib.ListN.{length, set, length-append}
use Rattle.writing.specs.Notify.{placed}
use Rattle.writing.proofs.Placed.{placed_then}
use Rattle.wording.specs.Text.{joined}
use Rattle.wording.specs.Puts.{Puts}
use Rattle.wording.proofs.Placed.{placed_behind}

-- one word, and the octet stored behind it
pub puts_one : (w out last : List ℕ) (at end after : ℕ) → last ≡ placed out at w → end ≡ at + length w
    → end < length out → Puts (w ∷ []) after out at (set last end after) (end + 1)
unfolding joined
puts_one w out last at end after e f h =
    record {
      place = rw (length-append w (after ∷ [])) (omega arith);
      written = placed_behind out last at end after w e f h;
    }

pub place_one : {w : List ℕ} {after : ℕ} {out : List ℕ} {at : ℕ} {left : List ℕ} {r : ℕ}
    → Puts (w ∷ []) after out at left r → r ≡ at + length w + 1
unfolding joined
place_one {w} {after} p = let e = simp length-append at p.place in omega arith

joined_more : (w v : List ℕ) (ws : List (List ℕ)) (after : ℕ)
    → joined (w ∷ v ∷ ws) after ≡ joined (w ∷ []) 32 ++ joined (v ∷ ws) after
unfolding joined
joined_more w v ws after = sym (append_assoc w (32 ∷ []) (joined (v ∷ ws) after))

-- A word with a space behind it, and then more words. A line is its words taken so, from the last to the first.
pub puts_then : {w v : List ℕ} {ws : List (List ℕ)} {after : ℕ} {out mid left : List ℕ} {at next r : ℕ}
    → r ≤ length out → Puts (w ∷ []) 32 out at mid next → Puts (v ∷ ws) after mid next left r
    → Puts (w ∷ v ∷ ws) after out at left r
puts_then {w} {v} {ws} {after} {out} {mid} {left} {at} {next} {r} h p q =
    let a = joined (w ∷ []) 32 in
    let b = joined (v ∷ ws) after in
    let e = joined_more w v ws after in
    record {
      place = rw (e, length-append a b) (omega (arith, p.place, q.place));
      written =
          rw e (placed_then out mid left at next a b (omega (arith, p.place, q.place)) p.written p.place
          q.written);
    }
