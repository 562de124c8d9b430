-- Laws of octets placed in a buffer: its length stays, and octets placed one after the other are placed at once.
-- Assumes nothing.
use Prim.Native.Nat.{ℕ, suc, ◌+◌, ◌-◌, ◌≤◌, ◌<◌}
use mathlib.Core.Path.{◌≡◌, ap, ◌∙◌}
use mathlib.Core.List.{List, [], ◌++◌, append_assoc}
use native.Mathlib.Nat.{add-zero, add_assoc, zero-add}
use native.Mathlib.Omega.{arith}
use lib.ListN.{length, take, drop, set, get_or, length-append, length-drop, take-append-drop}
use lib.Seq.{paste, paste-suc, length-take-le, take_all, take-length, take_at, drop_at, drop-drop}
use Rattle.octets.specs.Limits.{notify_header}
use Rattle.writing.specs.Notify.{placed, notify_octets}

pub placed_none : (out : List ℕ) (at : ℕ) → placed out at [] ≡ out
unfolding placed
placed_none out at = rw add-zero (take-append-drop at out)

pub placed_front : (out octets : List ℕ) → placed out 0 octets ≡ octets ++ drop (length octets) out
unfolding placed
placed_front out octets = rw zero-add

pub length-placed : (out : List ℕ) (at : ℕ) (octets : List ℕ) → at + length octets ≤ length out
    → length (placed out at octets) ≡ length out
unfolding placed
length-placed out at octets fits =
    let front = length-take-le at out (omega arith) in
    simp (length-append, length-drop, front) (omega arith)

pub placed_more : (out : List ℕ) (at : ℕ) (a b : List ℕ) → at + (length a + length b) ≤ length out
    → placed (placed out at a) (at + length a) b ≡ placed out at (a ++ b)
unfolding placed
placed_more out at a b fits =
    let front = length-take-le at out (omega arith) in
    let before : length (take at out ++ a) ≡ at + length a = simp (length-append, front) in
    rw (
      ← append_assoc (take at out) a (drop (at + length a) out),
      ← drop-drop (length b) (at + length a),
      take_at _ _ (at + length a) before,
      drop_at _ _ (at + length a) before,
    )
    (simp (drop-drop, append_assoc, length-append, add_assoc))

-- The library's `paste` is how far a loop has come: so many octets are placed, at its end all.
pub paste_some : (out : List ℕ) (at : ℕ) (octets : List ℕ) (n : ℕ) → n ≤ length octets
    → paste out at octets n ≡ placed out at (take n octets)
unfolding placed
paste_some out at octets n h = rw (length-take-le n octets h) (append_assoc (take at out) (take n octets) _)

pub paste_all : (out : List ℕ) (at : ℕ) (octets : List ℕ) → paste out at octets (length octets) ≡ placed out at octets
paste_all out at octets =
    paste_some out at octets (length octets) (omega arith) ∙ ap (placed out at) (take-length octets)

pub length-notify : (next notify_type : ℕ) (octets : List ℕ)
    → length (notify_octets next notify_type octets) ≡ notify_header + length octets
unfolding notify_octets
length-notify next notify_type octets = omega arith

-- Two parts written one behind the other are the two written as one: `mid` and `end` are what was left after each.
pub placed_then : (out mid end : List ℕ) (at next : ℕ) (a b : List ℕ) → at + (length a + length b) ≤ length out
    → mid ≡ placed out at a → next ≡ at + length a → end ≡ placed mid next b → end ≡ placed out at (a ++ b)
placed_then out mid end at next a b fits m n e = rw (e, m, n) (placed_more out at a b fits)

-- Four octets more, each stored behind the last.
pub paste_four : (out : List ℕ) (at : ℕ) (octets : List ℕ) (i : ℕ) → at + length octets ≤ length out
    → i + 4 ≤ length octets
    → let one = set (paste out at octets i) (at + i) (get_or octets i 0) in
    let two = set one (at + i + 1) (get_or octets (i + 1) 0) in
    let three = set two (at + i + 2) (get_or octets (i + 2) 0) in
    set three (at + i + 3) (get_or octets (i + 3) 0) ≡ paste out at octets (i + 4)
paste_four out at octets i fits more =
    rw (
      one i (i + 1) (at + i) (omega arith) (omega arith) (omega arith),
      one (i + 1) (i + 2) (at + i + 1) (omega arith) (omega arith) (omega arith),
      one (i + 2) (i + 3) (at + i + 2) (omega arith) (omega arith) (omega arith),
    )
    (one (i + 3) (i + 4) (at + i + 3) (omega arith) (omega arith) (omega arith))
  where
    one : (j k to : ℕ) → j < length octets → to ≡ at + j → k ≡ suc j
        → set (paste out at octets j) to (get_or octets j 0) ≡ paste out at octets k
    one j k to h p q = rw (p, q) (paste-suc out at octets j 0 (omega arith) h)

-- The first n octets and then the rest, as the part behind them, are all.
pub placed_rest : (out mid end : List ℕ) (at : ℕ) (octets : List ℕ) (n : ℕ) → at + length octets ≤ length out
    → n ≤ length octets
    → mid ≡ placed out at (take n octets) → end ≡ placed mid (at + n) (take (length octets - n) (drop n octets))
    → end ≡ placed out at octets
placed_rest out mid end at octets n fits h m e =
    let front = length-take-le n octets h in
    let behind = length-drop n octets in
    let rest = take_all (length octets - n) (drop n octets) (omega (arith, behind)) in
    placed_then out mid end at (at + n) (take n octets) (drop n octets) (omega (arith, front, behind)) m
    (omega (arith, front)) (rw (← rest) e)
    ∙ ap (placed out at) (take-append-drop n octets)
