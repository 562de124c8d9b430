-- Two numbered updates of one mark, in both orders: the one with the greater ID decides, or neither counts.
use Prim.Native.Nat.{ℕ, ◌+◌, ◌<◌, ◌≤◌}
use mathlib.Core.Path.{◌≡◌, refl}
use mathlib.Core.Bool.{Bool, true, false, cond, ◌&&◌}
use native.Mathlib.Omega.{arith}
use native.Mathlib.Decide.{dec_le, dec_lt}
use borrow.Author.Tests.{le-leb, lt-leb}
use lib.Dec.{leb}

-- whether an update counts: it is there, and its ID exceeds the mark, which is the least ID that exceeds it
abbrev pub counts : Bool → ℕ → ℕ → Bool
counts there id mark = there && leb mark id

abbrev pub mark_after : Bool → ℕ → ℕ → ℕ
mark_after there id mark = cond (counts there id mark) (id + 1) mark

-- a and b in this order, then b and a in the other
pub data Winner (a b a' b' : Bool) : Type 0 where
  nobody : a ≡ false → b ≡ false → a' ≡ false → b' ≡ false → Winner a b a' b'
  one : a ≡ true → b ≡ false → a' ≡ true → Winner a b a' b'
  other : b ≡ true → b' ≡ true → a' ≡ false → Winner a b a' b'

module _ (i j m : ℕ) (d : i ≡ j → ⊥) where
  pub winner : (x y : Bool)
      → Winner (counts x i m) (counts y j (mark_after x i m)) (counts x i (mark_after y j m)) (counts y j m)
  winner false false = nobody refl refl refl refl
  winner true false = go (dec_le m i)
    where
      go : Dec (m ≤ i) → Winner (leb m i) false (leb m i) false
      go (yes h) = one (le-leb m i h) refl (le-leb m i h)
      go (no h) = let l = lt-leb m i (omega arith) in nobody l refl l refl
  winner false true = go (dec_le m j)
    where
      go : Dec (m ≤ j) → Winner false (leb m j) false (leb m j)
      go (yes h) = other (le-leb m j h) (le-leb m j h) refl
      go (no h) = let l = lt-leb m j (omega arith) in nobody refl l refl l
  winner true true = go (dec_le m i) (dec_le m j) (dec_lt i j)
    where
      go : Dec (m ≤ i) → Dec (m ≤ j) → Dec (i < j)
          → Winner (leb m i) (leb (cond (leb m i) (i + 1) m) j) (leb (cond (leb m j) (j + 1) m) i) (leb m j)
      go (yes h) (yes k) (yes l) =
          rw (le-leb m i h, le-leb m j k) (other (le-leb (i + 1) j (omega arith)) refl (lt-leb (j + 1) i (omega arith)))
      go (yes h) (yes k) (no l) =
          rw (le-leb m i h, le-leb m j k) (one refl (lt-leb (i + 1) j (omega arith)) (le-leb (j + 1) i (omega arith)))
      go (yes h) (no k) l =
          rw (le-leb m i h, lt-leb m j (omega arith)) (one refl (lt-leb (i + 1) j (omega arith)) (le-leb m i h))
      go (no h) (yes k) l =
          rw (lt-leb m i (omega arith), le-leb m j k) (other refl refl (lt-leb (j + 1) i (omega arith)))
      go (no h) (no k) l =
          rw (lt-leb m i (omega arith), lt-leb m j (omega arith)) (nobody refl refl (lt-leb m i (omega arith)) refl)

-- so a value that each replaces ends the same
pub agree : {A : Type 0} {a b a' b' : Bool} → Winner a b a' b' → (x y z : A)
    → cond b y (cond a x z) ≡ cond a' x (cond b' y z)
agree (nobody p q r s) x y z = rw (p, q, r, s)
agree (one p q r) x y z = rw (p, q, r)
agree (other p q r) x y z = rw (p, q, r)
