-- Eight octets of two lists as numbers: the numbers are the same exactly if the octets are.
use Prim.Native.Nat.{ℕ, ◌+◌, ◌*◌, ◌<◌, ◌≤◌}
use mathlib.Core.Path.{◌≡◌}
use mathlib.Core.List.{List}
use native.Mathlib.Omega.{arith}
use native.Mathlib.Decide.{dec_lt}
use lib.ListN.{get_or}
use Rattle.prefix.specs.Eights.{two_of, four_of, eight_at}

-- the two halves of a number
halves : (x y z w : ℕ) → x < 65536 → z < 65536 → x + y * 65536 ≡ z + w * 65536 → (x ≡ z) × (y ≡ w)
halves x y z w s t e = (omega arith, omega arith)

two_parts : (x y z w : ℕ) → x < 256 → z < 256 → two_of x y ≡ two_of z w → (x ≡ z) × (y ≡ w)
two_parts x y z w s t e = (omega arith, omega arith)

wide_parts : (x y z w : ℕ) → x < 4294967296 → z < 4294967296 → x + y * 4294967296 ≡ z + w * 4294967296
    → (x ≡ z) × (y ≡ w)
wide_parts x y z w s t e = (omega arith, omega arith)

module _ (a b : List ℕ) where
  -- octet k is the same, for each k of n from i on
  abbrev pub Same : ℕ → ℕ → Type 0
  Same i n = (k : ℕ) → i ≤ k → k < i + n → get_or a k 0 ≡ get_or b k 0

  one : (i : ℕ) → get_or a i 0 ≡ get_or b i 0 → Same i 1
  one i e k l u = let here : k ≡ i = omega arith in rw here e

  and : (i n : ℕ) → Same i n → get_or a (i + n) 0 ≡ get_or b (i + n) 0 → Same i (n + 1)
  and i n s e k l u = go (dec_lt k (i + n))
    where
      go : Dec (k < i + n) → get_or a k 0 ≡ get_or b k 0
      go (yes h) = s k l h
      go (no h) = let here : k ≡ i + n = omega arith in rw here e

  pub eight_same : (i : ℕ) → Same i 8 → eight_at a i ≡ eight_at b i
  eight_same i e =
      rw (
        e i (omega arith) (omega arith),
        e (i + 1) (omega arith) (omega arith),
        e (i + 2) (omega arith) (omega arith),
        e (i + 3) (omega arith) (omega arith),
        e (i + 4) (omega arith) (omega arith),
        e (i + 5) (omega arith) (omega arith),
        e (i + 6) (omega arith) (omega arith),
        e (i + 7) (omega arith) (omega arith),
      )

  module _ (small-a : (k : ℕ) → get_or a k 0 < 256) (small_b : (k : ℕ) → get_or b k 0 < 256) where
    two_has : (i j : ℕ) → two_of (get_or a i 0) (get_or a j 0) ≡ two_of (get_or b i 0) (get_or b j 0)
        → (get_or a i 0 ≡ get_or b i 0) × (get_or a j 0 ≡ get_or b j 0)
    two_has i j e = two_parts _ _ _ _ (small-a i) (small_b i) e

    four_has : (i j k l : ℕ)
        → four_of (get_or a i 0) (get_or a j 0) (get_or a k 0) (get_or a l 0) ≡ four_of (get_or b i 0) (get_or b j 0) (get_or b k 0)
        (get_or b l 0)
        → ((get_or a i 0 ≡ get_or b i 0) × (get_or a j 0 ≡ get_or b j 0))
        × ((get_or a k 0 ≡ get_or b k 0) × (get_or a l 0 ≡ get_or b l 0))
    four_has i j k l e =
        let h = halves _ _ _ _ (omega (arith, small-a i, small-a j)) (omega (arith, small_b i, small_b j)) e in
        (two_has i j h.0, two_has k l h.1)

    pub eight_has : (i : ℕ) → eight_at a i ≡ eight_at b i → Same i 8
    eight_has i e =
        let h =
        wide_parts _ _ _ _ (omega (arith, small-a i, small-a (i + 1), small-a (i + 2), small-a (i + 3)))
        (omega (arith, small_b i, small_b (i + 1), small_b (i + 2), small_b (i + 3))) e in
        let f = four_has i (i + 1) (i + 2) (i + 3) h.0 in
        let g = four_has (i + 4) (i + 5) (i + 6) (i + 7) h.1 in
        and i 7
        (and i 6
        (and i 5
        (and i 4 (and i 3 (and i 2 (and i 1 (one i f.0.0) f.0.1) f.1.0) f.1.1) g.0.0) g.0.1)
        g.1.0) g.1.1
