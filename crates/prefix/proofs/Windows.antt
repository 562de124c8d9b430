-- Eight octets and more are the same exactly if the first eight and the last eight are: the two cover them all.
use Prim.Native.Nat.{ℕ, ◌+◌, ◌-◌, ◌*◌, ◌<◌, ◌≤◌}
use mathlib.Core.Path.{◌≡◌}
use mathlib.Core.List.{List}
use mathlib.Core.Bool.{true, false}
use native.Mathlib.Omega.{arith}
use native.Mathlib.Decide.{dec_lt}
use lib.Dec.{eqb}
use lib.ListN.{get_or}
use Rattle.prefix.specs.Prefix.{prefix_matches}
use Rattle.prefix.specs.Eights.{eight_at}
use Rattle.prefix.proofs.Bits.{told, denied, octet_same, whole}
use Rattle.prefix.proofs.EightOctets.{eight_same, eight_has}

module _ (a b : List ℕ) (small-a : (k : ℕ) → get_or a k 0 < 256) (small_b : (k : ℕ) → get_or b k 0 < 256) (n : ℕ)
    (more : 8 ≤ n) (most : n ≤ 16) where
  window_same : (i : ℕ) → i + 8 ≤ n → prefix_matches a (n * 8) b ≡ true → eight_at a i ≡ eight_at b i
  window_same i within h =
      eight_same a b i (λ k l u. octet_same a b k (small-a k) (small_b k) (n * 8) (omega arith) h)

  pub first_other : (eight_at a 0 ≡ eight_at b 0 → ⊥) → prefix_matches a (n * 8) b ≡ false
  first_other differ = denied _ (λ h. differ (window_same 0 (omega arith) h))

  covered : eight_at a 0 ≡ eight_at b 0 → eight_at a (n - 8) ≡ eight_at b (n - 8)
      → (k : ℕ) → k < n → get_or a k 0 ≡ get_or b k 0
  covered e f k l = go (dec_lt k 8)
    where
      go : Dec (k < 8) → get_or a k 0 ≡ get_or b k 0
      go (yes h) = eight_has a b small-a small_b 0 e k (omega arith) (omega arith)
      go (no h) = eight_has a b small-a small_b (n - 8) f k (omega arith) (omega arith)

  pub last_told : eight_at a 0 ≡ eight_at b 0
      → eqb (eight_at a (n - 8)) (eight_at b (n - 8)) ≡ prefix_matches a (n * 8) b
  last_told e = told _ _ _ (λ f. whole a b n (covered e f)) (window_same (n - 8) (omega arith))
