-- Decimal digits, one by one, and how many there are. Assumes nothing.
use Prim.Native.Nat.{ℕ, zero, suc, ◌+◌, ◌/◌, ◌%◌, ◌^◌, ◌≤◌, ◌<◌}
use mathlib.Core.Path.{◌≡◌, refl, sym, ◌∙◌, ap}
use mathlib.Core.Bool.{Bool, true, false}
use mathlib.Core.List.{List, [], ◌∷◌, ◌++◌}
use native.Mathlib.Omega.{arith}
use borrow.Author.Tests.{lt-ltb, le-ltb, ltb-true, ltb-false}
use lib.Dec.{ltb}
use lib.ListN.{length, length-append}
use Rattle.wording.specs.Text.{digits, decimal}

small : (k n : ℕ) → n < 10 → digits (suc k) n ≡ (48 + n) ∷ []
unfolding digits
small k n h = rw (lt-ltb n 10 h)

large : (k n : ℕ) → 10 ≤ n → digits (suc k) n ≡ digits k (n / 10) ++ ((48 + n % 10) ∷ [])
unfolding digits
large k n h = rw (le-ltb n 10 h)

-- more digits than hold the number change nothing
enough : (k n : ℕ) → n < 10 ^ suc k → digits (suc k) n ≡ digits (suc (suc k)) n
enough zero n h = small 0 n h ∙ sym (small 1 n h)
enough (suc k) n h = go (ltb n 10) refl (enough k (n / 10) (omega arith))
  where
    go : (b : Bool) → ltb n 10 ≡ b → digits (suc k) (n / 10) ≡ digits (suc (suc k)) (n / 10)
        → digits (suc (suc k)) n ≡ digits (suc (suc (suc k))) n
    go true e ih = let l = ltb-true n 10 e in small (suc k) n l ∙ sym (small (suc (suc k)) n l)
    go false e ih =
        let l = ltb-false n 10 e in
        large (suc k) n l ∙ ap (λ (d : List ℕ). d ++ ((48 + n % 10) ∷ [])) ih ∙ sym (large (suc (suc k)) n l)

pub decimal_small : (n : ℕ) → n < 10 → decimal n ≡ (48 + n) ∷ []
unfolding decimal
decimal_small n h = small 19 n h

pub decimal_large : (n : ℕ) → n < 2 ^ 64 → 10 ≤ n → decimal n ≡ decimal (n / 10) ++ ((48 + n % 10) ∷ [])
unfolding decimal
decimal_large n f h = large 19 n h ∙ rw (enough 18 (n / 10) (omega arith))

-- a number below 10 ^ (k + 1) has at most k + 1 digits, whatever the bound j on them
few : (j k n : ℕ) → n < 10 ^ suc k → length (digits j n) ≤ suc k
few zero k n h = unfold digits in omega arith
few (suc j) zero n h = rw (small j n h) (omega arith)
few (suc j) (suc k) n h = go (ltb n 10) refl (few j k (n / 10) (omega arith))
  where
    go : (t : Bool) → ltb n 10 ≡ t → length (digits j (n / 10)) ≤ suc k → length (digits (suc j) n) ≤ suc (suc k)
    go true p ih = rw (small j n (ltb-true n 10 p)) (omega arith)
    go false p ih =
        rw (large j n (ltb-false n 10 p), length-append (digits j (n / 10)) ((48 + n % 10) ∷ [])) (omega arith)

pub at_most_twenty : (n : ℕ) → n < 2 ^ 64 → length (decimal n) ≤ 20
unfolding decimal
at_most_twenty n h = few 20 19 n (omega arith)

pub at_most_ten : (n : ℕ) → n < 2 ^ 32 → length (decimal n) ≤ 10
unfolding decimal
at_most_ten n h = few 20 9 n (omega arith)

pub at_most_five : (n : ℕ) → n < 2 ^ 16 → length (decimal n) ≤ 5
unfolding decimal
at_most_five n h = few 20 4 n (omega arith)

pub at_most_three : (n : ℕ) → n < 2 ^ 8 → length (decimal n) ≤ 3
unfolding decimal
at_most_three n h = few 20 2 n (omega arith)
