-- The octets of a number, step by step. Assumes nothing.
use Prim.Native.Nat.{ℕ, zero, suc, ◌+◌, ◌/◌, ◌%◌, ◌^◌, ◌≤◌, ◌<◌}
use mathlib.Core.Path.{◌≡◌, refl, sym, ◌∙◌, ap}
use mathlib.Core.Bool.{Bool, true, false}
use mathlib.Core.List.{List, [], ◌∷◌}
use native.Mathlib.Omega.{arith}
use borrow.Author.Tests.{lt-ltb, le-ltb, ltb-true, ltb-false}
use lib.Dec.{ltb}
use lib.ListN.{length}
use Rattle.leb128.specs.Leb128.{groups, octets_of}

pub groups_small : (k n : ℕ) → n < 128 → groups (suc k) n ≡ n ∷ []
unfolding groups
groups_small k n h = rw (lt-ltb n 128 h)

pub groups_large : (k n : ℕ) → 128 ≤ n → groups (suc k) n ≡ (128 + n % 128) ∷ groups k (n / 128)
unfolding groups
groups_large k n h = rw (le-ltb n 128 h)

-- more groups than hold the number change nothing
enough_step : (k n : ℕ) → groups k (n / 128) ≡ groups (suc k) (n / 128) → groups (suc k) n ≡ groups (suc (suc k)) n
enough_step k n ih = go (ltb n 128) refl
  where
    go : (b : Bool) → ltb n 128 ≡ b → groups (suc k) n ≡ groups (suc (suc k)) n
    go true e = groups_small k n (ltb-true n 128 e) ∙ sym (groups_small (suc k) n (ltb-true n 128 e))
    go false e =
        groups_large k n (ltb-false n 128 e) ∙ ap (λ (l : List ℕ). (128 + n % 128) ∷ l) ih ∙ sym
        (groups_large (suc k) n (ltb-false n 128 e))

pub groups_enough : (k n : ℕ) → n < 128 ^ suc k → groups (suc k) n ≡ groups (suc (suc k)) n
groups_enough zero n h = groups_small 0 n h ∙ sym (groups_small 1 n h)
groups_enough (suc k) n h = enough_step (suc k) n (groups_enough k (n / 128) (omega arith))

pub octets_small : (n : ℕ) → n < 128 → octets_of n ≡ n ∷ []
unfolding octets_of
octets_small n h = groups_small 9 n h

pub octets_large : (n : ℕ) → n < 2 ^ 64 → 128 ≤ n → octets_of n ≡ (128 + n % 128) ∷ octets_of (n / 128)
unfolding octets_of
octets_large n f h = groups_large 9 n h ∙ rw (groups_enough 8 (n / 128) (omega arith))

few : (k n : ℕ) → length (groups k n) ≤ k
few zero n = unfold groups in omega arith
few (suc k) n = go (ltb n 128) refl (few k (n / 128))
  where
    go : (t : Bool) → ltb n 128 ≡ t → length (groups k (n / 128)) ≤ k → length (groups (suc k) n) ≤ suc k
    go true p ih = rw (groups_small k n (ltb-true n 128 p)) (omega arith)
    go false p ih = rw (groups_large k n (ltb-false n 128 p)) (omega arith)

pub at_most_ten : (n : ℕ) → length (octets_of n) ≤ 10
unfolding octets_of
at_most_ten n = few 10 n

pub at_least_one : (n : ℕ) → 0 < length (octets_of n)
unfolding octets_of
at_least_one n = go (ltb n 128) refl
  where
    go : (t : Bool) → ltb n 128 ≡ t → 0 < length (groups 10 n)
    go true p = rw (groups_small 9 n (ltb-true n 128 p)) (omega arith)
    go false p = rw (groups_large 9 n (ltb-false n 128 p)) (omega arith)
