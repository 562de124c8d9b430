-- The bits of two lists by their octets: those of whole octets, and the first of one octet.
use Prim.Native.Nat.{ℕ, zero, suc, ◌+◌, ◌-◌, ◌*◌, ◌/◌, ◌%◌, ◌^◌, ◌<◌, ◌≤◌}
use mathlib.Core.Path.{◌≡◌, refl, sym, ◌∙◌}
use mathlib.Core.List.{List}
use mathlib.Core.Bool.{Bool, true, false, false≢true}
use native.Mathlib.Nat.{add-zero, add-suc}
use native.Mathlib.Omega.{arith}
use native.Mathlib.Decide.{dec_lt}
use borrow.Author.Tests.{eq-eqb, ne_eqb, eqb-true}
use lib.Dec.{eqb}
use lib.ListN.{get_or}
use Rattle.octets.specs.Lists.{all_below}
use Rattle.octets.proofs.Below.{one_fails}
use Rattle.prefix.specs.Prefix.{bit_at, same_bit, prefix_matches}

-- what holds of every number below n holds of each
each : (f : ℕ → Bool) (n i : ℕ) → all_below f n ≡ true → i < n → f i ≡ true
each f n i h l = go (f i) refl
  where
    go : (b : Bool) → f i ≡ b → b ≡ true
    go true e = refl
    go false e = absurd (false≢true (sym (one_fails f i n l e) ∙ h))

-- a test of two numbers that says the same as another one
pub told : (x y : ℕ) (r : Bool) → (x ≡ y → r ≡ true) → (r ≡ true → x ≡ y) → eqb x y ≡ r
told x y true h g = eq-eqb x y (g refl)
told x y false h g = ne_eqb x y (λ e. false≢true (h e))

-- a test that cannot hold is false
pub denied : (r : Bool) → (r ≡ true → ⊥) → r ≡ false
denied true h = absurd (h refl)
denied false h = refl

-- bit k of an octet, and the number that n bits make
abbrev bit_of : ℕ → ℕ → ℕ
bit_of x k = x / 2 ^ (7 - k) % 2

abbrev made : (ℕ → ℕ) → ℕ → ℕ
made f zero = 0
made f (suc n) = made f n * 2 + f n

made_same : (f g : ℕ → ℕ) (n : ℕ) → ((k : ℕ) → k < n → f k ≡ g k) → made f n ≡ made g n
made_same f g zero e = refl
made_same f g (suc n) e = rw (e n (omega arith), made_same f g n (λ k l. e k (omega arith)))

-- the bits are told by what they make
made_each : (f g : ℕ → ℕ) (n : ℕ) → ((k : ℕ) → f k < 2) → ((k : ℕ) → g k < 2) → made f n ≡ made g n
    → (k : ℕ) → k < n → f k ≡ g k
made_each f g zero s t e k l = absurd (omega arith)
made_each f g (suc n) s t e k l = go (dec_lt k n) (made_each f g n s t (omega (arith, e, s n, t n)) k)
  where
    go : Dec (k < n) → (k < n → f k ≡ g k) → f k ≡ g k
    go (yes h) r = r h
    go (no h) r = let here : k ≡ n = omega arith in rw here (omega (arith, e, s n, t n))

-- what is left of an octet without its lower bits is what its upper bits make: one test, computed over all octets
made_upper : (x r : ℕ) → x < 256 → r < 9 → made (bit_of x) r ≡ x / 2 ^ (8 - r)
made_upper x r h l =
    eqb-true _ _
    (each (λ r. eqb (made (bit_of x) r) (x / 2 ^ (8 - r))) 9 r
    (each (λ x. all_below (λ r. eqb (made (bit_of x) r) (x / 2 ^ (8 - r))) 9) 256 x refl h) l)

bit_small : (x k : ℕ) → bit_of x k < 2
bit_small x k = omega arith

-- Octet i of two lists.
module _ (a b : List ℕ) (i : ℕ) where
  -- its first r bits
  more : all_below (same_bit a b) (i * 8) ≡ true → (r : ℕ) → r ≤ 8
      → ((k : ℕ) → k < r → bit_of (get_or a i 0) k ≡ bit_of (get_or b i 0) k) → all_below (same_bit a b) (i * 8 + r) ≡ true
  more h zero l e = rw add-zero h
  more h (suc r) l e =
      let here : (i * 8 + r) / 8 ≡ i = omega arith in
      let low : (i * 8 + r) % 8 ≡ r = omega arith in
      let same : bit_at a (i * 8 + r) ≡ bit_at b (i * 8 + r) = rw (here, low) (e r (omega arith)) in
      rw (add-suc, eq-eqb _ _ same) (more h r (omega arith) (λ k u. e k (omega arith)))

  pub same_octet : prefix_matches a (i * 8) b ≡ true → get_or a i 0 ≡ get_or b i 0 → prefix_matches a ((i + 1) * 8) b ≡ true
  unfolding prefix_matches
  same_octet h e =
      let next : (i + 1) * 8 ≡ i * 8 + 8 = omega arith in
      rw next (more h 8 (omega arith) (λ k l. rw e))

  -- where a prefix of n bits has the octet's first r
  same_bit_lem : (n r : ℕ) → r ≤ 8 → i * 8 + r ≤ n → all_below (same_bit a b) n ≡ true
      → (k : ℕ) → k < r → bit_of (get_or a i 0) k ≡ bit_of (get_or b i 0) k
  same_bit_lem n r s within h k l =
      let here : (i * 8 + k) / 8 ≡ i = omega arith in
      let low : (i * 8 + k) % 8 ≡ k = omega arith in
      let same : bit_at a (i * 8 + k) ≡ bit_at b (i * 8 + k) =
      eqb-true _ _ (each (same_bit a b) n (i * 8 + k) h (omega arith)) in
      rw (here, low) at same

  module _ (s : get_or a i 0 < 256) (t : get_or b i 0 < 256) where
    -- the octet without its lower bits
    upper_same : (n r : ℕ) → r ≤ 8 → i * 8 + r ≤ n → prefix_matches a n b ≡ true
        → get_or a i 0 / 2 ^ (8 - r) ≡ get_or b i 0 / 2 ^ (8 - r)
    unfolding prefix_matches
    upper_same n r l within h =
        sym (made_upper _ r s (omega arith)) ∙ made_same _ _ r (same_bit_lem n r l within h)
        ∙ made_upper _ r t (omega arith)

    pub octet_same : (n : ℕ) → i * 8 + 8 ≤ n → prefix_matches a n b ≡ true → get_or a i 0 ≡ get_or b i 0
    octet_same n within h = let e = upper_same n 8 (omega arith) within h in omega (arith, e)

    pub octet_other : (n : ℕ) → i * 8 + 8 ≤ n → (get_or a i 0 ≡ get_or b i 0 → ⊥) → prefix_matches a n b ≡ false
    octet_other n within differ = denied _ (λ h. differ (octet_same n within h))

    upper_has : (r : ℕ) → r ≤ 8 → prefix_matches a (i * 8) b ≡ true
        → get_or a i 0 / 2 ^ (8 - r) ≡ get_or b i 0 / 2 ^ (8 - r) → prefix_matches a (i * 8 + r) b ≡ true
    unfolding prefix_matches
    upper_has r l h e =
        more h r l
        (made_each _ _ r (bit_small _) (bit_small _)
        (made_upper _ r s (omega arith) ∙ e ∙ sym (made_upper _ r t (omega arith))))

    -- the bits of the octet in which a prefix ends
    pub end_told : (r : ℕ) → r ≤ 8 → prefix_matches a (i * 8) b ≡ true
        → eqb (get_or a i 0 / 2 ^ (8 - r)) (get_or b i 0 / 2 ^ (8 - r)) ≡ prefix_matches a (i * 8 + r) b
    end_told r l h = told _ _ _ (upper_has r l h) (upper_same (i * 8 + r) r l (omega arith))

-- whole octets
pub whole : (a b : List ℕ) (n : ℕ) → ((k : ℕ) → k < n → get_or a k 0 ≡ get_or b k 0) → prefix_matches a (n * 8) b ≡ true
unfolding prefix_matches
whole a b zero e = refl
whole a b (suc n) e =
    let next : suc n ≡ n + 1 = omega arith in
    rw next (same_octet a b n (whole a b n (λ k l. e k (omega arith))) (e n (omega arith)))

-- a prefix that does not match, made longer
fewer : (f : ℕ → Bool) (n m : ℕ) → all_below f n ≡ true → m ≤ n → all_below f m ≡ true
fewer f n zero h l = refl
fewer f n (suc m) h l = rw (each f n m h (omega arith), fewer f n m h (omega arith))

pub longer_other : (a b : List ℕ) (m n : ℕ) → m ≤ n → prefix_matches a m b ≡ false → prefix_matches a n b ≡ false
unfolding prefix_matches
longer_other a b m n l e = denied _ (λ h. false≢true (sym e ∙ fewer (same_bit a b) n m h l))
