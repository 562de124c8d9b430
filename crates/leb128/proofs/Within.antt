-- Reading within a number of octets, step by step, and that nine behind the first are enough. Assumes nothing.
use Prim.Native.Nat.{ℕ, zero, suc, ◌+◌, ◌-◌, ◌^◌, ◌≤◌, ◌<◌}
use mathlib.Core.Path.{◌≡◌, refl, sym, ◌∙◌, ap}
use mathlib.Core.Bool.{Bool, true, false}
use mathlib.Core.List.{List, [], ◌∷◌}
use mathlib.Core.Logic.{◌⊎◌, inl, inr, ⊎_elim}
use native.Mathlib.Omega.{arith}
use native.Mathlib.Numerals.{add-one}
use borrow.Author.Tests.{lt-ltb, le-ltb, ltb-true, ltb-false, ne_eqb, lt-leb}
use lib.Dec.{ltb}
use lib.ListN.{length, get_or, drop, drop_of_length-le}
use lib.Seq.{drop-cons}
use Rattle.leb128.specs.Leb128.{more, decoded}
use Rattle.leb128.specs.Within.{read_within}
use Rattle.leb128.proofs.Read.{decoded_small, decoded_large, Found, last, further, found, nothing_found, bounded}
use Rattle.leb128.specs.Leb128.{Decoded}
use Rattle.std.specs.Prelude.{Some, None}

small : (k b : ℕ) (bs : List ℕ) (at : ℕ) → b < 128 → read_within k (b ∷ bs) at ≡ Some (b, at + 1)
unfolding read_within
small zero b bs at h = rw (lt-ltb b 128 h)
small (suc k) b bs at h = rw (lt-ltb b 128 h)

large_none : (b : ℕ) (bs : List ℕ) (at : ℕ) → 128 ≤ b → read_within zero (b ∷ bs) at ≡ None
unfolding read_within
large_none b bs at h = rw (le-ltb b 128 h)

large : (k b : ℕ) (bs : List ℕ) (at : ℕ) → 128 ≤ b → read_within (suc k) (b ∷ bs) at ≡ more b (read_within k bs (at + 1))
unfolding read_within
large k b bs at h = rw (le-ltb b 128 h)

pub at_end : (s : List ℕ) (k at : ℕ) → length s ≤ at → read_within k (drop at s) at ≡ None
unfolding read_within
at_end s k at h = rw (drop_of_length-le s h)

-- the octet b stands at `at`
module _ (s : List ℕ) (at : ℕ) (h : at < length s) (b : ℕ) (e : b ≡ get_or s at 0) where
  pub at_small : (k : ℕ) → b < 128 → read_within k (drop at s) at ≡ Some (b, at + 1)
  at_small k l = rw (drop-cons s at 0 h, ← e) (small k b (drop (suc at) s) at l)

  pub at_none : (k : ℕ) → k ≡ 0 → 128 ≤ b → read_within k (drop at s) at ≡ None
  at_none k z l = rw (z, drop-cons s at 0 h, ← e) (large_none b (drop (suc at) s) at l)

  pub at_more : (k : ℕ) → (k ≡ 0 → ⊥) → 128 ≤ b
      → read_within k (drop at s) at ≡ more b (read_within (k - 1) (drop (at + 1) s) (at + 1))
  at_more k n l =
      let z : k ≡ suc (k - 1) = omega arith in
      ap (λ (j : ℕ). read_within j (drop at s) at) z ∙ rw (drop-cons s at 0 h, ← e)
      (large (k - 1) b (drop (suc at) s) at l ∙ rw (add-one at))

-- ---- nine octets behind the first are enough
-- what is read within a bound is what stands there, if anything
either : (k : ℕ) (s : List ℕ) (at : ℕ) → (read_within k s at ≡ None) ⊎ (read_within k s at ≡ decoded s at)
either k [] at = unfold read_within decoded in inr refl
either zero (b ∷ bs) at = go (ltb b 128) refl
  where
    go : (t : Bool) → ltb b 128 ≡ t
        → (read_within zero (b ∷ bs) at ≡ None) ⊎ (read_within zero (b ∷ bs) at ≡ decoded (b ∷ bs) at)
    go true p = let l = ltb-true b 128 p in inr (small zero b bs at l ∙ sym (decoded_small b bs at l))
    go false p = inl (large_none b bs at (ltb-false b 128 p))
either (suc k) (b ∷ bs) at = go (ltb b 128) refl (either k bs (at + 1))
  where
    go : (t : Bool) → ltb b 128 ≡ t
        → (read_within k bs (at + 1) ≡ None) ⊎ (read_within k bs (at + 1) ≡ decoded bs (at + 1))
        → (read_within (suc k) (b ∷ bs) at ≡ None) ⊎ (read_within (suc k) (b ∷ bs) at ≡ decoded (b ∷ bs) at)
    go true p h = let l = ltb-true b 128 p in inr (small (suc k) b bs at l ∙ sym (decoded_small b bs at l))
    go false p (inl e) = inl (large k b bs at (ltb-false b 128 p) ∙ rw e)
    go false p (inr e) = let l = ltb-false b 128 p in inr (large k b bs at l ∙ rw e (sym (decoded_large b bs at l)))

-- a number below 128 ^ (k + 1) is read with k octets behind the first
within : (s : List ℕ) (k at v n : ℕ) → decoded s at ≡ Some (v, n) → v < 128 ^ suc k → read_within k s at ≡ Some (v, n)
within [] k at v n e l = absurd (nothing_found at e)
within (b ∷ bs) k at v n e l = go k l (found b bs at v n e) (λ j w h m. within bs j (at + 1) w n h m)
  where
    go : (k : ℕ) → v < 128 ^ suc k → Found b bs at v n
        → ((j w : ℕ) → decoded bs (at + 1) ≡ Some (w, n) → w < 128 ^ suc j → read_within j bs (at + 1) ≡ Some (w, n))
        → read_within k (b ∷ bs) at ≡ Some (v, n)
    go k h (last l p q) ih = small k b bs at l ∙ cc
    go zero h (further l w m) ih = let p = m.value in let q = m.not_last in absurd (omega arith)
    go (suc k) h (further l w m) ih =
        let p = m.value in
        large k b bs at l ∙ rw (
          ih k w m.rest (omega arith),
          ne_eqb w 0 (omega (arith, m.not_last)),
          lt-leb (2 ^ 57) w m.in_width,
          m.value,
        )

pub limited : (b : ℕ) (bs : List ℕ) (at : ℕ) → b < 256 → read_within 9 (b ∷ bs) at ≡ decoded (b ∷ bs) at
limited b bs at h = go (decoded (b ∷ bs) at) refl
  where
    go : (r : Decoded) → decoded (b ∷ bs) at ≡ r → read_within 9 (b ∷ bs) at ≡ r
    go None e = ⊎_elim (λ p. p) (λ p. p ∙ e) (either 9 (b ∷ bs) at)
    go (Some (v, n)) e = within (b ∷ bs) 9 at v n e (omega (arith, bounded b bs at v n h e))

pub enough : (s : List ℕ) (at : ℕ) → get_or s at 0 < 256 → read_within 9 (drop at s) at ≡ decoded (drop at s) at
enough s at h = go (ltb at (length s)) refl
  where
    go : (t : Bool) → ltb at (length s) ≡ t → read_within 9 (drop at s) at ≡ decoded (drop at s) at
    go true p = rw (drop-cons s at 0 (ltb-true at (length s) p)) (limited (get_or s at 0) (drop (suc at) s) at h)
    go false p = unfold read_within decoded in rw (drop_of_length-le s (ltb-false at (length s) p))
