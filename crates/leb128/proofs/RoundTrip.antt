-- Writing and reading a number undo each other. Assumes nothing.
use Prim.Native.Nat.{ℕ, zero, suc, ◌+◌, ◌-◌, ◌*◌, ◌/◌, ◌%◌, ◌^◌, ◌≤◌, ◌<◌}
use mathlib.Core.Path.{◌≡◌, refl, sym, ◌∙◌, ap}
use mathlib.Core.Bool.{Bool, true, false}
use mathlib.Core.List.{List, [], ◌∷◌, ◌++◌}
use native.Mathlib.Omega.{arith}
use borrow.Author.Tests.{ltb-true, ltb-false, ne_eqb, lt-leb}
use lib.Dec.{ltb}
use lib.ListN.{length, drop}
use Rattle.leb128.specs.Leb128.{decoded, groups, octets_of, more}
use Rattle.leb128.specs.RoundTrips.{Octets, Begins, RoundTrips}
use Rattle.leb128.proofs.Octets.{groups_small, groups_large}
use Rattle.leb128.proofs.Read.{decoded_small, decoded_large, Found, last, further, found, nothing_found}
use Rattle.leb128.proofs.Read.{bad_is_none, bounded}
use Rattle.leb128.specs.Leb128.{Decoded}
use Rattle.std.specs.Prelude.{Some, None}

-- ---- a written number is read
more_of : (n m : ℕ) → n < 2 ^ 64 → 128 ≤ n → more (128 + n % 128) (Some (n / 128, m)) ≡ Some (n, m)
more_of n m f h =
    let e : 128 + n % 128 - 128 + 128 * (n / 128) ≡ n = omega arith in
    rw (ne_eqb (n / 128) 0 (omega arith), lt-leb (2 ^ 57) (n / 128) (omega arith), e)

reads : (k n at : ℕ) (rest : List ℕ) → n < 128 ^ suc k → n < 2 ^ 64
    → decoded (groups (suc k) n ++ rest) at ≡ Some (n, at + length (groups (suc k) n))
reads zero n at rest l f = rw (groups_small 0 n l) (decoded_small n rest at l)
reads (suc k) n at rest l f = go (ltb n 128) refl (reads k (n / 128) (at + 1) rest (omega arith) (omega arith))
  where
    go : (t : Bool) → ltb n 128 ≡ t
        → decoded (groups (suc k) (n / 128) ++ rest) (at + 1) ≡ Some (n / 128, at + 1 + length (groups (suc k) (n / 128)))
        → decoded (groups (suc (suc k)) n ++ rest) at ≡ Some (n, at + length (groups (suc (suc k)) n))
    go true p ih = let h = ltb-true n 128 p in rw (groups_small (suc k) n h) (decoded_small n rest at h)
    go false p ih =
        let h = ltb-false n 128 p in
        let e : at + 1 + length (groups (suc k) (n / 128)) ≡ at + suc (length (groups (suc k) (n / 128))) =
        omega arith in
        rw (groups_large (suc k) n h)
        (decoded_large (128 + n % 128) (groups (suc k) (n / 128) ++ rest) at (omega arith) ∙ rw (ih, e)
        (more_of n _ f h))

-- ---- a number that was read is written so again
back : (s : List ℕ) (k at v n : ℕ) → Octets s → v < 128 ^ suc k → decoded s at ≡ Some (v, n)
    → (n ≡ at + length (groups (suc k) v)) × (s ≡ groups (suc k) v ++ drop (n - at) s)
back [] k at v n o l e = absurd (nothing_found at e)
back (b ∷ bs) k at v n o l e = go k l (found b bs at v n e) (λ j w h m. back bs j (at + 1) w n (λ i. o (suc i)) m h)
  where
    go : (k : ℕ) → v < 128 ^ suc k → Found b bs at v n
        → ((j w : ℕ) → decoded bs (at + 1) ≡ Some (w, n) → w < 128 ^ suc j
        → (n ≡ at + 1 + length (groups (suc j) w)) × (bs ≡ groups (suc j) w ++ drop (n - (at + 1)) bs))
        → (n ≡ at + length (groups (suc k) v)) × (b ∷ bs ≡ groups (suc k) v ++ drop (n - at) (b ∷ bs))
    go k h (last l p q) ih =
        let d : n - at ≡ 1 = omega arith in
        rw (d, groups_small k v (omega arith), p) (q, refl)
    go zero h (further l w m) ih = let p = m.value in let q = m.not_last in absurd (omega arith)
    go (suc k) h (further l w m) ih =
        let p = m.value in
        let q = m.not_last in
        let i = ih k w m.rest (omega arith) in
        let i0 = i.0 in
        let d : n - at ≡ suc (n - (at + 1)) = omega arith in
        let f : v / 128 ≡ w = omega (arith, o 0) in
        let g : 128 + v % 128 ≡ b = omega (arith, o 0) in
        rw (d, groups_large (suc k) v (omega arith), f, g) (omega arith, ap (λ (x : List ℕ). b ∷ x) i.1)

in_width : (s : List ℕ) (at v n : ℕ) → Octets s → decoded s at ≡ Some (v, n) → v < 2 ^ 64
in_width [] at v n o e = absurd (nothing_found at e)
in_width (b ∷ bs) at v n o e = bounded b bs at v n (o 0) e

module _ (s : List ℕ) (at : ℕ) where
  refused_none : decoded s at ≡ None → Begins s → ⊥
  unfolding octets_of
  refused_none e b =
      let n = b.number in
      let r : decoded s at ≡ Some (n, at + length (groups 10 n)) =
      rw b.octets (reads 9 n at b.rest (omega (arith, b.fits)) b.fits) in
      bad_is_none (sym e ∙ r)

  none_is_bad : Octets s → (Begins s → ⊥) → decoded s at ≡ None
  unfolding octets_of
  none_is_bad o none = go (decoded s at) refl
    where
      go : (r : Decoded) → decoded s at ≡ r → decoded s at ≡ None
      go None e = e
      go (Some (v, n)) e =
          let w = in_width s at v n o e in
          let b = back s 9 at v n o (omega arith) e in
          absurd (none (record { number = v; rest = drop (n - at) s; fits = w; octets = b.1 }))

pub round_trips : RoundTrips
unfolding octets_of
round_trips =
    record {
      reads_written = λ n at rest l. reads 9 n at rest (omega arith) l;
      writes_read = λ s at v n o e.
          let w = in_width s at v n o e in let b = back s 9 at v n o (omega arith) e in (w, b.0, b.1);
      refused = refused_none;
      none_refused = none_is_bad;
    }
