-- What a number that was read tells. Assumes nothing.
use Prim.Native.Nat.{ℕ, ◌+◌, ◌-◌, ◌*◌, ◌^◌, ◌≤◌, ◌<◌}
use mathlib.Core.Path.{◌≡◌, refl, sym, ◌∙◌}
use mathlib.Core.Bool.{Bool, true, false, cond}
use mathlib.Core.List.{List, [], ◌∷◌}
use native.Mathlib.Omega.{arith}
use borrow.Author.Tests.{lt-ltb, le-ltb, ltb-true, ltb-false, eqb-false, leb-false}
use lib.Dec.{ltb, leb, eqb}
use Rattle.std.specs.Prelude.{Some, None}
use Rattle.std.proofs.lemmas.Option.{some_pair_parts}
use Rattle.leb128.specs.Leb128.{Decoded, more, decoded}

pub decoded_small : (b : ℕ) (bs : List ℕ) (at : ℕ) → b < 128 → decoded (b ∷ bs) at ≡ Some (b, at + 1)
unfolding decoded
decoded_small b bs at h = rw (lt-ltb b 128 h)

pub decoded_large : (b : ℕ) (bs : List ℕ) (at : ℕ) → 128 ≤ b → decoded (b ∷ bs) at ≡ more b (decoded bs (at + 1))
unfolding decoded
decoded_large b bs at h = rw (le-ltb b 128 h)

pub bad_is_none : {v n : ℕ} → ◌≡◌ {A = Decoded} None (Some (v, n)) → ⊥
bad_is_none e = let z : ◌≡◌ {A = ℕ} 0 1 = cc in omega arith

-- a group with more behind it
pub record More (b : ℕ) (r : Decoded) (v n w : ℕ) : Type 0 where
  pub rest : r ≡ Some (w, n)
  pub not_last : 0 < w
  pub in_width : w < 2 ^ 57
  pub value : v ≡ b - 128 + 128 * w

pub more_is : (b : ℕ) (r : Decoded) (v n : ℕ) → more b r ≡ Some (v, n) → (w : ℕ) × More b r v n w
more_is b None v n e = absurd (bad_is_none e)
more_is b (Some (w, m)) v n e = go (eqb w 0) refl (leb (2 ^ 57) w) refl e
  where
    go : (x : Bool) → eqb w 0 ≡ x → (y : Bool) → leb (2 ^ 57) w ≡ y
        → ◌≡◌ {A = Decoded} (cond x None (cond y None (Some (b - 128 + 128 * w, m)))) (Some (v, n))
        → (w' : ℕ) × More b (Some (w, m)) v n w'
    go true p y q h = absurd (bad_is_none h)
    go false p true q h = absurd (bad_is_none h)
    go false p false q h = (
      w,
      record {
        rest = rw (some_pair_parts _ _ _ _ h).1;
        not_last = omega (arith, eqb-false w 0 p);
        in_width = leb-false (2 ^ 57) w q;
        value = sym (some_pair_parts _ _ _ _ h).0;
      },
    )

-- the cases of a number that was read
pub data Found (b : ℕ) (bs : List ℕ) (at v n : ℕ) : Type 0 where
  last : b < 128 → v ≡ b → n ≡ at + 1 → Found b bs at v n
  further : 128 ≤ b → (w : ℕ) → More b (decoded bs (at + 1)) v n w → Found b bs at v n

pub found : (b : ℕ) (bs : List ℕ) (at v n : ℕ) → decoded (b ∷ bs) at ≡ Some (v, n) → Found b bs at v n
found b bs at v n e = go (ltb b 128) refl
  where
    go : (t : Bool) → ltb b 128 ≡ t → Found b bs at v n
    go true p =
        let l = ltb-true b 128 p in
        let f : ◌≡◌ {A = Decoded} (Some (b, at + 1)) (Some (v, n)) = sym (decoded_small b bs at l) ∙ e in
        let q = some_pair_parts _ _ _ _ f in
        last l (sym q.0) (sym q.1)
    go false p =
        let l = ltb-false b 128 p in
        let m = more_is b (decoded bs (at + 1)) v n (sym (decoded_large b bs at l) ∙ e) in
        further l m.0 m.1

pub nothing_found : (at : ℕ) {v n : ℕ} → decoded [] at ≡ Some (v, n) → ⊥
unfolding decoded
nothing_found at e = bad_is_none e

-- a number that was read from octets has at most 64 bits
pub bounded : (b : ℕ) (bs : List ℕ) (at v n : ℕ) → b < 256 → decoded (b ∷ bs) at ≡ Some (v, n) → v < 2 ^ 64
bounded b bs at v n h e = go (found b bs at v n e)
  where
    go : Found b bs at v n → v < 2 ^ 64
    go (last l p q) = omega arith
    go (further l w m) = omega arith
