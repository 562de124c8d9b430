-- What a test chooses between two values.
use Rattle.std.proofs.Common.{◌≡◌, refl, ℕ, Bool, true, false, cond}
use borrow.Author.Tests.{eqb-true, eqb-false}
use lib.Dec.{eqb}

pub chosen : {X : Type 0} (y : Bool) (u w : X) → y ≡ true → u ≡ cond y u w
chosen true u w h = refl
chosen false u w h = cc

pub left : {X : Type 0} (y : Bool) (u w : X) → y ≡ false → w ≡ cond y u w
left true u w h = cc
left false u w h = refl

-- what changes only a record in use that passes a test, where the test fails
pub unchanged : {X : Type 0} (z y : Bool) (u w : X) → y ≡ false → u ≡ cond z u (cond y w u)
unchanged true y u w h = refl
unchanged false y u w h = left y w u h

-- what a call comes to by the number of its checks: P where none refuses, Q where one does
pub record Decided (number : ℕ) (P Q : Type 0) : Type 0 where
  pub passed : number ≡ 0 → P
  pub refused : (number ≡ 0 → ⊥) → Q

module _ {R : Type 0} (number : ℕ) (done kept : R) (P Q : R → Type 0) where
  pub decided : P done → Q kept → Decided number (P (cond (eqb number 0) done kept)) (Q (cond (eqb number 0) done kept))
  decided p q = go (eqb number 0) refl
    where
      go : (b : Bool) → eqb number 0 ≡ b → Decided number (P (cond b done kept)) (Q (cond b done kept))
      go true e = record { passed = λ z. p; refused = λ n. absurd (n (eqb-true number 0 e)) }
      go false e = record { passed = λ z. absurd (eqb-false number 0 e z); refused = λ n. q }
