-- Laws of a list of checks: where none failed first, every one passed; and what holds of each number that may be told
-- holds of the one that is.
use Prim.Native.Nat.{ℕ}
use mathlib.Core.Path.{◌≡◌, refl}
use mathlib.Core.List.{List, [], ◌∷◌}
use mathlib.Core.Bool.{Bool, true, false, cond, not}
use borrow.Author.Tests.{eqb-false, not-true}
use lib.Dec.{eqb}
use Rattle.octets.specs.Lists.{all}
use Rattle.octets.specs.Checks.{Check, first_failed}
use Rattle.octets.proofs.Small.{both, chosen}

abbrev pub AllPassed : List Check → Type 0
AllPassed [] = Unit {0}
AllPassed (c ∷ cs) = (c.fails ≡ false) × AllPassed cs

abbrev pub refuses : Check → Bool
refuses c = not (eqb c.number 0)

one_passed : (c : Check) (rest : ℕ) → refuses c ≡ true → cond c.fails c.number rest ≡ 0
    → (c.fails ≡ false) × (rest ≡ 0)
one_passed c rest n e = go c.fails refl e
  where
    go : (f : Bool) → c.fails ≡ f → cond f c.number rest ≡ 0 → (c.fails ≡ false) × (rest ≡ 0)
    go true g e = absurd (eqb-false c.number 0 (not-true (eqb c.number 0) n) e)
    go false g e = (g, e)

pub all_passed : (cs : List Check) → all refuses cs ≡ true → first_failed cs ≡ 0 → AllPassed cs
all_passed [] n e = tt
all_passed (c ∷ cs) n e =
    let b = both (refuses c) (all refuses cs) n in
    let p = one_passed c (first_failed cs) b.0 e in
    (p.0, all_passed cs b.1 p.1)

-- P holds of each check's number where it fails, and of 0
abbrev pub EachFailed : (ℕ → Type 0) → List Check → Type 0
EachFailed P [] = P 0
EachFailed P (c ∷ cs) = (c.fails ≡ true → P c.number) × EachFailed P cs

pub first_failed_lem : (P : ℕ → Type 0) (cs : List Check) → EachFailed P cs → P (first_failed cs)
first_failed_lem P [] h = h
first_failed_lem P (c ∷ cs) h = chosen P c.fails h.0 (λ e. first_failed_lem P cs h.1)

-- the same for a test of numbers, which of a written list computes
pub numbers_pass : (f : ℕ → Bool) (cs : List Check) → f 0 ≡ true → all (λ (c : Check). f c.number) cs ≡ true
    → f (first_failed cs) ≡ true
numbers_pass f [] z e = z
numbers_pass f (c ∷ cs) z e =
    let b = both (f c.number) (all (λ (d : Check). f d.number) cs) e in
    chosen (λ (n : ℕ). f n ≡ true) c.fails (λ g. b.0) (λ g. numbers_pass f cs z b.1)
