-- The first eight octets and the last eight cover them all.
use Rattle.std.proofs.Common.{rules, ℕ, ◌≡◌, ◌∙◌, sym, get_or, Fits, w8}
use Rattle.std.proofs.lemmas.Bool.{ne_eqb}
use Rattle.prefix.specs.Eights.{eight_at}
use Rattle.prefix.proofs.Windows.{first_other, last_told}
use Rattle.prefix.proofs.prefix.octets_match.Goals as goal

pub returns-then-eight_at : goal.returns-then-eight_at
returns-then-eight_at c =
    let a = c.args in
    let s : (k : ℕ) → Fits w8 (get_or a.prefix k 0) = search rules in
    let t : (k : ℕ) → Fits w8 (get_or a.octets k 0) = search rules in
    let first : eight_at a.prefix 0 ≡ eight_at a.octets 0 =
    sym c.eight_at.ensures ∙ c.if-eight_at.true ∙ c.eight_at-2.ensures in
    rw (c.eight_at-then-eight_at.ensures, c.eight_at-then-eight_at-2.ensures)
    (last_told a.prefix a.octets (λ k. (s k).fits) (λ k. (t k).fits) a.n c.if-n-lt8.false c.requires first)

pub returns-else-eight_at : goal.returns-else-eight_at
returns-else-eight_at c =
    let a = c.args in
    let s : (k : ℕ) → Fits w8 (get_or a.prefix k 0) = search rules in
    let t : (k : ℕ) → Fits w8 (get_or a.octets k 0) = search rules in
    let differ : eight_at a.prefix 0 ≡ eight_at a.octets 0 → ⊥ =
    λ e. c.if-eight_at.false (c.eight_at.ensures ∙ e ∙ sym c.eight_at-2.ensures) in
    ne_eqb _ _ c.if-eight_at.false
    ∙ sym (first_other a.prefix a.octets (λ k. (s k).fits) (λ k. (t k).fits) a.n c.if-n-lt8.false c.requires differ)
