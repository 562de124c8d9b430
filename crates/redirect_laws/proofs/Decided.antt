-- One decision: the number told is the least that applies, and what becomes of the record.
use Prim.Native.Nat.{ℕ, ◌-◌, ◌≤◌, min}
use mathlib.Core.Path.{◌≡◌, refl, sym, ◌∙◌}
use mathlib.Core.List.{List, [], ◌∷◌, ◌++◌}
use mathlib.Core.Bool.{Bool, true, false, cond, ◌&&◌, ◌||◌, true≢false, false≢true}
use native.Mathlib.Omega.{arith}
use borrow.Author.Tests.{eq-eqb, ne_eqb, eqb-true, eqb-false, leb-true}
use lib.Dec.{eqb, leb}
use lib.ListN.{length, take, replicate, length-drop}
use lib.Seq.{take-length, take-append_seam}
use Rattle.octets.specs.Checks.{Check, first_failed}
use Rattle.octets.specs.Lists.{all}
use Rattle.octets.proofs.Checks.{refuses, AllPassed, all_passed}
use Rattle.octets.proofs.Small.{both}
use Rattle.redirecting.specs.Limits.{redirects_most}
use Rattle.redirecting.specs.Times.{kept, last_of, keeping}
use Rattle.deciding_redirects.specs.Decision.{Asked, decision_checks, decision_number, after_number, after_decision}
use Rattle.redirecting.specs.declared.times.Accepted.{Accepted}
use Rattle.redirect_laws.specs.Decided.{applies, Decides}

-- the numbers of a table are not 0, and rise
abbrev Ordered : List Check → Bool
Ordered [] = true
Ordered (c ∷ cs) = refuses c && (all (λ (d : Check). leb c.number d.number) cs && Ordered cs)

-- none of those with greater numbers has this one
later : (n m : ℕ) (cs : List Check) → all (λ (d : Check). leb m d.number) cs ≡ true → applies n cs ≡ true → m ≤ n
later n m [] h e = absurd (false≢true e)
later n m (c ∷ cs) h e = go c.fails (eqb c.number n) refl (both (leb m c.number) _ h) e (later n m cs)
  where
    go : (f s : Bool) → eqb c.number n ≡ s
        → (leb m c.number ≡ true) × (all (λ (d : Check). leb m d.number) cs ≡ true)
        → (f && s) || applies n cs ≡ true
        → (all (λ (d : Check). leb m d.number) cs ≡ true → applies n cs ≡ true → m ≤ n) → m ≤ n
    go true true q h e r = omega (arith, leb-true m c.number h.0, eqb-true c.number n q)
    go true false q h e r = r h.1 e
    go false s q h e r = r h.1 e

least : (n : ℕ) (cs : List Check) → Ordered cs ≡ true → applies n cs ≡ true → first_failed cs ≤ n
least n [] o e = absurd (false≢true e)
least n (c ∷ cs) o e =
    let p = both (refuses c) _ o in
    let q = both (all (λ (d : Check). leb c.number d.number) cs) (Ordered cs) p.1 in
    go c.fails (eqb c.number n) refl q.0 e (least n cs q.1)
  where
    go : (f s : Bool) → eqb c.number n ≡ s → all (λ (d : Check). leb c.number d.number) cs ≡ true
        → (f && s) || applies n cs ≡ true → (applies n cs ≡ true → first_failed cs ≤ n)
        → cond f c.number (first_failed cs) ≤ n
    go true true q a e r = omega (arith, eqb-true c.number n q)
    go true false q a e r = later n c.number cs a e
    go false s q a e r = r e

holds : (cs : List Check) → (first_failed cs ≡ 0 → ⊥) → applies (first_failed cs) cs ≡ true
holds [] z = absurd (z refl)
holds (c ∷ cs) z = go c.fails z (holds cs)
  where
    go : (f : Bool) → (cond f c.number (first_failed cs) ≡ 0 → ⊥)
        → ((first_failed cs ≡ 0 → ⊥) → applies (first_failed cs) cs ≡ true)
        → let n = cond f c.number (first_failed cs) in
        (f && eqb c.number n) || applies n cs ≡ true
    go true z r = rw (eq-eqb c.number c.number refl)
    go false z r = r z

-- where all passed, nothing applies
none : (n : ℕ) (cs : List Check) → AllPassed cs → applies n cs ≡ false
none n [] p = refl
none n (c ∷ cs) p = rw p.0 (none n cs p.1)

module _ (heard : List ℕ) (a : Asked) where
  abbrev table : List Check
  table = decision_checks heard a

  accepted : ((n : ℕ) → applies n table ≡ false) → decision_number heard a ≡ 0
  unfolding decision_number
  accepted h = go (eqb (first_failed table) 0) refl
    where
      go : (b : Bool) → eqb (first_failed table) 0 ≡ b → first_failed table ≡ 0
      go true e = eqb-true (first_failed table) 0 e
      go false e =
          let yes = holds table (eqb-false (first_failed table) 0 e) in
          absurd (true≢false (sym yes ∙ h (first_failed table)))

  none_applies : decision_number heard a ≡ 0 → (n : ℕ) → applies n table ≡ false
  unfolding decision_number
  none_applies e n = none n table (all_passed table refl e)

  told_applies : (decision_number heard a ≡ 0 → ⊥) → applies (decision_number heard a) table ≡ true
  unfolding decision_number
  told_applies z = holds table z

  told_least : (n : ℕ) → applies n table ≡ true → decision_number heard a ≤ n
  unfolding decision_number
  told_least n e = least n table refl e

module _ (r : Accepted) (a : Asked) where
  pub keeps : decision_number (kept r) a ≡ 0 → after_decision r a ≡ keeping r a.time
  unfolding after_number
  keeps e = rw (eq-eqb (decision_number (kept r) a) 0 e)

  pub changes_none : (decision_number (kept r) a ≡ 0 → ⊥) → after_decision r a ≡ r
  unfolding after_number
  changes_none e = rw (ne_eqb (decision_number (kept r) a) 0 e)

-- the record keeps the last five
pub kept_last : (r : Accepted) (time : ℕ) → kept (keeping r time) ≡ last_of redirects_most (kept r ++ time ∷ [])
unfolding keeping
kept_last r time = go (last_of redirects_most (kept r ++ time ∷ [])) short
  where
    short : length (last_of redirects_most (kept r ++ time ∷ [])) ≤ redirects_most
    short = simp length-drop (omega arith)

    go : (l : List ℕ) → length l ≤ redirects_most
        → take (min (length l) redirects_most) (take (length l) l ++ replicate (redirects_most - length l) 0) ≡ l
    go l h =
        let m : min (length l) redirects_most ≡ length l = omega arith in
        rw (m, take-length l) (take-append_seam l (replicate (redirects_most - length l) 0))

pub decides : Decides
decides =
    record {
      accepted = accepted;
      none_applies = none_applies;
      told_applies = told_applies;
      told_least = told_least;
      keeps = λ r a e. rw (keeps r a e) (kept_last r a.time);
      changes_none = changes_none;
    }
