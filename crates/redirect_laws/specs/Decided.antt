-- Trusted. What is claimed of one decision (02, E7): "It is accepted exactly if no refusal applies; the display's
-- record keeps its time"; "Refusals, in order: ...; none changes the record". `decides` in `proofs/Decided.antt` proves
-- it.
--
--   applies n checks   some check with the number n fails
use Rattle.std.specs.Prelude.{ℕ, ◌≤◌, ◌≡◌, List, [], ◌∷◌, ◌++◌, Bool, true, false, ◌&&◌, eqb}
use Rattle.octets.specs.Checks.{Check}
use Rattle.octets.specs.Lists.{any}
use Rattle.redirecting.specs.Limits.{redirects_most}
use Rattle.redirecting.specs.Times.{kept, last_of}
use Rattle.deciding_redirects.specs.Decision.{Asked, decision_checks, decision_number, after_decision}
use Rattle.redirecting.specs.declared.times.Accepted.{Accepted}

abbrev pub applies : ℕ → List Check → Bool
applies n checks = any (λ (c : Check). c.fails && eqb c.number n) checks

pub record Decides : Type 0 where
  -- "accepted exactly if no refusal applies"
  pub accepted : (heard : List ℕ) (a : Asked) → ((n : ℕ) → applies n (decision_checks heard a) ≡ false)
      → decision_number heard a ≡ 0
  pub none_applies : (heard : List ℕ) (a : Asked) → decision_number heard a ≡ 0 → (n : ℕ)
      → applies n (decision_checks heard a) ≡ false
  -- else the number told is the least that applies
  pub told_applies : (heard : List ℕ) (a : Asked) → (decision_number heard a ≡ 0 → ⊥)
      → applies (decision_number heard a) (decision_checks heard a) ≡ true
  pub told_least : (heard : List ℕ) (a : Asked) (n : ℕ) → applies n (decision_checks heard a) ≡ true
      → decision_number heard a ≤ n
  -- "the display's record keeps its time": the last five
  pub keeps : (r : Accepted) (a : Asked) → decision_number (kept r) a ≡ 0
      → kept (after_decision r a) ≡ last_of redirects_most (kept r ++ a.time ∷ [])
  -- "none changes the record"
  pub changes_none : (r : Accepted) (a : Asked) → (decision_number (kept r) a ≡ 0 → ⊥) → after_decision r a ≡ r
