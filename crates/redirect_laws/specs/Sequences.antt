-- Trusted. What is claimed of decisions one after the other (02, E7): "Shown: from a fresh record, no sixth inside 300
-- seconds." `no_sixth`, `no_sixth_from_any` and `sufficient` in `proofs/Sequences.antt` prove it.
--
--   accepted_times   the times of those accepted, in order, each decided on the record that the one before left
--   record_after     the record that they leave
--   Rising, Spaced  no time before an earlier one; six in a row span 300 seconds at least
--   inside          how many of some times lie in the 300 seconds from a time on
use Rattle.std.specs.Prelude.{ℕ, ◌+◌, ◌≤◌, ◌<◌, ◌≡◌, List, [], ◌∷◌, cond, ◌&&◌, eqb, leb, ltb, length, get_or}
use Rattle.redirecting.specs.Limits.{redirects_most, period_seconds}
use Rattle.redirecting.specs.Times.{kept, fresh, how_many}
use Rattle.deciding_redirects.specs.Decision.{Asked, decision_number, after_decision}
use Rattle.redirecting.specs.declared.times.Accepted.{Accepted}

unfoldable pub accepted_times : Accepted → List Asked → List ℕ
accepted_times r [] = []
accepted_times r (a ∷ xs) =
    let later = accepted_times (after_decision r a) xs in
    cond (eqb (decision_number (kept r) a) 0) (a.time ∷ later) later

unfoldable pub record_after : Accepted → List Asked → Accepted
record_after r [] = r
record_after r (a ∷ xs) = record_after (after_decision r a) xs

abbrev pub Rising : List ℕ → Type 0
Rising times = (i j : ℕ) → i ≤ j → j < length times → get_or times i 0 ≤ get_or times j 0

abbrev pub Spaced : List ℕ → Type 0
Spaced times = (i j : ℕ) → i + redirects_most ≤ j → j < length times → get_or times i 0 + period_seconds ≤ get_or times j 0

abbrev pub inside : ℕ → List ℕ → ℕ
inside from times = how_many (λ (t : ℕ). leb from t && ltb t (from + period_seconds)) times

-- of some accepted times: they rise, six span 300 seconds, and no 300 seconds hold a sixth
pub record Sparse (times : List ℕ) : Type 0 where
  pub rising : Rising times
  pub spaced : Spaced times
  pub at_most : (from : ℕ) → inside from times ≤ redirects_most

-- "from a fresh record, no sixth inside 300 seconds", over every list of decisions
abbrev pub NoSixth : Type 0
NoSixth = (xs : List Asked) → Sparse (accepted_times fresh xs)

-- the same of those newly accepted, from any record whatever
abbrev pub NoSixthFromAny : Type 0
NoSixthFromAny = (r : Accepted) (xs : List Asked) → Sparse (accepted_times r xs)

-- the five times kept decide as all accepted times would
abbrev pub Sufficient : Type 0
Sufficient = (xs : List Asked) (a : Asked)
    → decision_number (kept (record_after fresh xs)) a ≡ decision_number (accepted_times fresh xs) a
