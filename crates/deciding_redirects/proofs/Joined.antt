-- A decision is made in two parts: where the data, the exchange or the nonce refuse, that is told, else what the times
-- tell.
use Prim.Native.Nat.{ℕ}
use mathlib.Core.Path.{◌≡◌, refl}
use mathlib.Core.List.{List, [], ◌∷◌, ◌++◌}
use mathlib.Core.Bool.{Bool, true, false, cond}
use borrow.Author.Tests.{not-true}
use lib.Dec.{eqb}
use Rattle.octets.specs.Lists.{all}
use Rattle.octets.specs.Checks.{Check, first_failed}
use Rattle.octets.proofs.Checks.{refuses}
use Rattle.octets.proofs.Small.{both}
use Rattle.redirecting.specs.Exchange.{exchange_of}
use Rattle.redirecting.specs.Times.{time_checks}
use Rattle.deciding_redirects.specs.Decision.{asked, data_checks, decision_number}

pub joined : (xs ys : List Check) → all refuses xs ≡ true
    → first_failed (xs ++ ys) ≡ cond (eqb (first_failed xs) 0) (first_failed ys) (first_failed xs)
joined [] ys h = refl
joined (x ∷ xs) ys h = go x.fails (both (refuses x) (all refuses xs) h) (joined xs ys)
  where
    go : (b : Bool) → (refuses x ≡ true) × (all refuses xs ≡ true)
        → (all refuses xs ≡ true
        → first_failed (xs ++ ys) ≡ cond (eqb (first_failed xs) 0) (first_failed ys) (first_failed xs))
        → let first = cond b x.number (first_failed xs) in
        cond b x.number (first_failed (xs ++ ys)) ≡ cond (eqb first 0) (first_failed ys) first
    go true h r = rw (not-true (eqb x.number 0) h.0)
    go false h r = r h.1

pub two_parts : (heard : List ℕ) (exchange : ℕ) (sent : List ℕ) (time : ℕ) (octets : List ℕ)
    → let first = first_failed (data_checks (exchange_of exchange) sent octets) in
    decision_number heard (asked exchange sent time octets)
    ≡ cond (eqb first 0) (first_failed (time_checks heard time)) first
unfolding decision_number
two_parts heard exchange sent time octets =
    joined (data_checks (exchange_of exchange) sent octets) (time_checks heard time) refl
