-- What the number of a verdict tells of it.
use Prim.Native.Nat.{ℕ}
use mathlib.Core.Path.{◌≡◌, refl}
use native.Mathlib.Omega.{arith}
use Rattle.verdict.specs.Verdict.{verdict_number}
use Rattle.verdict.specs.declared.update.Verdict.{Verdict}
use Rattle.verdict.specs.declared.update.Verdict.TheVariants.{Accepted, Altered, Unacceptable}

-- what holds of 0, 8 and 9 holds of a verdict's number
pub verdict_of : (P : ℕ → Type 0) → P 0 → P 8 → P 9 → (v : Verdict) → P (verdict_number v)
verdict_of P done altered unacceptable Accepted = done
verdict_of P done altered unacceptable Altered = altered
verdict_of P done altered unacceptable Unacceptable = unacceptable

pub number_accepted : (v : Verdict) → verdict_number v ≡ 0 → v ≡ Accepted
number_accepted Accepted e = refl
number_accepted Altered e = absurd (omega (arith, e))
number_accepted Unacceptable e = absurd (omega (arith, e))
