-- The octets that there is room for, and the zeros behind them: what `padded` takes.
use Rattle.std.proofs.Common.{◌≡◌, sym, ℕ, zero, suc, ◌≤◌, List, [], ◌∷◌, ◌++◌, length, take, drop, replicate, refl, ap, arith}
use Rattle.std.proofs.lemmas.List.{take-replicate}
use Rattle.std.specs.Prelude.{min}
use Rattle.octets.specs.Limits.{address_octets}
use Rattle.octets.proofs.padded_to_16.Goals as goal

-- So many octets, and what is left of so many zeros; `w` zeros are enough.
filled : (o : List ℕ) (m w : ℕ) → m ≤ w → (k : ℕ) → k ≡ min (length o) m
    → take k o ++ drop k (replicate m 0) ≡ take m (o ++ replicate w 0)
filled [] m w h zero e = sym (take-replicate m w 0 h)
filled [] m w h (suc k) e = absurd (omega arith)
filled (x ∷ xs) zero w h zero e = refl
filled (x ∷ xs) zero w h (suc k) e = absurd (omega arith)
filled (x ∷ xs) (suc m) w h zero e = absurd (omega arith)
filled (x ∷ xs) (suc m) w h (suc k) e = ap (λ l. x ∷ l) (filled xs m w (omega arith) k (omega arith))

pub returns : goal.returns
returns c =
    rw c.copy_from_slice.ensures.after
    (filled c.args.octets.now address_octets address_octets (omega arith) c.min-n.result c.min-n.ensures)
