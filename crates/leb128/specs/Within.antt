-- Inner. A number read with a bound on its octets, as the code reads it: `enough` (proofs/Within.antt) says that nine
-- behind the first are no bound; and that what was read ends within the buffer (`within` in proofs/Stable.antt).
use Rattle.std.specs.Prelude.{ℕ, zero, suc, ◌+◌, ◌≤◌, ◌<◌, cond, List, [], ◌∷◌, ltb, length}
use Rattle.leb128.specs.Leb128.{more}
use Rattle.leb128.specs.Leb128.{Decoded}
use Rattle.std.specs.Prelude.{Some, None}

-- looking at no more than `left` octets behind the first
unfoldable pub read_within : ℕ → List ℕ → ℕ → Decoded
read_within left [] at = None
read_within zero (b ∷ bs) at = cond (ltb b 128) (Some (b, at + 1)) None
read_within (suc left) (b ∷ bs) at = cond (ltb b 128) (Some (b, at + 1)) (more b (read_within left bs (at + 1)))

-- a number that was read has an octet at least, and ends within the octets
abbrev pub Within : List ℕ → ℕ → Decoded → Type 0
Within s at (Some (v, next)) = (at < next) × (next ≤ length s)
Within s at None = Unit
