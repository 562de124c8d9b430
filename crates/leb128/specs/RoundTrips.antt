-- Trusted. What is claimed of numbers: "a written trace to read back the same" (02, E3), for one number and both ways;
-- when it is refused; and that later octets change nothing. Shown in proofs/RoundTrip.antt and proofs/Stable.antt.
--   Octets s      each of them is below 256
--   RoundTrips    written and read back, read and written again, and what is refused
--   Settled       what more octets leave as it was
use Rattle.std.specs.Prelude.{ℕ, ◌+◌, ◌-◌, ◌^◌, ◌≤◌, ◌<◌, ◌≡◌, List, ◌++◌, length, get_or, drop}
use Rattle.leb128.specs.Leb128.{decoded, octets_of, groups_most}
use Rattle.std.specs.Prelude.{Some, None}

abbrev pub Octets : List ℕ → Type 0
Octets s = (i : ℕ) → get_or s i 0 < 256

-- the octets begin with those of a number of 64 bits
pub record Begins (s : List ℕ) : Type 0 where
  pub number : ℕ
  pub rest : List ℕ
  pub fits : number < 2 ^ 64
  pub octets : s ≡ octets_of number ++ rest

pub record RoundTrips : Type 0 where
  -- a written number is read, whatever stands behind it
  pub reads_written : (n at : ℕ) (rest : List ℕ) → n < 2 ^ 64
      → decoded (octets_of n ++ rest) at ≡ Some (n, at + length (octets_of n))
  -- what was read as a number has 64 bits at most, and is that number written, with the rest behind it
  pub writes_read : (s : List ℕ) (at v next : ℕ) → Octets s → decoded s at ≡ Some (v, next)
      → (v < 2 ^ 64) × (next ≡ at + length (octets_of v)) × (s ≡ octets_of v ++ drop (next - at) s)
  -- refused exactly if no number's octets stand there
  pub refused : (s : List ℕ) (at : ℕ) → decoded s at ≡ None → Begins s → ⊥
  pub none_refused : (s : List ℕ) (at : ℕ) → Octets s → (Begins s → ⊥) → decoded s at ≡ None

pub record Settled : Type 0 where
  pub stays_read : (s later : List ℕ) (at v next : ℕ) → Octets s → decoded s at ≡ Some (v, next)
      → decoded (s ++ later) at ≡ Some (v, next)
  -- ten octets in sight decide
  pub stays_refused : (s later : List ℕ) (at : ℕ) → Octets (s ++ later) → groups_most ≤ length s → decoded s at ≡ None
      → decoded (s ++ later) at ≡ None
