-- Trusted. Numbers of a trace (02, E3), as octets and read from octets.
--   octets_of n       the octets of a number
--   decoded os at    the number that the octets begin with; `at` is the offset of the first of them in a buffer
--   decoded_at s at   the number at an offset of a buffer
--   Decoded           what was read: a number and the offset after it, or nothing that is one (refused with 20)
--
--   300 is 2 * 128 + 44:   AC            02
--                          1 0101100     0 0000010
--                          more, 44      last, 2
use Rattle.std.specs.Prelude.{ℕ, zero, suc, ◌+◌, ◌-◌, ◌*◌, ◌/◌, ◌%◌, ◌^◌, cond, List, [], ◌∷◌, ltb, leb, eqb, drop, Option, Some, None}

-- "Numbers are groups of seven bits, lowest group first, top bit set on all but the last": at most k groups
unfoldable pub groups : ℕ → ℕ → List ℕ
groups zero n = []
groups (suc k) n = cond (ltb n 128) (n ∷ []) ((128 + n % 128) ∷ groups k (n / 128))

-- ten groups hold 64 bits
abbrev pub groups_most : ℕ
groups_most = 10

unfoldable pub octets_of : ℕ → List ℕ
octets_of n = groups groups_most n

abbrev pub Decoded : Type 0
Decoded = Option (ℕ × ℕ)

-- an octet b with its top bit set, and what follows it. "20 ... number not shortest or past 64 bits": a last group of 0
-- is not shortest, and what stands above the lowest seven of 64 bits is below 2 ^ 57.
abbrev pub more : ℕ → Decoded → Decoded
more b None = None
more b (Some (v, next)) = cond (eqb v 0) None (cond (leb (2 ^ 57) v) None (Some (b - 128 + 128 * v, next)))

-- "20 cut entry": octets that end before a last group are no number
unfoldable pub decoded : List ℕ → ℕ → Decoded
decoded [] at = None
decoded (b ∷ bs) at = cond (ltb b 128) (Some (b, at + 1)) (more b (decoded bs (at + 1)))

abbrev pub decoded_at : List ℕ → ℕ → Decoded
decoded_at s at = decoded (drop at s) at
