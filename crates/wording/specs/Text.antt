-- Trusted. Words of a line as octets, in ASCII.
--
--   ascii "at"        a fixed word
--   decimal n         a number in decimal, with no leading zero: `0` for 0
--   hex os            octets in hex: two lower-case digits for each, the high one first
--   joined ws after   words with single spaces between them, and an octet behind the last
use Rattle.std.specs.Prelude.{ℕ, zero, suc, ◌+◌, ◌/◌, ◌%◌, cond, List, [], ◌∷◌, ◌++◌, ltb}
use Prim.Native.Char.{code}
use Prim.Native.String.{String, [] as []ₜ, ◌∷◌ as ◌∷ₜ◌}

abbrev pub ascii : String → List ℕ
ascii []ₜ = []
ascii (c ∷ₜ cs) = code c ∷ ascii cs

-- at most k digits: 48 is `0`
unfoldable pub digits : ℕ → ℕ → List ℕ
digits zero n = []
digits (suc k) n = cond (ltb n 10) ((48 + n) ∷ []) (digits k (n / 10) ++ ((48 + n % 10) ∷ []))

-- twenty digits hold 64 bits
unfoldable pub decimal : ℕ → List ℕ
decimal n = digits 20 n

-- 87 is ten before `a`
abbrev pub hex_digit : ℕ → ℕ
hex_digit d = cond (ltb d 10) (48 + d) (87 + d)

unfoldable pub hex : List ℕ → List ℕ
hex [] = []
hex (o ∷ os) = hex_digit (o / 16) ∷ hex_digit (o % 16) ∷ hex os

unfoldable pub joined : List (List ℕ) → ℕ → List ℕ
joined [] after = []
joined (w ∷ []) after = w ++ (after ∷ [])
joined (w ∷ v ∷ ws) after = w ++ (ascii " " ++ joined (v ∷ ws) after)
