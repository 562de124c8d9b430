-- Trusted. Yes or no as an octet of what a host lends or passes: 0 is no and every other value yes, so that no octet is
-- outside a contract.
--
--   is_yes       what an octet says
--   zero_or_one   the octet that is stored for it
use Rattle.std.specs.Prelude.{ℕ, Bool, cond, not, eqb}

abbrev pub is_yes : ℕ → Bool
is_yes n = not (eqb n 0)

-- as it is stored
abbrev pub zero_or_one : ℕ → ℕ
zero_or_one n = cond (is_yes n) 1 0
