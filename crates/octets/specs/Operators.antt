-- Trusted. The operators that share the gateway (02, E9), by their numbers.
--
--   is_operator   an argument names an operator
use Rattle.std.specs.Prelude.{ℕ, Bool, ltb}
use Rattle.octets.specs.Limits.{operators}

-- E9: "operator A (0) or B (1), one bit". Any other number is a bad argument.
abbrev pub is_operator : ℕ → Bool
is_operator operator = ltb operator operators
