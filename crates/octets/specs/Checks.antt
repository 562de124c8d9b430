-- Trusted. The checks of a call as a table, in their order: what fails, and the number that is then told.
--
--   fails gives Number   a line of such a table
--   first_failed          the number of the first line that fails, 0 where none does
use Rattle.std.specs.Prelude.{ℕ, List, [], ◌∷◌, Bool, cond}
use Rattle.octets.specs.declared.number.Number.{Number}
use Rattle.octets.specs.Numbers.{number_of}

pub record Check : Type 0 where
  pub fails : Bool
  pub number : ℕ

infix 70 ◌gives◌
abbrev pub ◌gives◌ : Bool → Number → Check
fails gives n = record { fails = fails; number = number_of n }

-- the number of the first check that fails; 0 where all pass
abbrev pub first_failed : List Check → ℕ
first_failed [] = 0
first_failed (c ∷ cs) = cond c.fails c.number (first_failed cs)
