-- Trusted. Fixed words that a number or a bool chooses.
--
--   outcome_word done told   what became of an update or of a list
--   table_word ipsec         which table a record is in
use Rattle.std.specs.Prelude.{ℕ, Bool, cond, List, eqb}
use Rattle.wording.specs.Text.{ascii}

-- What became of an update or of a list, by its number (`effect_number` of deciding): 1 is done, 2 is stale.
abbrev pub outcome_word : List ℕ → ℕ → List ℕ
outcome_word done told = cond (eqb told 1) done (cond (eqb told 2) (ascii "stale") (ascii "none"))

abbrev pub table_word : Bool → List ℕ
table_word ipsec = cond ipsec (ascii "ipsec") (ascii "ike")
