-- Trusted. The table calls of 01 ("Tables", "The numbers given back"), E1, E8 and E9: their numbers, in the order of their
-- checks, and the tables after them.
--
--   ike_answer, ipsec_answer      a number and one table; `tables_answer`: and both
--   has_ike, has_ipsec            a table has a record with an SPI; with 0: it has a free place
--   owns, owns_ipsec             an SPI means a record of an operator; an IPsec record is one's through its owner
--   ikes_of, ipsecs_of            how many records an operator has in use
--   list_fits, opening_fits       what is lent, and what is given to open, is no bad argument
--   opening_checks, open_both     an IKE record and its first IPsec record are opened
--   adding_checks, open_ipsec     another IPsec record is opened
--   closing_checks               of either closing
--   ike_closed, owned_closed      the tables after an IKE record is closed, by a call or by a check
--   close_ike, close_ipsec        a record is closed
--   marking_checks, mark_deletion an IKE record is marked as being deleted
use Rattle.std.specs.Prelude.{ℕ, List, [], ◌∷◌, map, Bool, cond, ◌&&◌, ◌||◌, not, eqb, leb, ltb, length, get_or, set}
use Rattle.octets.specs.Limits.{ipsec_places, ike_share, ipsec_share}
use Rattle.octets.specs.declared.number.Number.TheVariants.{BadArgument, NoSuchRecord, Full, SpiInUse}
use Rattle.octets.specs.declared.number.Number.TheVariants.{OperatorAtShare}
use Rattle.octets.specs.Checks.{Check, ◌gives◌, first_failed}
use Rattle.octets.specs.Operators.{is_operator}
use Rattle.octets.specs.Lists.{place_of, how_many}
use Rattle.address.specs.Address.{pair_fits}
use Rattle.records.specs.Records.{ike_spi, ipsec_spi, no_ike, new_ipsec, no_ipsec, released, deletion_marked}
use Rattle.records.specs.Records.{of_operator}
use Rattle.tables.specs.Opening.{ike_of, child_of}
use Rattle.tables.specs.declared.calls.Opening.{Opening}
use Rattle.records.specs.declared.ike.IkeRecord.{IkeRecord}
use Rattle.records.specs.declared.ipsec.IpsecRecord.{IpsecRecord}

-- What a call comes to: its number, and the tables after it.
pub record IkeAnswer : Type 0 where
  pub number : ℕ
  pub ike : List IkeRecord

pub record IpsecAnswer : Type 0 where
  pub number : ℕ
  pub ipsec : List IpsecRecord

pub record TablesAnswer : Type 0 where
  pub number : ℕ
  pub ike : List IkeRecord
  pub ipsec : List IpsecRecord

abbrev pub ike_answer : ℕ → List IkeRecord → IkeAnswer
ike_answer number ike = record { number = number; ike = ike }

abbrev pub ipsec_answer : ℕ → List IpsecRecord → IpsecAnswer
ipsec_answer number ipsec = record { number = number; ipsec = ipsec }

abbrev pub tables_answer : ℕ → List IkeRecord → List IpsecRecord → TablesAnswer
tables_answer number ike ipsec = record { number = number; ike = ike; ipsec = ipsec }

-- 01: "the lowest place in use with the SPI is meant"; an SPI that is looked up is not 0, so the place is in use.
abbrev pub has_ike : ℕ → List IkeRecord → Bool
has_ike spi ike = ltb (place_of ike_spi spi ike) (length ike)

abbrev pub has_ipsec : ℕ → List IpsecRecord → Bool
has_ipsec spi ipsec = ltb (place_of ipsec_spi spi ipsec) (length ipsec)

-- E9: "A call for one operator finds only its own records, else answer 4; in tables not reached from empty ones, the
-- lowest place in use with the SPI is still the one meant, whichever operator it names." 0 means no record.
abbrev pub owns : ℕ → ℕ → List IkeRecord → Bool
owns operator spi ike =
    not (eqb spi 0)
    && (has_ike spi ike && eqb (get_or ike (place_of ike_spi spi ike) no_ike).agreed.operator operator)

-- E9: "an IPsec record through its owner, if any": one without is nobody's.
abbrev pub owns_ipsec : ℕ → List IkeRecord → IpsecRecord → Bool
owns_ipsec operator ike r = not (eqb r.spi 0) && owns operator r.owner ike

-- E9: "each operator has at most 20 of the 32 and 80 of the 128 IPsec records, counted from those in use".
abbrev pub ikes_of : ℕ → List IkeRecord → ℕ
ikes_of operator ike = how_many (of_operator operator) ike

abbrev pub ipsecs_of : ℕ → List IkeRecord → List IpsecRecord → ℕ
ipsecs_of operator ike ipsec = how_many (owns_ipsec operator ike) ipsec

-- 01: "an IPsec list not of 128 records" is answer 1.
abbrev pub list_fits : List IpsecRecord → Bool
list_fits ipsec = eqb (length ipsec) ipsec_places

-- 01: "1: family not 4 or 6, IPv4 tail not zero, an SPI of 0, an IPsec list not of 128 records"; of an opening beside a
-- list of `size`.
abbrev pub opening_fits : ℕ → Opening → Bool
opening_fits size o =
    eqb size ipsec_places
    && (not (eqb o.spi 0)
    && (not (eqb o.child 0)
    && (is_operator o.agreed.operator && pair_fits o.pair)))

-- E1: "Refusals: 1, 11 (IKE, then IPsec), 10 (IKE, then IPsec)"; E9: "43 operator at its share (IKE, then IPsec), after
-- every 11 and before every 10".
abbrev pub opening_checks : List IkeRecord → List IpsecRecord → Opening → List Check
opening_checks ike ipsec o =
    not (opening_fits (length ipsec) o) gives BadArgument
    ∷ has_ike o.spi ike gives SpiInUse
    ∷ has_ipsec o.child ipsec gives SpiInUse
    ∷ leb ike_share (ikes_of o.agreed.operator ike) gives OperatorAtShare
    ∷ leb ipsec_share (ipsecs_of o.agreed.operator ike ipsec) gives OperatorAtShare
    ∷ not (has_ike 0 ike) gives Full
    ∷ not (has_ipsec 0 ipsec) gives Full
    ∷ []

-- E1: "one call opens both or neither". 01: "Opening takes the lowest free place".
unfoldable pub open_both : List IkeRecord → List IpsecRecord → Opening → TablesAnswer
open_both ike ipsec o =
    let number = first_failed (opening_checks ike ipsec o) in
    cond (eqb number 0)
    (tables_answer 0 (set ike (place_of ike_spi 0 ike) (ike_of o)) (set ipsec (place_of ipsec_spi 0 ipsec) (child_of o)))
    (tables_answer number ike ipsec)

-- Another IPsec record. 01: "Opening checks 1, 4 (the owner of an IPsec record), 11, 10."
abbrev pub adding_checks : List IkeRecord → List IpsecRecord → ℕ → ℕ → ℕ → List Check
adding_checks ike ipsec spi owner operator =
    (((not (list_fits ipsec) || eqb spi 0) || eqb owner 0) || not (is_operator operator)) gives BadArgument
    ∷ not (owns operator owner ike) gives NoSuchRecord
    ∷ has_ipsec spi ipsec gives SpiInUse
    ∷ leb ipsec_share (ipsecs_of operator ike ipsec) gives OperatorAtShare
    ∷ not (has_ipsec 0 ipsec) gives Full
    ∷ []

-- 01: "A new one takes the pair of its IKE record (000, 3.3)."
unfoldable pub open_ipsec : List IkeRecord → List IpsecRecord → ℕ → ℕ → ℕ → IpsecAnswer
open_ipsec ike ipsec spi owner operator =
    let number = first_failed (adding_checks ike ipsec spi owner operator) in
    let pair = (get_or ike (place_of ike_spi owner ike) no_ike).pair in
    cond (eqb number 0)
    (ipsec_answer 0 (set ipsec (place_of ipsec_spi 0 ipsec) (new_ipsec spi owner pair)))
    (ipsec_answer number ipsec)

-- 01: "Closing an IKE or IPsec record checks 1, 4."; `there` says whether the operator has a record with the SPI.
abbrev pub closing_checks : List IpsecRecord → ℕ → ℕ → Bool → List Check
closing_checks ipsec spi operator there =
    ((not (list_fits ipsec) || eqb spi 0) || not (is_operator operator)) gives BadArgument
    ∷ not there gives NoSuchRecord
    ∷ []

-- 01: "closing sets all its fields to 0 or none"; "Closing an IKE record closes the IPsec records it owns."
abbrev pub ike_closed : List IkeRecord → ℕ → List IkeRecord
ike_closed ike spi = set ike (place_of ike_spi spi ike) no_ike

abbrev pub owned_closed : List IpsecRecord → ℕ → List IpsecRecord
owned_closed ipsec spi = map (released spi) ipsec

unfoldable pub close_ike : List IkeRecord → List IpsecRecord → ℕ → ℕ → TablesAnswer
close_ike ike ipsec spi operator =
    let number = first_failed (closing_checks ipsec spi operator (owns operator spi ike)) in
    cond (eqb number 0)
    (tables_answer 0 (ike_closed ike spi) (owned_closed ipsec spi))
    (tables_answer number ike ipsec)

-- The lowest place with the SPI first, then whose the record there is.
unfoldable pub close_ipsec : List IkeRecord → List IpsecRecord → ℕ → ℕ → IpsecAnswer
close_ipsec ike ipsec spi operator =
    let place = place_of ipsec_spi spi ipsec in
    let number = first_failed (closing_checks ipsec spi operator (owns_ipsec operator ike (get_or ipsec place no_ipsec))) in
    cond (eqb number 0) (ipsec_answer 0 (set ipsec place no_ipsec)) (ipsec_answer number ipsec)

-- E8: "a mark for being deleted, set by a call (checks 1, 4)".
abbrev pub marking_checks : List IkeRecord → ℕ → ℕ → List Check
marking_checks ike spi operator =
    (eqb spi 0 || not (is_operator operator)) gives BadArgument
    ∷ not (owns operator spi ike) gives NoSuchRecord
    ∷ []

unfoldable pub mark_deletion : List IkeRecord → ℕ → ℕ → IkeAnswer
mark_deletion ike spi operator =
    let number = first_failed (marking_checks ike spi operator) in
    let place = place_of ike_spi spi ike in
    cond (eqb number 0) (ike_answer 0 (set ike place (deletion_marked (get_or ike place no_ike)))) (ike_answer number ike)
