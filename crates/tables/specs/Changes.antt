-- Inner. The numbers of the table calls by what was looked up, for the functions of `opening` and `closing`.
-- `tables/proofs/Changed.antt` shows that a call that stores where this number is 0 is the call of `Calls`.
use Rattle.std.specs.Prelude.{ℕ, [], ◌∷◌, Bool, ◌&&◌, ◌||◌, not, eqb, ltb}
use Rattle.octets.specs.Limits.{ike_places, ipsec_places}
use Rattle.octets.specs.declared.number.Number.TheVariants.{BadArgument, NoSuchRecord, Full, SpiInUse}
use Rattle.octets.specs.declared.number.Number.TheVariants.{OperatorAtShare}
use Rattle.octets.specs.Checks.{◌gives◌, first_failed}
use Rattle.octets.specs.Operators.{is_operator}
use Rattle.records.specs.declared.ike.IkeRecord.{IkeRecord}
use Rattle.records.specs.declared.ipsec.IpsecRecord.{IpsecRecord}

-- what was found at a place is the operator's
abbrev pub is_own : ℕ → IkeRecord → ℕ → Bool
is_own place entry operator = ltb place ike_places && eqb entry.agreed.operator operator

-- the same of an IPsec record, by its owner's
abbrev pub is_own_child : IpsecRecord → ℕ → IkeRecord → ℕ → Bool
is_own_child entry owned found operator =
    not (eqb entry.spi 0) && (not (eqb entry.owner 0) && is_own owned found operator)

-- 01: "Opening checks 1, 4 (the owner of an IPsec record), 11, 10."; E9: 43 "after every 11 and before every 10"
abbrev pub adding_number : Bool → Bool → Bool → Bool → Bool → ℕ
adding_number bad owned taken limited room =
    first_failed (
    bad gives BadArgument
    ∷ not owned gives NoSuchRecord
    ∷ taken gives SpiInUse
    ∷ limited gives OperatorAtShare
    ∷ not room gives Full
    ∷ []
    )

-- 01: "Closing an IKE or IPsec record checks 1, 4."
abbrev pub closing_number : Bool → Bool → ℕ
closing_number bad there = first_failed (bad gives BadArgument ∷ not there gives NoSuchRecord ∷ [])

-- E1: "Refusals: 1, 11 (IKE, then IPsec), 10 (IKE, then IPsec)".
abbrev pub both_number : Bool → Bool → Bool → Bool → Bool → Bool → Bool → ℕ
both_number fits taken child_taken limited child_limited room child_room =
    first_failed (
    not fits gives BadArgument
    ∷ taken gives SpiInUse
    ∷ child_taken gives SpiInUse
    ∷ limited gives OperatorAtShare
    ∷ child_limited gives OperatorAtShare
    ∷ not room gives Full
    ∷ not child_room gives Full
    ∷ []
    )

-- a list not of 128 records or an SPI of 0, or no operator; with the owner of a record to open
abbrev pub bad_list : ℕ → ℕ → Bool
bad_list size spi = not (eqb size ipsec_places) || eqb spi 0

abbrev pub bad_closing : ℕ → ℕ → ℕ → Bool
bad_closing size spi operator = bad_list size spi || not (is_operator operator)

abbrev pub bad_adding : ℕ → ℕ → ℕ → ℕ → Bool
bad_adding size spi owner operator = (bad_list size spi || eqb owner 0) || not (is_operator operator)

-- 02, E8: "checks 1, 4"
abbrev pub bad_marking : ℕ → ℕ → Bool
bad_marking spi operator = eqb spi 0 || not (is_operator operator)
