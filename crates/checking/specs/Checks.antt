-- Trusted. A request, and checks 1 to 5 of 01's "One request, step by step".
--   Request, request_of      a request as it is given, and its output's length
--   arguments_fit            what check 1 asks of the arguments
--   request_checks           checks 1 to 5 as a table
--   early_number_by           the number of the first of them that fails, by what they go by; 0 where all pass
use Rattle.std.specs.Prelude.{ℕ, List, [], ◌∷◌, Bool, ◌&&◌, not, eqb, ltb, length}
use Rattle.octets.specs.Limits.{body_most, ipsec_places, nat_octets, response_room}
use Rattle.octets.specs.declared.number.Number.TheVariants.{BadArgument, OutputTooShort, BodyTooLong, NoSuchRecord}
use Rattle.octets.specs.declared.number.Number.TheVariants.{MobikeNotAgreed}
use Rattle.octets.specs.Checks.{Check, ◌gives◌, first_failed}
use Rattle.octets.specs.Flags.{is_yes}
use Rattle.octets.specs.Operators.{is_operator}
use Rattle.address.specs.Address.{pair_fits}
use Rattle.address.specs.declared.pair.Pair.{Pair}
use Rattle.records.specs.Pending.{is_pending}
use Rattle.records.specs.declared.check.PendingCheck.{PendingCheck}
use Rattle.records.specs.declared.ike.Agreed.{Agreed}
use Rattle.answering.specs.Core.{Asked}

-- 01: "A request is given as SPI, ID, packet's pair, the two NAT values, first type, body"; 02, E6: and the cookie and the
-- ID of our request; E9: and its operator. Its output's length belongs to it too ("a request keeps its arguments and its
-- output's length wherever it stands").
pub record Request : Type 0 where
  pub spi : ℕ
  pub asks : Asked
  pub room : ℕ
  pub operator : ℕ

abbrev pub request_of : ℕ → Asked → ℕ → ℕ → Request
request_of spi asks room operator = record { spi = spi; asks = asks; room = room; operator = operator }

-- 01: "1: family not 4 or 6, IPv4 tail not zero, an SPI of 0, an IPsec list not of 128 records, a lent NAT value not of
-- 20 octets"; the list is looked at below. 02, E6: "1 for another cookie length": such a cookie makes no check.
abbrev pub arguments_fit : ℕ → Pair → List ℕ → List ℕ → PendingCheck → Bool
arguments_fit spi pair nat-source nat-destination check =
    not (eqb spi 0)
    && (eqb (length nat-source) nat_octets
    && (eqb (length nat-destination) nat_octets && (is_pending check && pair_fits pair)))

-- 01: "checks 1 to 7 in number order", the first five, beside a list of `lent` IPsec records: `there` says whether the
-- SPI means a record, and `agreed` what was agreed for that. E9: "A call for one operator finds only its own records, else
-- answer 4".
abbrev pub request_checks : ℕ → Bool → Agreed → Request → List Check
request_checks lent there agreed q =
    let asks = q.asks in
    let fit = arguments_fit q.spi asks.pair asks.nat-source asks.nat-destination asks.check in
    not (eqb lent ipsec_places && fit) gives BadArgument
    ∷ not (is_operator q.operator) gives BadArgument
    ∷ ltb q.room response_room gives OutputTooShort
    ∷ ltb body_most (length asks.body) gives BodyTooLong
    ∷ not there gives NoSuchRecord
    ∷ not (eqb agreed.operator q.operator) gives NoSuchRecord
    ∷ not (is_yes agreed.mobike) gives MobikeNotAgreed
    ∷ []

unfoldable pub early_number_by : ℕ → Bool → Agreed → Request → ℕ
early_number_by lent there agreed q = first_failed (request_checks lent there agreed q)
