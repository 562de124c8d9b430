-- Trusted. The response to a return routability check of ours (RFC 4555, 3.7): 02, E6; what `unmavreth_check` gives back
-- and leaves.
--
--   CheckResponse            a response to a check, as it is given
--   pending_for               the record has a check under way, and the response is to it
--   check_response_checks      the checks before its chain is read, in their order
--   early_response            the number of the first of them that fails; 0 where all pass
--   check_told                all that is told of it, by the record that its SPI means
--   Checked, checked         the same with both tables after it
--   CheckedAs                what the exported call promises
--   after_response            both tables after it
use Rattle.std.specs.Prelude.{ℕ, ◌≡◌, List, [], ◌∷◌, map, Bool, cond, ◌&&◌, ◌||◌, not, eqb, ltb, length, set}
use Rattle.octets.specs.Checks.{Check, ◌gives◌, first_failed}
use Rattle.octets.specs.Flags.{is_yes}
use Rattle.octets.specs.Operators.{is_operator}
use Rattle.octets.specs.Limits.{body_most, ipsec_places}
use Rattle.octets.specs.Lists.{place_of}
use Rattle.octets.specs.declared.number.Number.TheVariants.{BadArgument, BodyTooLong, NoSuchRecord, MobikeNotAgreed}
use Rattle.octets.specs.declared.number.Number.TheVariants.{CheckNotPending}
use Rattle.records.specs.Pending.{is_pending, cookie_sent}
use Rattle.records.specs.Records.{ike_spi, follows, unchecked}
use Rattle.records.specs.declared.ike.IkeRecord.{IkeRecord}
use Rattle.records.specs.declared.ipsec.IpsecRecord.{IpsecRecord}
use Rattle.tables.specs.Calls.{has_ike, ike_closed, owned_closed}
use Rattle.tables.specs.Tables.{Tables, tables, meant}
use Rattle.reader.specs.Chain.{count, chain_at}
use Rattle.initiator.specs.Response.{outcome_number, no_outcome, refusal, assessment}
use Rattle.initiator.specs.declared.response.Assessment.{Assessment}
use Rattle.initiator.specs.declared.response.Outcome.TheVariants.{Close, Accepted}

-- E6: "a response (SPI, ID, first type, body)"; E9: and its operator.
pub record CheckResponse : Type 0 where
  pub spi : ℕ
  pub id : ℕ
  pub first : ℕ
  pub body : List ℕ
  pub operator : ℕ

abbrev pub check_response : ℕ → ℕ → ℕ → List ℕ → ℕ → CheckResponse
check_response spi id first body operator =
    record { spi = spi; id = id; first = first; body = body; operator = operator }

-- E6: "14 (no pending check, or another ID)".
abbrev pub pending_for : IkeRecord → ℕ → Bool
pending_for e id = is_pending e.check && eqb e.check.id id

-- E6: "a response checks 1, 3, 4, 5, 14, 6, 7", those before its chain is read: beside a list of `lent` IPsec records;
-- `there` says whether the SPI means a record, and `e` is that record. E9: "A call for one operator finds only its own
-- records, else answer 4".
abbrev pub check_response_checks : ℕ → Bool → IkeRecord → CheckResponse → List Check
check_response_checks lent there e q =
    (not (eqb lent ipsec_places) || eqb q.spi 0) gives BadArgument
    ∷ not (is_operator q.operator) gives BadArgument
    ∷ ltb body_most (length q.body) gives BodyTooLong
    ∷ not there gives NoSuchRecord
    ∷ not (eqb e.agreed.operator q.operator) gives NoSuchRecord
    ∷ not (is_yes e.agreed.mobike) gives MobikeNotAgreed
    ∷ not (pending_for e q.id) gives CheckNotPending
    ∷ []

unfoldable pub early_response : ℕ → Bool → IkeRecord → CheckResponse → ℕ
early_response lent there e q = first_failed (check_response_checks lent there e q)

-- E6: "The judge decides a response"; "refusals before 6 count 0 payloads". The judge is 01's, with the cookie kept.
unfoldable pub check_told : ℕ → Bool → IkeRecord → CheckResponse → Assessment
check_told lent there e q =
    let number = early_response lent there e q in
    cond (eqb number 0) (assessment (cookie_sent e.check) q.first q.body) (refusal number 0 0)

-- All that a response gives back, both tables after it included.
pub record Checked : Type 0 where
  pub told : Assessment
  pub ike : List IkeRecord
  pub ipsec : List IpsecRecord

abbrev pub checked_as : Assessment → List IkeRecord → List IpsecRecord → Checked
checked_as told ike ipsec = record { told = told; ike = ike; ipsec = ipsec }

-- E6: "accepted moves all its IPsec records to the IKE record's pair, close closes the IKE record (RFC 4555, 3.7), an
-- error moves nothing; each ends the check and changes nothing else." A refused response ends nothing.
unfoldable pub checked : List IkeRecord → List IpsecRecord → CheckResponse → Checked
checked ike ipsec q =
    let e = meant ike q.spi in
    let a = check_told (length ipsec) (has_ike q.spi ike) e q in
    let ended = set ike (place_of ike_spi q.spi ike) (unchecked e) in
    cond (eqb a.outcome no_outcome) (checked_as a ike ipsec)
    (cond (eqb a.outcome (outcome_number Close))
    (checked_as a (ike_closed ike q.spi) (owned_closed ipsec q.spi))
    (cond (eqb a.outcome (outcome_number Accepted))
    (checked_as a ended (map (follows q.spi e.pair) ipsec))
    (checked_as a ended ipsec)))

-- What is promised of a response to a check on any tables: all that it gives back, both tables after it, and 01's "The
-- answer counts the payloads read, and that count equals the number of payloads in the chain".
module _ (ike : List IkeRecord) (ipsec : List IpsecRecord) (q : CheckResponse) where
  pub record CheckedAs (a : Assessment) (ike_after : List IkeRecord) (ipsec_after : List IpsecRecord) : Type 0 where
    pub told : a ≡ (checked ike ipsec q).told
    pub records : ike_after ≡ (checked ike ipsec q).ike
    pub owned : ipsec_after ≡ (checked ike ipsec q).ipsec
    pub counts : a.number ≡ 0 → a.payloads ≡ count (chain_at q.body q.first 0)

-- the tables after a response
unfoldable pub after_response : CheckResponse → Tables → Tables
after_response q t =
    let c = checked t.ike t.ipsec q in
    tables c.ike c.ipsec
