-- Trusted. The numbers that a check response gives back, as 01's table has those of requests: for each number the
-- payloads that are counted and the tables after it (02, E6).
--   no_payloads, all_payloads                what is counted
--   unchanged, as_judged                    the tables after it
--   ResponseRow, response_row, response_rows a row, and the table
--   GivesBack, ResponsesAsTheTable         a response gives back what a row says; every response does so for some row
use Rattle.std.specs.Prelude.{ℕ, ◌≡◌, List, [], ◌∷◌, map, cond, eqb, set}
use Rattle.octets.specs.declared.number.Number.{Number}
use Rattle.octets.specs.declared.number.Number.TheVariants.{Done, BadArgument, BodyTooLong, NoSuchRecord}
use Rattle.octets.specs.declared.number.Number.TheVariants.{MobikeNotAgreed, CheckNotPending, UnknownCritical}
use Rattle.octets.specs.declared.number.Number.TheVariants.{BadChainLength, BadNotify, BadDataSize}
use Rattle.octets.specs.declared.number.Number.TheVariants.{Repeated, OctetsAfterEnd}
use Rattle.octets.specs.Lists.{place_of}
use Rattle.octets.specs.Numbers.{number_of}
use Rattle.records.specs.Pending.{cookie_sent}
use Rattle.records.specs.Records.{ike_spi, follows, unchecked}
use Rattle.tables.specs.Calls.{ike_closed, owned_closed}
use Rattle.tables.specs.Tables.{Tables, tables, meant}
use Rattle.reader.specs.Chain.{count, chain_at}
use Rattle.initiator.specs.Response.{outcome_number, assessment}
use Rattle.initiator.specs.declared.response.Outcome.TheVariants.{Close, Accepted}
use Rattle.routability.specs.Routability.{CheckResponse, checked, after_response}
use Rattle.numbers.specs.Numbers.{Some}

-- "refusals before 6 count 0 payloads"; 01: "it is 0 with answers 1 to 7"
abbrev pub no_payloads : CheckResponse → ℕ
no_payloads q = 0

-- 01: "that count equals the number of payloads in the chain"
abbrev pub all_payloads : CheckResponse → ℕ
all_payloads q = count (chain_at q.body q.first 0)

abbrev pub unchanged : CheckResponse → Tables → Tables
unchanged q t = t

-- "accepted moves all its IPsec records to the IKE record's pair, close closes the IKE record (RFC 4555, 3.7), an error
-- moves nothing; each ends the check and changes nothing else"
abbrev pub as_judged : CheckResponse → Tables → Tables
as_judged q t =
    let r = meant t.ike q.spi in
    let outcome = (assessment (cookie_sent r.check) q.first q.body).outcome in
    let ended = set t.ike (place_of ike_spi q.spi t.ike) (unchecked r) in
    cond (eqb outcome (outcome_number Close))
    (tables (ike_closed t.ike q.spi) (owned_closed t.ipsec q.spi))
    (cond (eqb outcome (outcome_number Accepted)) (tables ended (map (follows q.spi r.pair) t.ipsec))
    (tables ended t.ipsec))

pub record ResponseRow : Type 0 where
  pub number : ℕ
  pub payloads : CheckResponse → ℕ
  pub tables : CheckResponse → Tables → Tables

abbrev pub response_row : Number → (CheckResponse → ℕ) → (CheckResponse → Tables → Tables) → ResponseRow
response_row n payloads left = record { number = number_of n; payloads = payloads; tables = left }

-- "a response checks 1, 3, 4, 5, 14 (no pending check, or another ID), 6, 7"; E4: "61 to 65 take 6's place"; E9: "A
-- call for one operator finds only its own records, else answer 4".
abbrev pub response_rows : List ResponseRow
response_rows =
    response_row Done all_payloads as_judged
    ∷ response_row BadArgument no_payloads unchanged
    ∷ response_row BodyTooLong no_payloads unchanged
    ∷ response_row NoSuchRecord no_payloads unchanged
    ∷ response_row MobikeNotAgreed no_payloads unchanged
    ∷ response_row CheckNotPending no_payloads unchanged
    ∷ response_row BadChainLength no_payloads unchanged
    ∷ response_row BadNotify no_payloads unchanged
    ∷ response_row BadDataSize no_payloads unchanged
    ∷ response_row Repeated no_payloads unchanged
    ∷ response_row OctetsAfterEnd no_payloads unchanged
    ∷ response_row UnknownCritical no_payloads unchanged
    ∷ []

-- What a check response gives back is a row: number, payloads, tables.
pub record GivesBack (t : Tables) (q : CheckResponse) (r : ResponseRow) : Type 0 where
  pub number : (checked t.ike t.ipsec q).told.number ≡ r.number
  pub payloads : (checked t.ike t.ipsec q).told.payloads ≡ r.payloads q
  pub left : after_response q t ≡ r.tables q t

-- Demand 1: "Each refusal has a number in document 01. It changes no table". Of every check response, whatever it names
-- as its operator, from any tables.
abbrev pub ResponsesAsTheTable : Type 0
ResponsesAsTheTable = (t : Tables) (q : CheckResponse) → Some (GivesBack t q) response_rows
