-- Trusted. 01's table "The numbers given back", as far as it speaks of requests, with 02's 61 to 65 in the place of its
-- 6: for each number the response and the tables after it.
--   applies, replaces       whether an update counts, and a list replaces the kept one
--   unknown_in               what a request adds to the tally
--   same, tally_and_mark, as_steps                             the column "Tables"
--   stepped                                                 the record meant, "as steps 1 to 3"
--   none, syntax_error, unsupported_critical, error_then_cookie, as_step4      the column "Response"
--   NumberRow, number_row, number_rows                        a row, and the table
--   Gives, AsTheTable       a request gives back what a row says; every request does so for some row
use Rattle.std.specs.Prelude.{ℕ, ◌+◌, min, ◌≡◌, ◌⊎◌, List, [], ◌∷◌, ◌++◌, Bool, cond, ◌&&◌, leb, length, set}
use Rattle.octets.specs.declared.number.Number.{Number}
use Rattle.octets.specs.declared.number.Number.TheVariants.{Done, BadArgument, OutputTooShort, BodyTooLong}
use Rattle.octets.specs.declared.number.Number.TheVariants.{NoSuchRecord, MobikeNotAgreed, UnknownCritical}
use Rattle.octets.specs.declared.number.Number.TheVariants.{BadChainLength, BadNotify, BadDataSize}
use Rattle.octets.specs.declared.number.Number.TheVariants.{Repeated, OctetsAfterEnd}
use Rattle.octets.specs.declared.number.Number.TheVariants.{AddressesAltered, NotAcceptable}
use Rattle.octets.specs.Limits.{addresses_most}
use Rattle.octets.specs.Numbers.{number_of}
use Rattle.octets.specs.Wire.{invalid_syntax, unacceptable_addresses, unexpected_nat_detected, unsupported_critical_payload}
use Rattle.octets.specs.Lists.{place_of}
use Rattle.values.specs.Values.{addresses_in}
use Rattle.policy.specs.declared.rules.Policy.{Policy}
use Rattle.reader.specs.Chain.{reading}
use Rattle.records.specs.Records.{ike_spi, rewritten}
use Rattle.tables.specs.Tables.{Tables, tables, meant}
use Rattle.records.specs.declared.ike.IkeRecord.{IkeRecord}
use Rattle.writing.specs.Notify.{Notification, notification, first_type, chained}
use Rattle.writing.specs.Parts.{nat_notifies, cookie_notifies}
use Rattle.deciding.specs.Decide.{tallied, has_list}
use Rattle.answering.specs.Core.{cookie_in}
use Rattle.responding.specs.Respond.{wants_nats}
use Rattle.checking.specs.Checks.{Request}
use Rattle.responder.specs.Handle.{handled, handled_response, seen_in, after_request}

-- "if the ID doesn't exceed the update mark, the update is stale": a mark is kept as the least ID that exceeds it.
abbrev pub applies : Request → IkeRecord → Bool
applies q r = (seen_in q).update && leb r.update_mark q.asks.id

-- "with any ADDITIONAL address or NO_ADDITIONAL_ADDRESSES, an ID above the list mark replaces list and list mark; else
-- the list is stale"
abbrev pub replaces : Request → IkeRecord → Bool
replaces q r = has_list (seen_in q) && leb r.list_mark q.asks.id

-- "Unknown payloads and unknown notifications are added to that record's tally, one each."
abbrev pub unknown_in : Request → ℕ
unknown_in q = (seen_in q).tally.unknown_payloads + (seen_in q).tally.unknown_notifies

abbrev tally_after : Request → IkeRecord → ℕ
tally_after q r = tallied r.unknown (unknown_in q)

-- The column "Tables".
abbrev pub same : Request → Tables → Tables
same q t = t

-- the record that the SPI means
abbrev changed : (IkeRecord → IkeRecord) → Request → List IkeRecord → List IkeRecord
changed f q ike = set ike (place_of ike_spi q.spi ike) (f (meant ike q.spi))

-- "tally and update mark": pair, list mark, list and pending check stay as they are, and so does every other record
abbrev marked : Request → IkeRecord → IkeRecord
marked q r =
    rewritten r.pair (q.asks.id + 1) r.list_mark r.count r.addresses (tally_after q r) r.check r

abbrev pub tally_and_mark : Request → Tables → Tables
tally_and_mark q t = tables (changed (marked q) q t.ike) t.ipsec

-- "as steps 1 to 3": an update that applies sets the mark and moves the record; a list that replaces, list and list
-- mark. 02, E6: "kept when its update is applied, in place of an older one", the pending check; "An applied update now
-- moves the IKE record at once, but its IPsec records only after a return routability check."
abbrev pub stepped : Request → IkeRecord → IkeRecord
stepped q r =
    let up = applies q r in
    let new = replaces q r in
    let l = (seen_in q).list in
    rewritten (cond up q.asks.pair r.pair) (cond up (q.asks.id + 1) r.update_mark)
    (cond new (q.asks.id + 1) r.list_mark) (cond new (min l.count addresses_most) r.count)
    (cond new (addresses_in q.asks.body l) r.addresses) (tally_after q r) (cond up q.asks.check r.check) r

abbrev pub as_steps : Request → Tables → Tables
as_steps q t = tables (changed (stepped q) q t.ike) t.ipsec

-- The column "Response".
abbrev pub none : Request → List Notification
none q = []

-- "INVALID_SYNTAX (7)": "Answers 6 and 7 copy no COOKIE2." 02, E4: "The wire response stays."
abbrev pub syntax_error : Request → List Notification
syntax_error q = notification invalid_syntax [] ∷ []

-- "UNSUPPORTED_CRITICAL_PAYLOAD (1), data: its type"
abbrev pub unsupported_critical : Request → List Notification
unsupported_critical q =
    let critical = (reading q.asks.first q.asks.body).critical in
    notification unsupported_critical_payload (critical ∷ []) ∷ []

-- step 4: "for 8 and 9 the error, then COOKIE2 if the request had it": UNEXPECTED_NAT_DETECTED (41),
-- UNACCEPTABLE_ADDRESSES (40)
abbrev pub error_then_cookie : ℕ → Request → List Notification
error_then_cookie notify_type q = notification notify_type [] ∷ cookie_notifies (cookie_in q.asks.body (seen_in q))

-- step 4: "the two lent values, source first; then COOKIE2 unchanged"
abbrev pub as_step4 : Request → List Notification
as_step4 q =
    cond (wants_nats (seen_in q)) (nat_notifies q.asks.nat-source q.asks.nat-destination) []
    ++ cookie_notifies (cookie_in q.asks.body (seen_in q))

-- A row: the number, the response, and the tables after it.
pub record NumberRow : Type 0 where
  pub number : ℕ
  pub response : Request → List Notification
  pub tables : Request → Tables → Tables

abbrev pub number_row : Number → (Request → List Notification) → (Request → Tables → Tables) → NumberRow
number_row n response left = record { number = number_of n; response = response; tables = left }

-- 02, E9: "A call for one operator finds only its own records, else answer 4"; no number is new for a request.
abbrev pub number_rows : List NumberRow
number_rows =
    number_row Done as_step4 as_steps
    ∷ number_row BadArgument none same
    ∷ number_row OutputTooShort none same
    ∷ number_row BodyTooLong none same
    ∷ number_row NoSuchRecord none same
    ∷ number_row MobikeNotAgreed none same
    ∷ number_row BadChainLength syntax_error same
    ∷ number_row BadNotify syntax_error same
    ∷ number_row BadDataSize syntax_error same
    ∷ number_row Repeated syntax_error same
    ∷ number_row OctetsAfterEnd syntax_error same
    ∷ number_row UnknownCritical unsupported_critical same
    ∷ number_row AddressesAltered (error_then_cookie unexpected_nat_detected) tally_and_mark
    ∷ number_row NotAcceptable (error_then_cookie unacceptable_addresses) tally_and_mark
    ∷ []

-- P holds of some element.
module _ {A : Type 0} (P : A → Type 0) where
  abbrev pub Some : List A → Type 0
  Some [] = ⊥
  Some (x ∷ xs) = P x ⊎ Some xs

-- What a request gives back is a row: number, response with its first type and its length, tables.
pub record Gives (policies : List Policy) (t : Tables) (q : Request) (r : NumberRow) : Type 0 where
  pub number : (handled policies t.ike t.ipsec q).reply.number ≡ r.number
  pub octets : handled_response policies t.ike t.ipsec q ≡ chained (r.response q) 0
  pub first : (handled policies t.ike t.ipsec q).reply.first ≡ first_type (r.response q) 0
  pub long : (handled policies t.ike t.ipsec q).reply.length ≡ length (chained (r.response q) 0)
  pub left : after_request policies q t ≡ r.tables q t

-- Demand 1: "Each refusal has a number in document 01. It changes no table and writes nothing but what that table
-- names." Of every request, whatever it names as its operator, from any tables and policies; no two rows have one
-- number.
abbrev pub AsTheTable : Type 0
AsTheTable = (policies : List Policy) (t : Tables) (q : Request) → Some (Gives policies t q) number_rows
