-- Trusted. A clone request (RFC 7791): 02, E8; what `unmavreth_clone` gives back and leaves.
--
--   CloneRequest          a clone request, as it is given
--   records_of             how many IKE records of an operator a peer has
--   early_clone_checks      the checks before its chain is read, in their order; `early_clone` the first that fails
--   late_clone_checks       those by its chain and behind it, `whole_clone_checks`; `late_clone` likewise
--   clone_notifies         the response; `clone_notify` the notify type that a number writes
--   clone_told             all that is told of it
--   Cloned, cloned        the same, with the response's octets and the IKE table after it
--   ClonedAs              what the exported call promises
use Rattle.std.specs.Prelude.{ℕ, ◌≡◌, List, [], ◌∷◌, Bool, cond, ◌||◌, not, eqb, leb, ltb, length, set}
use Rattle.octets.specs.Checks.{Check, ◌gives◌, first_failed}
use Rattle.octets.specs.Flags.{is_yes}
use Rattle.octets.specs.Operators.{is_operator}
use Rattle.octets.specs.Limits.{body_most, response_room, peer_records_most, ike_share}
use Rattle.octets.specs.Lists.{place_of, how_many}
use Rattle.octets.specs.Numbers.{number_of}
use Rattle.octets.specs.Wire.{clone_ike_sa, temporary_failure, no_additional_sas}
use Rattle.octets.specs.declared.number.Number.TheVariants.{Done, BadArgument, OutputTooShort, BodyTooLong}
use Rattle.octets.specs.declared.number.Number.TheVariants.{NoSuchRecord, SpiInUse, CloningNotAgreed}
use Rattle.octets.specs.declared.number.Number.TheVariants.{NoCloneRequest, CannotCloneNow, PeerAtLimit}
use Rattle.octets.specs.declared.number.Number.TheVariants.{OperatorAtShare}
use Rattle.writing.specs.Notify.{Notification, notification, placed, chained, first_type}
use Rattle.records.specs.Records.{ike_spi, clone_of, of_peer}
use Rattle.records.specs.declared.ike.IkeRecord.{IkeRecord}
use Rattle.tables.specs.Calls.{has_ike, ikes_of}
use Rattle.tables.specs.Tables.{meant}
use Rattle.reader.specs.Chain.{count, chain_at, fault_given}
use Rattle.reader.specs.declared.read.Reading.{Reading}
use Rattle.answering.specs.Core.{chain_error}
use Rattle.clone_chain.specs.CloneChain.{clone_reading}
use Rattle.clone_chain.specs.declared.read.CloneReading.{CloneReading}
use Rattle.cloning.specs.declared.clone.CloneReply.{CloneReply}

-- E8: "a CREATE_CHILD_SA request given as an IKE rekey (SPI, new SPI, first type, body)"; `room` is the
-- output's length. E9: and its operator.
pub record CloneRequest : Type 0 where
  pub spi : ℕ
  pub new_spi : ℕ
  pub first : ℕ
  pub body : List ℕ
  pub room : ℕ
  pub operator : ℕ

abbrev pub clone_request : ℕ → ℕ → ℕ → List ℕ → ℕ → ℕ → CloneRequest
clone_request spi new_spi first body room operator =
    record { spi = spi; new_spi = new_spi; first = first; body = body; room = room; operator = operator }

-- E9: "peer limits are per operator".
abbrev pub records_of : ℕ → ℕ → List IkeRecord → ℕ
records_of operator peer ike = how_many (of_peer operator peer) ike

-- E8: "Refusals, in order: 1, 2, 3, 4, 40 support not agreed", those before the chain is read. `there` says whether the
-- SPI means a record, and `e` is that record. E9: "A call for one operator finds only its own records, else answer 4".
abbrev pub early_clone_checks : Bool → IkeRecord → CloneRequest → List Check
early_clone_checks there e q =
    (eqb q.spi 0 || eqb q.new_spi 0) gives BadArgument
    ∷ not (is_operator q.operator) gives BadArgument
    ∷ ltb q.room response_room gives OutputTooShort
    ∷ ltb body_most (length q.body) gives BodyTooLong
    ∷ not there gives NoSuchRecord
    ∷ not (eqb e.agreed.operator q.operator) gives NoSuchRecord
    ∷ not (is_yes e.agreed.cloning) gives CloningNotAgreed
    ∷ []

unfoldable pub early_clone : Bool → IkeRecord → CloneRequest → ℕ
early_clone there e q = first_failed (early_clone_checks there e q)

-- E8: "6, 7", which reading tells, "44 no CLONE_IKE_SA there, 41 being deleted or table full (TEMPORARY_FAILURE, 43), 42
-- peer has 4 records or more (NO_ADDITIONAL_SAS, 35), 11"; E9: "43 operator at its share". `free` says whether a place is
-- free, `taken` whether a record has the new SPI, `records` how many the peer has, and `own` how many the operator.
abbrev pub whole_clone_checks : Bool → Bool → Bool → Bool → Bool → Bool → List Check
whole_clone_checks there deleting free limited taken full =
    not there gives NoCloneRequest
    ∷ (deleting || not free) gives CannotCloneNow
    ∷ limited gives PeerAtLimit
    ∷ taken gives SpiInUse
    ∷ full gives OperatorAtShare
    ∷ []

abbrev pub late_clone_checks : CloneReading → IkeRecord → Bool → ℕ → Bool → ℕ → List Check
late_clone_checks r e free records taken own =
    fault_given r.reading
    ∷ whole_clone_checks r.clone (is_yes e.deleting) free (leb peer_records_most records) taken (leb ike_share own)

unfoldable pub late_clone : CloneReading → IkeRecord → Bool → ℕ → Bool → ℕ → ℕ
late_clone r e free records taken own = first_failed (late_clone_checks r e free records taken own)

-- E8: "Done writes CLONE_IKE_SA"; "TEMPORARY_FAILURE, 43" with 41, "NO_ADDITIONAL_SAS, 35" with 42; E9: with 43 "cloning
-- then writes NO_ADDITIONAL_SAS"; "40 and 44 write nothing", and by 01's table 11 neither. The notify type that a number writes, of a chain that was read whole; 0: none.
-- An answer and a notify type of the same number are two things: answer 41 writes type 43.
abbrev pub clone_notify : ℕ → ℕ
clone_notify number =
    cond (eqb number (number_of Done)) clone_ike_sa
    (cond (eqb number (number_of CannotCloneNow)) temporary_failure
    (cond (eqb number (number_of PeerAtLimit)) no_additional_sas
    (cond (eqb number (number_of OperatorAtShare)) no_additional_sas 0)))

-- The response to a request whose chain was read: 01's errors for 61 to 65 and 7, else the notification of its number.
unfoldable pub clone_notifies : ℕ → Reading → List Notification
clone_notifies number r =
    let notify_type = clone_notify number in
    cond (not (eqb r.number 0)) (chain_error r)
    (cond (eqb notify_type 0) [] (notification notify_type [] ∷ []))

-- A refusal before the chain is read tells nothing but its number.
abbrev pub not_cloned : ℕ → CloneReply
not_cloned number = record { number = number; first = 0; payloads = 0; offset = 0; ordinal = 0; length = 0 }

-- 01: "The answer counts the payloads read"; a refused reading counts 0, and tells where it stopped.
unfoldable pub clone_told : ℕ → Reading → CloneReply
clone_told number r =
    let response = clone_notifies number r in
    record {
      number = number;
      first = first_type response 0;
      payloads = r.seen.tally.payloads;
      offset = r.offset;
      ordinal = r.ordinal;
      length = length (chained response 0);
    }

-- All that a clone request gives back: what is told, the response's octets, the IKE table after it.
pub record Cloned : Type 0 where
  pub reply : CloneReply
  pub octets : List ℕ
  pub ike : List IkeRecord

abbrev pub cloned_as : CloneReply → List ℕ → List IkeRecord → Cloned
cloned_as reply octets ike = record { reply = reply; octets = octets; ike = ike }

-- E8: "The clone has a new SPI, the same pair, peer and agreements, ..., and gets no IPsec records; nothing else
-- changes." 01: "Opening takes the lowest free place". It is lent no IPsec list.
unfoldable pub cloned : List IkeRecord → CloneRequest → Cloned
cloned ike q =
    let e = meant ike q.spi in
    let early = early_clone (has_ike q.spi ike) e q in
    let r = clone_reading q.first q.body in
    let records = records_of q.operator e.agreed.peer ike in
    let late = late_clone r e (has_ike 0 ike) records (has_ike q.new_spi ike) (ikes_of q.operator ike) in
    let told = clone_told late r.reading in
    let octets = chained (clone_notifies late r.reading) 0 in
    cond (not (eqb early 0)) (cloned_as (not_cloned early) [] ike)
    (cond (eqb late 0) (cloned_as told octets (set ike (place_of ike_spi 0 ike) (clone_of q.new_spi e)))
    (cloned_as told octets ike))

-- What is promised of a clone request on any IKE table and any output.
module _ (ike : List IkeRecord) (q : CloneRequest) (out : List ℕ) where
  pub record ClonedAs (reply : CloneReply) (ike_after : List IkeRecord) (out-after : List ℕ) : Type 0 where
    pub told : reply ≡ (cloned ike q).reply
    pub records : ike_after ≡ (cloned ike q).ike
    pub written : out-after ≡ placed out 0 (cloned ike q).octets
    -- 01: "that count equals the number of payloads in the chain"
    pub counts : reply.number ≡ 0 → reply.payloads ≡ count (chain_at q.body q.first 0)

-- the IKE table after a clone request
abbrev pub after_clone : CloneRequest → List IkeRecord → List IkeRecord
after_clone q ike = (cloned ike q).ike
