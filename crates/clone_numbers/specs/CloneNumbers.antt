-- Trusted. The numbers that a clone request gives back, as 01's table has those of requests: for each number the
-- response, the payloads that are counted, and the IKE table after it (02, E8 and E9).
--   nothing, only, syntax_error, unsupported_critical      the response
--   no_payloads, all_payloads                              what is counted
--   unchanged, with_clone                                 the IKE table after it
--   CloneRow, clone_row, clone_rows                        a row, and the table
--   CloneGives, CloneAsTheTable       a clone request gives back what a row says; every one does so for some row
use Rattle.std.specs.Prelude.{ℕ, ◌≡◌, List, [], ◌∷◌, length, set}
use Rattle.octets.specs.declared.number.Number.{Number}
use Rattle.octets.specs.declared.number.Number.TheVariants.{Done, BadArgument, OutputTooShort, BodyTooLong}
use Rattle.octets.specs.declared.number.Number.TheVariants.{NoSuchRecord, SpiInUse, UnknownCritical}
use Rattle.octets.specs.declared.number.Number.TheVariants.{BadChainLength, BadNotify, BadDataSize}
use Rattle.octets.specs.declared.number.Number.TheVariants.{Repeated, OctetsAfterEnd}
use Rattle.octets.specs.declared.number.Number.TheVariants.{CloningNotAgreed, NoCloneRequest, CannotCloneNow}
use Rattle.octets.specs.declared.number.Number.TheVariants.{PeerAtLimit, OperatorAtShare}
use Rattle.octets.specs.Lists.{place_of}
use Rattle.octets.specs.Numbers.{number_of}
use Rattle.octets.specs.Wire.{invalid_syntax, unsupported_critical_payload}
use Rattle.octets.specs.Wire.{clone_ike_sa, temporary_failure, no_additional_sas}
use Rattle.writing.specs.Notify.{Notification, notification, first_type, chained}
use Rattle.records.specs.Records.{ike_spi, clone_of}
use Rattle.records.specs.declared.ike.IkeRecord.{IkeRecord}
use Rattle.tables.specs.Tables.{meant}
use Rattle.reader.specs.Chain.{count, chain_at}
use Rattle.clone_chain.specs.CloneChain.{clone_reading}
use Rattle.cloning.specs.Clone.{CloneRequest, cloned}
use Rattle.numbers.specs.Numbers.{Some}

-- E8: "40 and 44 write nothing"; 01's table has nothing with 1 to 4 and 11.
abbrev pub nothing : CloneRequest → List Notification
nothing q = []

-- one notification with no data: E8: "Done writes CLONE_IKE_SA", "TEMPORARY_FAILURE, 43", "NO_ADDITIONAL_SAS, 35"; E9:
-- with 43 "cloning then writes NO_ADDITIONAL_SAS"
abbrev pub only : ℕ → CloneRequest → List Notification
only notify_type q = notification notify_type [] ∷ []

-- 01: "INVALID_SYNTAX (7)"; 02, E4: "The wire response stays."
abbrev pub syntax_error : CloneRequest → List Notification
syntax_error q = notification invalid_syntax [] ∷ []

-- 01: "UNSUPPORTED_CRITICAL_PAYLOAD (1), data: its type"
abbrev pub unsupported_critical : CloneRequest → List Notification
unsupported_critical q =
    let critical = (clone_reading q.first q.body).reading.critical in
    notification unsupported_critical_payload (critical ∷ []) ∷ []

-- 01: "it is 0 with answers 1 to 7", and with 40, before which nothing is read
abbrev pub no_payloads : CloneRequest → ℕ
no_payloads q = 0

-- 01: "that count equals the number of payloads in the chain"
abbrev pub all_payloads : CloneRequest → ℕ
all_payloads q = count (chain_at q.body q.first 0)

abbrev pub unchanged : CloneRequest → List IkeRecord → List IkeRecord
unchanged q ike = ike

-- E8: "The clone has a new SPI, the same pair, peer and agreements, ...; nothing else changes." 01: "Opening takes the
-- lowest free place".
abbrev pub with_clone : CloneRequest → List IkeRecord → List IkeRecord
with_clone q ike = set ike (place_of ike_spi 0 ike) (clone_of q.new_spi (meant ike q.spi))

pub record CloneRow : Type 0 where
  pub number : ℕ
  pub response : CloneRequest → List Notification
  pub payloads : CloneRequest → ℕ
  pub ike : CloneRequest → List IkeRecord → List IkeRecord

abbrev pub clone_row : Number → (CloneRequest → List Notification) → (CloneRequest → ℕ)
    → (CloneRequest → List IkeRecord → List IkeRecord) → CloneRow
clone_row n response payloads left =
    record { number = number_of n; response = response; payloads = payloads; ike = left }

-- E8: "Refusals, in order: 1, 2, 3, 4, 40 support not agreed, 6, 7, 44 no CLONE_IKE_SA there, 41 being deleted or table
-- full (TEMPORARY_FAILURE, 43), 42 peer has 4 records or more (NO_ADDITIONAL_SAS, 35), 11"; E4: "61 to 65 take 6's
-- place in the order"; E9: "43 operator at its share ..., after every 11", and "A call for one operator finds only its
-- own records, else answer 4".
abbrev pub clone_rows : List CloneRow
clone_rows =
    clone_row Done (only clone_ike_sa) all_payloads with_clone
    ∷ clone_row BadArgument nothing no_payloads unchanged
    ∷ clone_row OutputTooShort nothing no_payloads unchanged
    ∷ clone_row BodyTooLong nothing no_payloads unchanged
    ∷ clone_row NoSuchRecord nothing no_payloads unchanged
    ∷ clone_row CloningNotAgreed nothing no_payloads unchanged
    ∷ clone_row BadChainLength syntax_error no_payloads unchanged
    ∷ clone_row BadNotify syntax_error no_payloads unchanged
    ∷ clone_row BadDataSize syntax_error no_payloads unchanged
    ∷ clone_row Repeated syntax_error no_payloads unchanged
    ∷ clone_row OctetsAfterEnd syntax_error no_payloads unchanged
    ∷ clone_row UnknownCritical unsupported_critical no_payloads unchanged
    ∷ clone_row NoCloneRequest nothing all_payloads unchanged
    ∷ clone_row CannotCloneNow (only temporary_failure) all_payloads unchanged
    ∷ clone_row PeerAtLimit (only no_additional_sas) all_payloads unchanged
    ∷ clone_row SpiInUse nothing all_payloads unchanged
    ∷ clone_row OperatorAtShare (only no_additional_sas) all_payloads unchanged
    ∷ []

-- What a clone request gives back is a row: number, response with its first type and its length, payloads, IKE table.
pub record CloneGives (ike : List IkeRecord) (q : CloneRequest) (r : CloneRow) : Type 0 where
  pub number : (cloned ike q).reply.number ≡ r.number
  pub octets : (cloned ike q).octets ≡ chained (r.response q) 0
  pub first : (cloned ike q).reply.first ≡ first_type (r.response q) 0
  pub long : (cloned ike q).reply.length ≡ length (chained (r.response q) 0)
  pub payloads : (cloned ike q).reply.payloads ≡ r.payloads q
  pub left : (cloned ike q).ike ≡ r.ike q ike

-- Demand 1: "Each refusal has a number in document 01. It changes no table and writes nothing but what that table
-- names." Of every clone request, whatever it names as its operator, from any table; no two rows have one number.
abbrev pub CloneAsTheTable : Type 0
CloneAsTheTable = (ike : List IkeRecord) (q : CloneRequest) → Some (CloneGives ike q) clone_rows
