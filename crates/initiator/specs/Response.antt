-- Trusted. What a response comes to: 01, "The display's end", its second paragraph.
--
--   sent               the cookie in the request that the response is to; empty: none
--   got                the cookie in the response; empty: none
--   Outcome            Close, NatSeen, Unacceptable, Failed or Accepted; `outcome_number` as it is told
--   closes             whether the cookie that was sent did not come back as it must
--   outcome_of          what a response that was read whole comes to
--   tally_of            how much in it was unknown
--   response_checks     the checks before that, in their order
--   assessment         all that is told of a response; `refusal` where a check fails
--   AssessedAs         what the exported call promises of it
use Rattle.std.specs.Prelude.{ℕ, ◌+◌, ◌-◌, ◌≡◌, List, [], ◌∷◌, Bool, cond, ◌&&◌, not, eqb, ltb, length}
use Rattle.octets.specs.declared.number.Number.TheVariants.{BadArgument, BodyTooLong}
use Rattle.octets.specs.Checks.{Check, ◌gives◌, first_failed}
use Rattle.octets.specs.Limits.{body_most}
use Rattle.octets.specs.Lists.{same_octets}
use Rattle.notify.specs.Notify.{kind_of}
use Rattle.notify.specs.declared.notify.NotifyKind.{NotifyKind}
use Rattle.notify.specs.declared.notify.NotifyKind.TheVariants.{UnacceptableAddresses, UnexpectedNatDetected}
use Rattle.findings.specs.Seen.{is}
use Rattle.values.specs.Values.{part_of}
use Rattle.findings.specs.declared.seen.Seen.{Seen}
use Rattle.findings.specs.declared.seen.Tally.{Tally}
use Rattle.reader.specs.Chain.{count, chain_at, reading, fault_given}
use Rattle.reader.specs.declared.read.Reading.{Reading}
use Rattle.asking.specs.Fits.{cookie_fits}
use Rattle.initiator.specs.declared.response.Assessment.{Assessment}
use Rattle.initiator.specs.declared.response.Outcome.{Outcome}
use Rattle.initiator.specs.declared.response.Outcome.TheVariants.{Close, NatSeen, Unacceptable, Failed, Accepted}

-- The number that a host is told for each of 01's outcomes, "close", "NAT seen (41), unacceptable (40) or failed",
-- "accepted"; the C header and the Rust crate have the same names.
abbrev pub outcome_number : Outcome → ℕ
outcome_number Close = 1
outcome_number NatSeen = 2
outcome_number Unacceptable = 3
outcome_number Failed = 4
outcome_number Accepted = 5

-- what is told for an outcome with a refusal
abbrev pub no_outcome : ℕ
no_outcome = 0

-- the same octets, and as many of them
abbrev pub same : List ℕ → List ℕ → Bool
same a b = eqb (length a) (length b) && same_octets (length a) a b

-- 01: "close, if a cookie was sent and a different one is there, or none and no error either". A COOKIE2 that was read
-- is not empty, so none is there exactly if `got` is empty.
unfoldable pub closes : List ℕ → List ℕ → ℕ → Bool
closes sent got errors = not (eqb (length sent) 0) && cond (eqb (length got) 0) (eqb errors 0) (not (same sent got))

-- 01: "told as NAT seen (41), unacceptable (40) or failed (any other type below 16384)".
abbrev pub told_as : NotifyKind → Outcome
told_as k = cond (is k UnexpectedNatDetected) NatSeen (cond (is k UnacceptableAddresses) Unacceptable Failed)

unfoldable pub error_outcome : ℕ → Outcome
error_outcome notify-type = told_as (kind_of notify-type)

-- 01: "close ...; else the first error ...; else accepted".
unfoldable pub outcome_of : List ℕ → List ℕ → Tally → Outcome
outcome_of sent got t =
    cond (closes sent got t.errors) Close
    (cond (eqb t.errors 0) Accepted
    (error_outcome t.first_error))

-- 01: "a tally from 0, counted as in step 1, with a COOKIE2 not asked for added and notify types below 16384 left out".
unfoldable pub tally_of : List ℕ → List ℕ → Tally → ℕ
tally_of sent got t =
    t.unknown_payloads + (t.unknown_notifies - t.errors)
    + cond (eqb (length sent) 0) (cond (eqb (length got) 0) 0 1) 0

-- 01: "after checks 1, 3, 6, 7 (which write nothing here)"; 02, E4: "61 to 65 take 6's place in the order". These and 7
-- are found by reading (`fault_given`).
abbrev pub response_checks : List ℕ → ℕ → List ℕ → List Check
response_checks sent first body =
    not (cookie_fits (length sent)) gives BadArgument
    ∷ ltb body_most (length body) gives BodyTooLong
    ∷ fault_given (reading first body)
    ∷ []

-- 01: "6 and 7 tell the payload's offset, other answers 0": the reading's where the number told is the reading's.
abbrev pub offset_told : ℕ → Reading → ℕ
offset_told number r = cond (eqb number r.number) r.offset 0

-- 02, E4: "also give the payload's ordinal from 0 (...; else 0)", likewise
abbrev pub ordinal_told : ℕ → Reading → ℕ
ordinal_told number r = cond (eqb number r.number) r.ordinal 0

-- 01: "refusals give 0"; the cookie is "empty ... with answers 1 to 7".
abbrev pub refusal : ℕ → ℕ → ℕ → Assessment
refusal number offset ordinal =
    record {
      number = number;
      outcome = no_outcome;
      payloads = 0;
      offset = offset;
      ordinal = ordinal;
      tally = 0;
      cookie = 0;
      cookie_len = 0;
    }

-- A response that was read whole, with the cookie in it. 01: "COOKIE2's data is handed to the host as a part of the
-- lent body".
abbrev pub whole_assessment : List ℕ → List ℕ → Seen → Assessment
whole_assessment sent got s =
    record {
      number = 0;
      outcome = outcome_number (outcome_of sent got s.tally);
      payloads = s.tally.payloads;
      offset = 0;
      ordinal = 0;
      tally = tally_of sent got s.tally;
      cookie = s.cookie;
      cookie_len = s.cookie_len;
    }

-- 01: "The judge takes the cookie sent (length 0: none) and a response, and gives, after checks ...".
unfoldable pub assessment : List ℕ → ℕ → List ℕ → Assessment
assessment sent first body =
    let r = reading first body in
    let number = first_failed (response_checks sent first body) in
    cond (eqb number 0)
    (whole_assessment sent (part_of body r.seen.cookie r.seen.cookie_len) r.seen)
    (refusal number (offset_told number r) (ordinal_told number r))

-- What is promised of a response: the assessment as defined, and 01's "The answer counts the payloads read, and that
-- count equals the number of payloads in the chain".
pub record AssessedAs (sent : List ℕ) (first : ℕ) (body : List ℕ) (a : Assessment) : Type 0 where
  pub is : a ≡ assessment sent first body
  pub counts : a.number ≡ 0 → a.payloads ≡ count (chain_at body first 0)
