-- Trusted. The meaning of a payload chain, and what reading it gives: 01, "The payload chain", and 02, E4.
--
--   Chain            payloads one behind the other, each with its offset: `payload at content rest`, up to `ends` or
--                    to the first that is `faulty` by itself
--   chain_at          the chain in a body from an offset on, where a payload of this type stands
--   count            how many payloads a chain has
--   payloads_before   how many of them begin before an offset
--   Scan             how reading a chain ends, and what was seen up to there
--   Outcome          `Whole`, or `Broken` by a fault at an offset
--   scanned          reading a chain after what was seen
--   reading          what the reader gives for a first type and a body
--   fault_given       that a chain is read whole, as a check of a call
--   fault_number      the number that a fault gives
--   fault_type        the payload type that is told with it
--   one_to_seven       a number is one of 01's "answers 1 to 7"
--   count_told        the payload count that an answer with this number tells
--   ReadAs           what the reader promises
use Rattle.std.specs.Prelude.{ℕ, zero, suc, ◌+◌, ◌-◌, ◌≡◌, List, Bool, cond, ◌&&◌, ◌||◌, not, length, get_or, eqb, leb, ltb}
use Rattle.octets.specs.Checks.{Check}
use Rattle.octets.specs.Limits.{body_most, notify_header}
use Rattle.octets.specs.Numbers.{number_of}
use Rattle.octets.specs.declared.number.Number.{Number}
use Rattle.octets.specs.declared.number.Number.TheVariants.{Done, BadArgument, BodyTooLong, UnknownCritical}
use Rattle.octets.specs.declared.number.Number.TheVariants.{BadChainLength, BadNotify, BadDataSize}
use Rattle.octets.specs.declared.number.Number.TheVariants.{Repeated, OctetsAfterEnd}
use Rattle.payload.specs.Payload.{Found, Payload, Faulty, payload_at}
use Rattle.payload.specs.declared.payload.Fault.{Fault}
use Rattle.payload.specs.declared.payload.Fault.TheVariants.{ChainLength, NotifyShape, DataSize}
use Rattle.payload.specs.declared.payload.Fault.TheVariants.{Conflict, Leftover, Critical}
use Rattle.payload.specs.declared.payload.Content.{Content}
use Rattle.findings.specs.Seen.{nothing_seen, content_noted, conflicts}
use Rattle.findings.specs.declared.seen.Seen.{Seen}
use Rattle.reader.specs.declared.read.Reading.{Reading}

-- 01: "A chain's meaning is its first payload followed by the meaning of the rest." It stops at the end of the chain
-- or at the first payload that is faulty by itself; a payload and a fault stand with their offset.
pub data Chain : Type 0 where
  ends : Chain
  faulty : Fault → ℕ → Chain
  payload : ℕ → Content → Chain → Chain

-- 01: "the number of payloads in the chain".
abbrev pub count : Chain → ℕ
count ends = 0
count (faulty f at) = 0
count (payload at content rest) = suc (count rest)

-- 02, E4: "the payload's ordinal from 0"; "for 65, the number of payloads before". The payloads stand one behind the
-- other, so those before an offset are the ones that begin before it.
abbrev pub payloads_before : Chain → ℕ → ℕ
payloads_before ends offset = 0
payloads_before (faulty f at) offset = 0
payloads_before (payload at content rest) offset = cond (ltb at offset) (suc (payloads_before rest offset)) 0

-- the payload found at `at`, followed by the rest, which begins where it ends
abbrev pub link : (ℕ → Chain) → ℕ → Found → Chain
link rest at (Faulty f) = faulty f at
link rest at (Payload size content) = payload at content (rest (at + size))

-- 01: "Type 0 ends the chain."; "octets after type 0 (offset of the first)".
abbrev pub chain_end : List ℕ → ℕ → Chain
chain_end body at = cond (eqb at (length body)) ends (faulty Leftover at)

-- The chain from `at` on, where a payload of type `payload_type` stands; its first octet is the type of the next. Each
-- payload has at least 4 octets, so as many steps as there are octets left, and one, are more than enough
-- (`chain_step` in proofs/Chain.antt shows that no step is missing).
unfoldable pub chain : ℕ → List ℕ → ℕ → ℕ → Chain
chain zero body payload_type at = ends
chain (suc steps) body payload_type at =
    cond (eqb payload_type 0) (chain_end body at)
    (link (chain steps body (get_or body at 0)) at (payload_at payload_type body at))

unfoldable pub chain_at : List ℕ → ℕ → ℕ → Chain
unfolding chain
chain_at body payload_type at = chain (suc (length body - at)) body payload_type at

-- how reading a chain ends: at its end, or at a fault and its offset
pub data Outcome : Type 0 where
  Whole : Outcome
  Broken : Fault → ℕ → Outcome

pub record Scan : Type 0 where
  pub outcome : Outcome
  pub seen : Seen

abbrev pub stopped : Outcome → Seen → Scan
stopped outcome s = record { outcome = outcome; seen = s }

-- Reading a chain after what was seen: 01's faults that a payload has only beside an earlier one are found here. "The
-- fault at the smallest offset is told": a chain is read from its front. A notification of the table has no SPI, so
-- that its data begins behind the header.
unfoldable pub scanned : Seen → Chain → Scan
scanned s ends = stopped Whole s
scanned s (faulty f at) = stopped (Broken f at) s
scanned s (payload at content rest) =
    cond (conflicts s content) (stopped (Broken Conflict at) s)
    (scanned (content_noted s content (at + notify_header)) rest)

-- 02, E4: "61 (chain lengths), 62 (Notify lengths or SPI), 63 (data size), 64 (repeated or contradictory notification),
-- and 65 (octets after the end)"; 01: "critical gives answer 7".
abbrev pub fault_number : Fault → Number
fault_number ChainLength = BadChainLength
fault_number NotifyShape = BadNotify
fault_number DataSize = BadDataSize
fault_number Conflict = Repeated
fault_number Leftover = OctetsAfterEnd
fault_number (Critical payload_type) = UnknownCritical

-- 01: "UNSUPPORTED_CRITICAL_PAYLOAD (1), data: its type": the type that a refusal with 7 tells, else 0.
abbrev pub fault_type : Fault → ℕ
fault_type ChainLength = 0
fault_type NotifyShape = 0
fault_type DataSize = 0
fault_type Conflict = 0
fault_type Leftover = 0
fault_type (Critical payload_type) = payload_type

-- A refused reading holds nothing: 01: "[the count] is 0 with answers 1 to 7", and the cookie is "empty ... with
-- answers 1 to 7".
abbrev pub refused : ℕ → ℕ → ℕ → ℕ → Reading
refused number critical offset ordinal =
    record { number = number; critical = critical; offset = offset; ordinal = ordinal; seen = nothing_seen }

-- 01: "6 and 7 tell the payload's offset, other answers 0"; 02, E4: "also give the payload's ordinal from 0 (also with
-- 7; for 65, the number of payloads before; else 0)".
abbrev pub answer : Chain → Outcome → Seen → Reading
answer ch Whole s = record { number = number_of Done; critical = 0; offset = 0; ordinal = 0; seen = s }
answer ch (Broken f at) s = refused (number_of (fault_number f)) (fault_type f) at (payloads_before ch at)

-- What the reader gives for any first type and any octets. 01: "a body of 0 to 4,096 octets"; "3: body over 4,096".
unfoldable pub reading : ℕ → List ℕ → Reading
unfolding chain_at scanned
reading first body =
    let ch = chain_at body first 0 in
    let scan = scanned nothing_seen ch in
    cond (ltb body_most (length body)) (refused (number_of BodyTooLong) 0 0 0) (answer ch scan.outcome scan.seen)

-- The check of a chain among others of a call: one line, whose number is the reading's, since reading tells the first
-- fault in the body.
abbrev pub fault_given : Reading → Check
fault_given r = record { fails = not (eqb r.number 0); number = r.number }

-- 01: "answers 1 to 7"; 02, E4: "61 to 65 take 6's place in the order".
abbrev pub one_to_seven : ℕ → Bool
one_to_seven number =
    (leb (number_of BadArgument) number && leb number (number_of UnknownCritical))
    || (leb (number_of BadChainLength) number && leb number (number_of OctetsAfterEnd))

-- 01: "The answer counts the payloads read, and that count equals the number of payloads in the chain; it is 0 with
-- answers 1 to 7."
abbrev pub count_told : ℕ → ℕ → List ℕ → ℕ
count_told number first body = cond (one_to_seven number) 0 (count (chain_at body first 0))

-- What the reader promises: the reading as defined, and 01's "The answer counts the payloads read, and that count
-- equals the number of payloads in the chain".
pub record ReadAs (first : ℕ) (body : List ℕ) (r : Reading) : Type 0 where
  pub is : r ≡ reading first body
  pub counts : r.number ≡ number_of Done → r.seen.tally.payloads ≡ count (chain_at body first 0)
