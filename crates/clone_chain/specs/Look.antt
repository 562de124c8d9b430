-- Inner. What looking at a chain for the two notify types of a clone request gives, as the code finds it: payload by
-- payload from the front, up to where the reading of the chain stopped. `proofs/Turn.antt` ties what is read off the
-- body to the chain, and `proofs/Looked.antt` what is found to the trusted `clone_outcome` and `holds`.
use Rattle.std.specs.Prelude.{ℕ, ◌+◌, ◌≤◌, ◌<◌, ◌≡◌, List, Bool, false, cond, ◌||◌, not, eqb, ltb, get_or}
use Rattle.octets.specs.Limits.{notify_header}
use Rattle.octets.specs.Numbers.{number_of}
use Rattle.octets.specs.declared.number.Number.{Number}
use Rattle.octets.specs.declared.number.Number.TheVariants.{BadNotify, BadDataSize}
use Rattle.octets.specs.Octets.{be16}
use Rattle.octets.specs.Wire.{notify_payload, clone_ike_sa_supported, clone_ike_sa}
use Rattle.payload.specs.Payload.{spi_size_at, notify_type_at}
use Rattle.reader.specs.Chain.{Chain, ends, faulty, payload, Outcome, Whole, Broken, fault_number, refused}
use Rattle.reader.specs.declared.read.Reading.{Reading}
use Rattle.clone_chain.specs.CloneChain.{is_clone, clone_fault, is_of_type}
use Rattle.clone_chain.specs.declared.read.CloneReading.{CloneReading}

-- What looking for the two gives: the first of them that is malformed, by its number (0: none), its offset and how many
-- payloads stand before it; and which of them were found up to there.
pub record Look : Type 0 where
  pub number : ℕ
  pub offset : ℕ
  pub ordinal : ℕ
  pub supported : Bool
  pub clone : Bool

-- the number of an outcome, 0 where nothing is wrong
abbrev pub outcome_number : Outcome → ℕ
outcome_number Whole = 0
outcome_number (Broken f at) = number_of (fault_number f)

-- the notify type of the payload of this type at `at`; 0, which is neither of the two, where it is no Notify
abbrev pub notify_type_of : ℕ → List ℕ → ℕ → ℕ
notify_type_of payload_type body at = cond (eqb payload_type notify_payload) (be16 body (at + notify_type_at)) 0

-- what is wrong with a Notify of this type and of `size` octets as one of the two: without an SPI it has data where it
-- is longer than its header
abbrev pub number_at : List ℕ → ℕ → ℕ → ℕ → ℕ
number_at body at notify_type size =
    cond (not (is_clone notify_type)) 0
    (cond (not (eqb (get_or body (at + spi_size_at) 0) 0)) (number_of BadNotify)
    (cond (not (eqb size notify_header)) (number_of BadDataSize) 0))

abbrev pub looked : ℕ → ℕ → ℕ → Bool → Bool → Look
looked number offset ordinal supported clone =
    record { number = number; offset = offset; ordinal = ordinal; supported = supported; clone = clone }

-- what the code says of a look: nothing is wrong, and which of the two were found
pub record WellFormed (l : Look) (supported clone : Bool) : Type 0 where
  pub none : l.number ≡ 0
  pub supports : l.supported ≡ supported
  pub clones : l.clone ≡ clone

-- or one of the two is malformed
pub record Malformed (l : Look) (n : Number) (offset ordinal : ℕ) : Type 0 where
  pub number : l.number ≡ number_of n
  pub some : l.number ≡ 0 → ⊥
  pub there : l.offset ≡ offset
  pub before : l.ordinal ≡ ordinal

-- Looking at the payloads that begin before `stop`, after so many others and with this known of them. It ends at the
-- first of the two that is malformed.
unfoldable pub look_to : ℕ → List ℕ → ℕ → Bool → Bool → Chain → Look
look_to stop body ordinal supported clone ends = looked 0 0 ordinal supported clone
look_to stop body ordinal supported clone (faulty f at) = looked 0 0 ordinal supported clone
look_to stop body ordinal supported clone (payload at content rest) =
    let number = outcome_number (clone_fault body at content) in
    let is_supported = is_of_type clone_ike_sa_supported content in
    let is_clone_lem = is_of_type clone_ike_sa content in
    cond (ltb at stop)
    (cond (eqb number 0) (look_to stop body (ordinal + 1) (supported || is_supported) (clone || is_clone_lem) rest)
    (looked number at ordinal supported clone))
    (looked 0 0 ordinal supported clone)

-- no payload that begins before `stop` is faulty by itself
abbrev pub Reaches : ℕ → Chain → Type 0
Reaches stop ends = Unit {0}
Reaches stop (faulty f at) = stop ≤ at
Reaches stop (payload at content rest) = at < stop → Reaches stop rest

-- where a reading of so many octets stopped
abbrev pub stop_of : Reading → ℕ → ℕ
stop_of r size = cond (eqb r.number 0) size r.offset

abbrev pub clone_read : Reading → Bool → Bool → CloneReading
clone_read r supported clone = record { reading = r; supported = supported; clone = clone }

-- a reading and what was looked at up to where it stopped: what is wrong there comes first
abbrev pub told : Reading → Look → CloneReading
told r l =
    cond (not (eqb l.number 0)) (clone_read (refused l.number 0 l.offset l.ordinal) false false)
    (cond (not (eqb r.number 0)) (clone_read r false false) (clone_read r l.supported l.clone))
