-- Trusted. The two round trips of demand 2 where one of the two notifications of a clone is asked for: "Reading a
-- written request gives back what was asked for; writing a plainly read one gives back its octets." Where neither is,
-- `exchange/specs/RoundTrips.antt` has them, and the whole writer is the one that it speaks of.
--
--   CloneGivenBack         reading this chain in the clone's reading gives back what was asked for
--   CloneReadingWritten    the first round trip
--   CloneWrittenAgain      writing what this chain gave writes it again
--   CloneWritingRead       the second round trip
--   SameAsEver             the whole writer is 01's; `AsEver`: where neither of the two is asked for
--   Tallied                01's reading tallies this chain's notification; `TalliedElsewhere`: where it was written
use Rattle.std.specs.Prelude.{ℕ, ◌≤◌, ◌≡◌, List, true, false, length}
use Rattle.octets.specs.Limits.{request_room}
use Rattle.findings.specs.declared.seen.Tally.{Tally}
use Rattle.reader.specs.Chain.{reading}
use Rattle.clone_chain.specs.CloneChain.{clone_reading}
use Rattle.asking.specs.Draft.{Draft}
use Rattle.asking.specs.declared.ask.CloneAsk.{CloneAsk}
use Rattle.requests.specs.Written.{written, written_octets}
use Rattle.clone_requests.specs.WrittenAny.{asks_clone, written_any, written_any_octets}
use Rattle.exchange.specs.Plain.{plainly_read}
use Rattle.exchange.specs.RoundTrips.{asked_for, Octets}
use Rattle.clone_exchange.specs.ClonePlain.{clone_given, also_given, clone_plain}

-- "Reading a written request gives back what was asked for": that one of the two, in the one payload that there is, and
-- nothing else.
pub record CloneGivenBack (a : CloneAsk) (q : Draft) (first : ℕ) (body : List ℕ) : Type 0 where
  pub number : (clone_reading first body).reading.number ≡ 0
  pub payloads : (clone_reading first body).reading.seen.tally.payloads ≡ 1
  pub clone : clone_given first body ≡ a
  pub values : also_given first body ≡ asked_for q

abbrev pub CloneReadingWritten : Type 0
CloneReadingWritten =
    (a : CloneAsk) (q : Draft) (room : ℕ) → asks_clone a ≡ true → (written_any a q room).number ≡ 0
    → CloneGivenBack a q (written_any a q room).first (written_any_octets a q room)

-- "writing a plainly read one gives back its octets": first type, length and every octet, in any output that is long
-- enough.
abbrev pub CloneWrittenAgain : ℕ → List ℕ → Type 0
CloneWrittenAgain first body =
    let a = clone_given first body in
    let q = also_given first body in
    (room : ℕ) → request_room ≤ room
    → (written_any a q room ≡ record { number = 0; first = first; length = length body })
    × (written_any_octets a q room ≡ body)

-- A chain in which one of the two stands is plainly read exactly if writing what it gave writes it again.
abbrev pub CloneWritingRead : Type 0
CloneWritingRead =
    (first : ℕ) (body : List ℕ) → Octets body
    → (clone_plain first body ≡ true → CloneWrittenAgain first body)
    × (asks_clone (clone_given first body) ≡ true → CloneWrittenAgain first body → clone_plain first body ≡ true)

-- Where neither of the two is asked for, the writer is 01's, so that the round trips of requests, and the exchange,
-- speak of the exported call.
pub record SameAsEver (a : CloneAsk) (q : Draft) (room : ℕ) : Type 0 where
  pub told : written_any a q room ≡ written q room
  pub octets : written_any_octets a q room ≡ written_octets q room

abbrev pub AsEver : Type 0
AsEver = (a : CloneAsk) (q : Draft) (room : ℕ) → asks_clone a ≡ false → SameAsEver a q room

-- one payload, and it is a notification that is not known
abbrev pub one_unknown : Tally
one_unknown =
    record { payloads = 1; unknown_payloads = 0; unknown_notifies = 1; errors = 0; first_error = 0 }

-- E8: "known and decided only in a CREATE_CHILD_SA request given as an IKE rekey"; 01: "Every other notify type is
-- tallied as unknown". So such a chain is not plainly read there.
pub record Tallied (first : ℕ) (body : List ℕ) : Type 0 where
  pub number : (reading first body).number ≡ 0
  pub tally : (reading first body).seen.tally ≡ one_unknown
  pub not_plain : plainly_read first body ≡ false

abbrev pub TalliedElsewhere : Type 0
TalliedElsewhere =
    (a : CloneAsk) (q : Draft) (room : ℕ) → asks_clone a ≡ true → (written_any a q room).number ≡ 0
    → Tallied (written_any a q room).first (written_any_octets a q room)
