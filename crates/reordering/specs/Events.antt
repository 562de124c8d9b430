-- Trusted. What demand 3's lists hold, requests and check responses, one after the other: which belong to one IKE SA,
-- which are sound, and what an IKE SA holds.
--   Event                   a request or a check response; `spi_of`, `id_of`
--   after_event              the tables after it
--   Answer, answer          what it gets: all that is given back but the tables
--   Apart                   two of no common IKE SA
--   sound                   01's term, of requests alone
--   updates_for              what the updates for an SPI carry
--   held_by                  what an IKE SA holds, with its update mark
use Rattle.std.specs.Prelude.{ℕ, ◌≡◌, ◌⊎◌, List, [], ◌∷◌, Bool, false, cond, ◌&&◌, eqb}
use Rattle.order.specs.Order.{Update, Held}
use Rattle.values.specs.Values.{part_of}
use Rattle.policy.specs.declared.rules.Policy.{Policy}
use Rattle.records.specs.declared.ike.IkeRecord.{IkeRecord}
use Rattle.tables.specs.Tables.{Tables, in_use, meant}
use Rattle.checking.specs.Checks.{Request}
use Rattle.responder.specs.Handle.{seen_in, after_request}
use Rattle.initiator.specs.declared.response.Assessment.{Assessment}
use Rattle.routability.specs.Routability.{CheckResponse, checked, after_response}
use Rattle.reordering.specs.Requests.{RequestAnswer, request_answer, sound_request}

-- 02, E6: "In demand 3 the list also holds check responses, refused ones included".
pub data Event : Type 0 where
  request : Request → Event
  response : CheckResponse → Event

-- 01: "an IKE SA's requests are all those that give its SPI", whichever operator they name (02, E9); E6: "each counted
-- as one of the requests that give its SPI".
abbrev pub spi_of : Event → ℕ
spi_of (request q) = q.spi
spi_of (response q) = q.spi

abbrev pub id_of : Event → ℕ
id_of (request q) = q.asks.id
id_of (response q) = q.id

abbrev pub after_event : List Policy → Event → Tables → Tables
after_event policies (request q) t = after_request policies q t
after_event policies (response q) t = after_response q t

-- 01: "The same answer is all that the call gives back but the tables, the cookie by its octets". A check response
-- writes nothing.
pub record ResponseAnswer : Type 0 where
  pub told : Assessment
  pub cookie : List ℕ

unfoldable pub response_answer : CheckResponse → Tables → ResponseAnswer
response_answer q t =
    let a = (checked t.ike t.ipsec q).told in
    record { told = a; cookie = part_of q.body a.cookie a.cookie_len }

pub data Answer : Type 0 where
  replied : RequestAnswer → Answer
  assessed : ResponseAnswer → Answer

abbrev pub answer : List Policy → Event → Tables → Answer
answer policies (request q) t = replied (request_answer policies q t)
answer policies (response q) t = assessed (response_answer q t)

-- Two that belong to no common IKE SA of the starting tables: they give different SPIs, or one that no record has. Two
-- operators' calls of one SPI are not apart: where two records have it, a check may close the lower one, A's, and the
-- one meant is then B's.
abbrev pub Apart : Tables → Event → Event → Type 0
Apart t e f = (spi_of e ≡ spi_of f → ⊥) ⊎ (in_use (spi_of e) t ≡ false)

-- 02, E6: "only an IKE SA without check responses may change its own sequence": so none of them is sound.
abbrev pub sound : List Policy → Tables → Event → Bool
sound policies t (request q) = sound_request policies t q
sound policies t (response q) = false

-- What an update carries, and what an IKE SA holds of it: the pair, or the pending check.
module _ {A : Type 0} where
  -- the updates that requests for an SPI carry, each with its ID
  unfoldable pub updates_for : (Request → A) → ℕ → List Event → List (Update A)
  updates_for carried spi [] = []
  updates_for carried spi (response q ∷ es) = updates_for carried spi es
  updates_for carried spi (request q ∷ es) =
      cond (eqb q.spi spi && (seen_in q).update)
      (record { id = q.asks.id; value = carried q } ∷ updates_for carried spi es)
      (updates_for carried spi es)

  -- what the record of an IKE SA holds, with its update mark
  abbrev pub held_by : (IkeRecord → A) → ℕ → Tables → Held A
  held_by holds spi t =
      let e = meant t.ike spi in
      record { mark = e.update_mark; value = holds e }
