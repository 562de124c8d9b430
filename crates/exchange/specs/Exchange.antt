-- Trusted. One exchange: a written request, the responder's reply to it, and what the initiator makes of the response.
--
--   Carried          what the hosts must do between the two
--   Accepted         the initiator accepts a response
--   Understood       what holds of the reply and of the response
--   AllUnderstood    the statement: of every written request, from any policies and any tables
use Rattle.std.specs.Prelude.{ℕ, ◌≡◌, List}
use Rattle.octets.specs.declared.number.Number.TheVariants.{Done}
use Rattle.octets.specs.Numbers.{number_of}
use Rattle.payload.specs.declared.payload.Fault.{Fault}
use Rattle.reader.specs.Chain.{fault_number}
use Rattle.values.specs.Values.{part_of}
use Rattle.policy.specs.declared.rules.Policy.{Policy}
use Rattle.records.specs.declared.ike.IkeRecord.{IkeRecord}
use Rattle.records.specs.declared.ipsec.IpsecRecord.{IpsecRecord}
use Rattle.checking.specs.Checks.{Request as Received}
use Rattle.responder.specs.Handle.{handled, handled_response}
use Rattle.replying.specs.declared.reply.Reply.{Reply}
use Rattle.asking.specs.Draft.{Draft}
use Rattle.requests.specs.Written.{written, written_octets}
use Rattle.initiator.specs.Response.{outcome_number, assessment}
use Rattle.initiator.specs.declared.response.Assessment.{Assessment}
use Rattle.initiator.specs.declared.response.Outcome.TheVariants as told
use Rattle.exchange.specs.RoundTrips.{Sized}

-- What the hosts must do: hand the responder the first type and the octets that the writer gave. The SPI, the ID, the
-- packet's pair, the lent NAT values, the check that is lent, the responder's output and the operator (02, E9) are
-- free.
pub record Carried (q : Draft) (room : ℕ) (r : Received) : Type 0 where
  pub first : r.asks.first ≡ (written q room).first
  pub body : r.asks.body ≡ written_octets q room

-- accepted, with nothing unknown in the response, and the cookie that was sent is handed out of it
pub record Accepted (sent response : List ℕ) (a : Assessment) : Type 0 where
  pub number : a.number ≡ number_of Done
  pub outcome : a.outcome ≡ outcome_number told.Accepted
  pub tally : a.tally ≡ 0
  pub cookie : part_of response a.cookie a.cookie_len ≡ sent

-- The request is never answered with a fault's number, 61 to 65 or 7. Where the responder says done, its response,
-- handed to the initiator with its first type and beside the cookie that was sent, is accepted.
pub record Understood (q : Draft) (reply : Reply) (response : List ℕ) : Type 0 where
  pub no_fault : (f : Fault) → reply.number ≡ number_of (fault_number f) → ⊥
  pub accepted : reply.number ≡ number_of Done
      → Accepted q.cookie response (assessment q.cookie reply.first response)

-- From any policies and any tables.
abbrev pub AllUnderstood : Type 0
AllUnderstood =
    (q : Draft) (room : ℕ) → Sized q → (written q room).number ≡ 0
    → (policies : List Policy) (ike : List IkeRecord) (ipsec : List IpsecRecord) (r : Received) → Carried q room r
    → Understood q (handled policies ike ipsec r).reply (handled_response policies ike ipsec r)
