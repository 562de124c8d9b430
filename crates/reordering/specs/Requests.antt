-- Trusted. One request, in the terms that demand 3 speaks in: what it gets, and whether it is sound.
--   RequestAnswer, request_answer      all that is given back but the tables
--   sound_request                      01's term; `OthersUnsound`: one that names another operator than its record is not
use Rattle.std.specs.Prelude.{List, ◌≡◌, Bool, false, ◌&&◌, ◌||◌, not, eqb, ℕ}
use Rattle.values.specs.Values.{part_of, no_nats_seen}
use Rattle.policy.specs.declared.rules.Policy.{Policy}
use Rattle.reader.specs.Chain.{reading}
use Rattle.tables.specs.Tables.{Tables, meant}
use Rattle.verdict.specs.Verdict.{is_accepted, verdict}
use Rattle.checking.specs.Checks.{Request}
use Rattle.responder.specs.Handle.{accepts, early_number, handled, handled_response, seen_in}
use Rattle.replying.specs.declared.reply.Reply.{Reply}

-- 01: "The same answer is all that the call gives back but the tables, the cookie by its octets; the same octets, those
-- of its response". That the rest of the output stays as it was is the handler's own promise, at every call.
pub record RequestAnswer : Type 0 where
  pub reply : Reply
  pub cookie : List ℕ
  pub octets : List ℕ

unfoldable pub request_answer : List Policy → Request → Tables → RequestAnswer
request_answer policies q t =
    let r = (handled policies t.ike t.ipsec q).reply in
    record {
      reply = r;
      cookie = part_of q.asks.body r.cookie r.cookie_len;
      octets = handled_response policies t.ike t.ipsec q;
    }

-- "A request is sound if checks 1 to 7 pass and, where it carries an update, those of 8 and 9 would pass too, whatever
-- the mark." 02, E9: "A call for one operator finds only its own records, else answer 4": it names an operator, and the
-- record meant in these tables is that operator's. "Policies ... are per operator": `accepts` asks that operator's.
abbrev pub sound_request : List Policy → Tables → Request → Bool
sound_request policies t q =
    eqb (early_number t.ike t.ipsec q) 0
    && (eqb (reading q.asks.first q.asks.body).number 0
    && (not (seen_in q).update
    || is_accepted (verdict (accepts policies q) (no_nats_seen q.asks.body (seen_in q)) q.asks.pair)))

-- So a request that names another operator than the record that its SPI means is not sound: it belongs to its SPI all
-- the same, and its SPI is not freed.
abbrev pub OthersUnsound : Type 0
OthersUnsound =
    (policies : List Policy) (t : Tables) (q : Request) → ((meant t.ike q.spi).agreed.operator ≡ q.operator → ⊥)
    → sound_request policies t q ≡ false
