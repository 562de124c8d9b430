-- Trusted. Demand 3: one statement about whole lists of requests and check responses, from any policies and any tables.
--   AnswersKept             its first half: each IKE SA's own requests in sequence
--   FreedEnds               what an IKE SA whose own sequence changes ends with
--   TablesKept              its second half: some IKE SAs' own sequences change too
--   AnyOrder                both
use Rattle.std.specs.Prelude.{ℕ, ◌≡◌, ◌⊎◌, List, Bool, true, get_or}
use Rattle.order.specs.Order.{All, Pairwise, Order, after, answered, FreeAnswered, greatest, settled}
use Rattle.policy.specs.declared.rules.Policy.{Policy}
use Rattle.octets.specs.Lists.{place_of}
use Rattle.records.specs.Records.{ike_spi, no_ipsec}
use Rattle.records.specs.declared.ike.IkeRecord.{IkeRecord}
use Rattle.tables.specs.Tables.{Tables, in_use}
use Rattle.checking.specs.Checks.{Request}
use Rattle.reordering.specs.Events.{Event, spi_of, id_of, after_event, answer, Apart, sound, updates_for, held_by}

-- "For every other order of that list which keeps each IKE SA's own requests in sequence, each request gets the same
-- answer and octets, and the tables end the same." 02, E6: "In demand 3 the list also holds check responses, ..., each
-- counted as one of the requests that give its SPI, and these closings are allowed"; "the tables compared include the
-- pending check".
--   "that list", "each made on the tables that the one before it left": es, by `after` and `answered` of the calls'
--     own `after_event`.
--   "every other order ... which keeps each IKE SA's own requests in sequence": `Order (Apart t) es fs`: fs has the
--     events of es, and one stands in fs behind only such later ones of es as are apart from it, of no common IKE SA
--     of the tables t.
--   "each request gets the same answer and octets": the events with their answers stand in the same other order.
--   "the tables end the same": `after` is equal, so each field of each place is.
abbrev pub AnswersKept : List Policy → Tables → List Event → List Event → Type 0
AnswersKept policies t es fs =
    let made = answered (after_event policies) (answer policies) t in
    Order (Apart t) es fs
    → (Order (FreeAnswered (Apart t)) (made es) (made fs))
    × (after (after_event policies) t es ≡ after (after_event policies) t fs)

-- "The address pair of each IKE SA so freed ends as the one carried by its update with the greatest ID, if that exceeds
-- the update mark it began with, else as the pair it had." So does its pending check, the one lent with that update.
-- Its record is the one that it was, and the IPsec records that name it stay as they were.
--   k                  the IKE SA's SPI; t the starting tables, es the list, s the tables at its end
--   `settled (greatest ..)`: the greatest update if its ID exceeds the mark, else what was held.
pub record FreedEnds (k : ℕ) (t : Tables) (es : List Event) (s : Tables) : Type 0 where
  pub place : place_of ike_spi k s.ike ≡ place_of ike_spi k t.ike
  pub pair :
      let pair_held = held_by (λ (r : IkeRecord). r.pair) k in
      (pair_held s).value ≡ (settled (greatest (updates_for (λ (q : Request). q.asks.pair) k es)) (pair_held t)).value
  pub check :
      let check_held = held_by (λ (r : IkeRecord). r.check) k in
      (check_held s).value ≡ (settled (greatest (updates_for (λ (q : Request). q.asks.check) k es)) (check_held t)).value
  pub owned : (j : ℕ) → (get_or t.ipsec j no_ipsec).owner ≡ k → get_or s.ipsec j no_ipsec ≡ get_or t.ipsec j no_ipsec

-- "Where an IKE SA's requests are all sound ... and no two of them have the same message ID, its own sequence may
-- change too. For every order that keeps the sequence of all other IKE SAs, the tables still end the same." 02, E6:
-- "only an IKE SA without check responses may change its own sequence".
--   `freed` picks the IKE SAs that are freed, by their SPIs; any of those that may be.
--   "all sound", on the starting tables t, which no check response is, nor a request that names another operator than
--     the record's (02, E9); "no two of them have the same message ID": of the events for a freed SPI.
--   "keeps the sequence of all other IKE SAs": two events may change places if they are apart or the first one's SPI
--     is freed.
--   "each IKE SA so freed": a freed SPI that a record of the starting tables has.
abbrev pub TablesKept : List Policy → Tables → List Event → List Event → Type 0
TablesKept policies t es fs =
    (freed : ℕ → Bool)
    → All (λ (e : Event). freed (spi_of e) ≡ true → sound policies t e ≡ true) es
    → Pairwise (λ (e f : Event). freed (spi_of e) ≡ true → spi_of e ≡ spi_of f → id_of e ≡ id_of f → ⊥) es
    → Order (λ (e f : Event). Apart t e f ⊎ (freed (spi_of e) ≡ true)) es fs
    → (after (after_event policies) t es ≡ after (after_event policies) t fs)
    × ((k : ℕ) → in_use k t ≡ true → freed k ≡ true → FreedEnds k t es (after (after_event policies) t fs))

-- Both halves, "from any tables and policy": those not reached from empty ones and an IPsec list of any length
-- included. 02, E9: both operators' policies, in one list that stays as it is, and each request is judged by its
-- operator's.
abbrev pub AnyOrder : Type 0
AnyOrder = (policies : List Policy) (t : Tables) (es fs : List Event)
    → AnswersKept policies t es fs × TablesKept policies t es fs
