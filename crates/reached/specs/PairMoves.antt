-- Trusted. What any call can make of an IPsec record in use: its pair changes only by a check that came back right.
--   Closes                  a call closes an IPsec record
--   Becomes                 what a call makes of an IPsec record
--   PairsMoveByChecks       every call, from any tables, at every place
--   RequestsMoveNone        a request, from any tables and policies
use Rattle.std.specs.Prelude.{ℕ, ◌≡◌, List, true, get_or}
use Rattle.policy.specs.declared.rules.Policy.{Policy}
use Rattle.records.specs.Records.{new_ipsec, no_ipsec}
use Rattle.records.specs.declared.ipsec.IpsecRecord.{IpsecRecord}
use Rattle.tables.specs.Calls.{owns_ipsec}
use Rattle.tables.specs.Tables.{Tables, meant}
use Rattle.checking.specs.Checks.{Request}
use Rattle.initiator.specs.Response.{outcome_number}
use Rattle.initiator.specs.declared.response.Outcome.TheVariants.{Close, Accepted}
use Rattle.routability.specs.Routability.{CheckResponse, checked}
use Rattle.reached.specs.Reached.{Call, closes_ike, closes_ipsec, requests, checks, after_call}

-- The calls that close an IPsec record: its own closing, its owner's, and a response to a check of its owner's that was
-- judged so. 02, E6: "close closes the IKE record (RFC 4555, 3.7)"; 01: "Closing an IKE record closes the IPsec records
-- it owns." E9: "A call for one operator finds only its own records", an IPsec record's being that of its owner.
pub data Closes (t : Tables) (r : IpsecRecord) : Call → Type 0 where
  itself : (operator : ℕ) → owns_ipsec operator t.ike r ≡ true → Closes t r (closes_ipsec r.spi operator)
  owner : (operator : ℕ) → owns_ipsec operator t.ike r ≡ true → Closes t r (closes_ike r.owner operator)
  check : (q : CheckResponse) → owns_ipsec q.operator t.ike r ≡ true → r.owner ≡ q.spi
      → (checked t.ike t.ipsec q).told.outcome ≡ outcome_number Close
      → Closes t r (checks q)

-- What a call makes of an IPsec record: it stays as it is, or is closed; or the call is a response to a check of its
-- owner's that was judged accepted, and the record takes the pair of the IKE record meant. 02, E6: "An applied update
-- now moves the IKE record at once, but its IPsec records only after a return routability check"; "accepted moves all
-- its IPsec records to the IKE record's pair". E9: a call of the other operator leaves it as it is.
pub data Becomes (t : Tables) (old new : IpsecRecord) : Call → Type 0 where
  kept : {c : Call} → new ≡ old → Becomes t old new c
  closed : {c : Call} → Closes t old c → new ≡ no_ipsec → Becomes t old new c
  moved : (q : CheckResponse) → owns_ipsec q.operator t.ike old ≡ true → old.owner ≡ q.spi
      → (checked t.ike t.ipsec q).told.outcome ≡ outcome_number Accepted
      → new ≡ new_ipsec old.spi old.owner (meant t.ike q.spi).pair
      → Becomes t old new (checks q)

abbrev pub PairsMoveByChecks : Type 0
PairsMoveByChecks =
    (t : Tables) (c : Call) (j : ℕ)
    → let old = get_or t.ipsec j no_ipsec in
    (old.spi ≡ 0 → ⊥) → Becomes t old (get_or (after_call t c).ipsec j no_ipsec) c

abbrev pub RequestsMoveNone : Type 0
RequestsMoveNone =
    (t : Tables) (policies : List Policy) (q : Request) → (after_call t (requests policies q)).ipsec ≡ t.ipsec
