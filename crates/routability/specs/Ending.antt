-- Inner. A response to a check as the code decides it: what is told, the record that is stored at its place, if one is,
-- and what becomes of the records that it owns. `proofs/Ended.antt` shows that this, with the tables' change around it, is
-- `checked` of `Routability`.
use Rattle.std.specs.Prelude.{ℕ, Bool, cond, eqb, ltb, Some, None}
use Rattle.octets.specs.Limits.{ike_places}
use Rattle.records.specs.Records.{no_ike, unchecked}
use Rattle.records.specs.declared.ike.IkeRecord.{IkeRecord}
use Rattle.initiator.specs.Response.{outcome_number, no_outcome}
use Rattle.initiator.specs.declared.response.Outcome.TheVariants.{Close, Accepted}
use Rattle.routability.specs.Routability.{CheckResponse, check_response, check_told}
use Rattle.routability.specs.declared.response.CheckLooked.{CheckLooked}
use Rattle.routability.specs.declared.response.Ending.{Ending}
use Rattle.routability.specs.declared.response.LentResponse.{LentResponse}

-- a response as it is lent
abbrev pub response_by : LentResponse → CheckResponse
response_by r = check_response r.spi r.id r.first r.body.now r.operator

-- whether an outcome closes the record, and whether it moves what the record owns
abbrev pub closes_by : ℕ → Bool
closes_by outcome = eqb outcome (outcome_number Close)

abbrev pub moves_by : ℕ → Bool
moves_by outcome = eqb outcome (outcome_number Accepted)

abbrev pub entry_after : Bool → IkeRecord → IkeRecord
entry_after closes e = cond closes no_ike (unchecked e)

-- with a refusal nothing is stored
unfoldable pub ending_of : CheckLooked → CheckResponse → Ending
ending_of l q =
    let a = check_told l.size (ltb l.place ike_places) l.entry q in
    record {
      told = a;
      entry = cond (eqb a.outcome no_outcome) None (Some (entry_after (closes_by a.outcome) l.entry));
      closes = closes_by a.outcome;
      moves = moves_by a.outcome;
    }
