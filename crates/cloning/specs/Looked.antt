-- Inner. A clone request as the code decides it, by what was looked up: what is told, and the record that is stored at the
-- lowest free place, if one is. `proofs/Cloned.antt` shows that this, with the table's change around it, is `cloned` of
-- `Clone`.
use Rattle.std.specs.Prelude.{ℕ, List, [], Bool, cond, not, ◌&&◌, eqb, ltb, leb, Some, None}
use Rattle.octets.specs.Checks.{Check}
use Rattle.octets.specs.Flags.{is_yes}
use Rattle.octets.specs.Limits.{ike_places, peer_records_most, ike_share}
use Rattle.writing.specs.Notify.{chained}
use Rattle.records.specs.Records.{clone_of}
use Rattle.clone_chain.specs.CloneChain.{clone_reading}
use Rattle.clone_chain.specs.declared.read.CloneReading.{CloneReading}
use Rattle.cloning.specs.Clone.{CloneRequest, clone_request, early_clone, whole_clone_checks, late_clone}
use Rattle.cloning.specs.Clone.{not_cloned, clone_told, clone_notifies}
use Rattle.cloning.specs.declared.clone.CloneAnswer.{CloneAnswer}
use Rattle.cloning.specs.declared.clone.CloneLooked.{CloneLooked}
use Rattle.cloning.specs.declared.clone.LentCloneRequest.{LentCloneRequest}

-- a request as it is lent, with its output's length
abbrev pub request_by : LentCloneRequest → ℕ → CloneRequest
request_by r room = clone_request r.spi r.new_spi r.first r.body.now room r.operator

-- the checks by the chain and behind it, by what was looked up
abbrev pub whole_checks_at : Bool → CloneLooked → List Check
whole_checks_at there l =
    let limited = leb peer_records_most l.records in
    whole_clone_checks there (is_yes l.entry.deleting) (ltb l.free ike_places) limited (ltb l.taken ike_places)
    (leb ike_share l.own)

abbrev pub late_clone_at : CloneReading → CloneLooked → ℕ
late_clone_at r l = late_clone r l.entry (ltb l.free ike_places) l.records (ltb l.taken ike_places) l.own

module _ (l : CloneLooked) (q : CloneRequest) where
  abbrev pub early : ℕ
  early = early_clone (ltb l.place ike_places) l.entry q

  abbrev pub late : ℕ
  late = late_clone_at (clone_reading q.first q.body) l

  unfoldable pub clone_at : CloneAnswer
  clone_at =
      record {
        reply = cond (not (eqb early 0)) (not_cloned early) (clone_told late (clone_reading q.first q.body).reading);
        clone = cond (eqb early 0 && eqb late 0) (Some (clone_of q.new_spi l.entry)) None;
      }

  unfoldable pub octets_at : List ℕ
  octets_at =
      cond (not (eqb early 0)) [] (chained (clone_notifies late (clone_reading q.first q.body).reading) 0)
