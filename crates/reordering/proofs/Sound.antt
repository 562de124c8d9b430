-- What a sound request does to its record: nothing is refused, so it is what steps 1 to 3 make of it.
use Prim.Native.Nat.{ℕ}
use mathlib.Core.Path.{◌≡◌, refl}
use mathlib.Core.Logic.{⊎_elim}
use mathlib.Core.List.{List}
use mathlib.Core.Bool.{Bool, true, false, ◌&&◌, ◌||◌, not, false≢true}
use borrow.Author.Tests.{eqb-true}
use lib.Dec.{eqb, leb}
use Rattle.octets.proofs.Small.{both}
use Rattle.values.specs.Values.{no_nats_seen}
use Rattle.policy.specs.declared.rules.Policy.{Policy}
use Rattle.reader.specs.Chain.{reading}
use Rattle.records.specs.Records.{marks_in}
use Rattle.tables.specs.Tables.{Tables}
use Rattle.records.specs.declared.ike.IkeRecord.{IkeRecord}
use Rattle.verdict.specs.Verdict.{is_accepted, verdict}
use Rattle.answering.specs.Core.{decision_on}
use Rattle.checking.specs.Checks.{Request}
use Rattle.checking.proofs.Checks.{passed}
use Rattle.responder.specs.Handle.{accepts, seen_in}
use Rattle.numbers.specs.Numbers.{stepped}
use Rattle.numbers.proofs.Decisions.{Decides, done, refused, decides}
use Rattle.numbers.proofs.Cores.{core_decided}
use Rattle.reordering.specs.Requests.{sound_request, OthersUnsound}
use Rattle.reordering.proofs.Steps.{early, core}

abbrev pub id_in : Request → ℕ
id_in q = q.asks.id

module _ (policies : List Policy) (q : Request) where
  pub record Sound : Type 0 where
    pub whole : (reading q.asks.first q.asks.body).number ≡ 0
    pub fine : (seen_in q).update ≡ true
        → is_accepted (verdict (accepts policies q) (no_nats_seen q.asks.body (seen_in q)) q.asks.pair) ≡ true

  pub core_sound : Sound → (e : IkeRecord) → (core policies q e).entry ≡ stepped q e
  core_sound w e = go (decides (accepts policies q) q (marks_in e))
    where
      go : Decides (accepts policies q) q (marks_in e) (decision_on (accepts policies q) q.asks (marks_in e))
          → (core policies q e).entry ≡ stepped q e
      go (done c) = (core_decided (accepts policies q) q e w.whole c).entry
      go (refused v which r) =
          let accepted : is_accepted v ≡ true =
          rw r.verdict_is at (w.fine (both (seen_in q).update (leb e.update_mark q.asks.id) r.counts
          ).0) in
          absurd (⊎_elim (λ f. false≢true (rw f at accepted)) (λ f. false≢true (rw f at accepted)) which)

-- 01's soundness on the starting tables, taken apart
pub sound_parts : (policies : List Policy) (t : Tables) (q : Request) → sound_request policies t q ≡ true
    → (early t q ≡ 0) × Sound policies q
sound_parts policies t q e =
    let n = eqb (early t q) 0 in
    let m = eqb (reading q.asks.first q.asks.body).number 0 in
    let v = is_accepted (verdict (accepts policies q) (no_nats_seen q.asks.body (seen_in q)) q.asks.pair) in
    let x = both n (m && (not (seen_in q).update || v)) e in
    let y = both m (not (seen_in q).update || v) x.1 in (
      eqb-true (early t q) 0 x.0,
      record {
        whole = eqb-true _ 0 y.0;
        fine = λ u. rw u at y.1;
      },
    )

pub others_unsound : OthersUnsound
others_unsound policies t q other = go (sound_request policies t q) refl
  where
    go : (b : Bool) → sound_request policies t q ≡ b → b ≡ false
    go false e = refl
    go true e = absurd (other (passed _ _ _ q (sound_parts policies t q e).0).own)
