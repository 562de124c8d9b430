-- What a response to a check can come to: refused, the record closed, what it owns moved, or the check ended alone.
use Prim.Native.Nat.{ℕ, ◌<◌}
use mathlib.Core.Path.{◌≡◌, refl}
use mathlib.Core.List.{List, map}
use mathlib.Core.Bool.{Bool, true, false}
use borrow.Author.Tests.{eqb-true, eqb-false, ltb-true}
use lib.Dec.{eqb}
use lib.ListN.{length, set}
use Rattle.octets.specs.Lists.{place_of}
use Rattle.octets.proofs.Small.{chosen}
use Rattle.records.specs.Records.{ike_spi, follows, unchecked}
use Rattle.records.specs.declared.ike.IkeRecord.{IkeRecord}
use Rattle.tables.specs.Calls.{has_ike, ike_closed, owned_closed}
use Rattle.tables.specs.Tables.{Tables, tables, meant}
use Rattle.initiator.specs.Response.{outcome_number, no_outcome}
use Rattle.initiator.specs.declared.response.Assessment.{Assessment}
use Rattle.initiator.specs.declared.response.Outcome.TheVariants.{Close, Accepted}
use Rattle.routability.specs.Routability.{CheckResponse, early_response, check_told, checked}
use Rattle.routability.specs.Routability.{Checked, after_response}
use Rattle.routability.proofs.Passed.{Passed, passed}

-- where an outcome is told, the checks before the chain passed
pub told_passed : (lent : ℕ) (there : Bool) (e : IkeRecord) (q : CheckResponse)
    → ((check_told lent there e q).outcome ≡ no_outcome → ⊥) → Passed lent there e q
unfolding check_told
told_passed lent there e q n = go (eqb early 0) refl
  where
    early : ℕ
    early = early_response lent there e q

    go : (b : Bool) → eqb early 0 ≡ b → Passed lent there e q
    go false f = absurd (n (rw f))
    go true f = passed lent there e q (eqb-true early 0 f)

module _ (t : Tables) (q : CheckResponse) where
  abbrev pub place : ℕ
  place = place_of ike_spi q.spi t.ike

  abbrev pub entry : IkeRecord
  entry = meant t.ike q.spi

  abbrev pub told : Assessment
  told = check_told (length t.ipsec) (has_ike q.spi t.ike) entry q

  -- the IKE records with the check ended
  abbrev pub ended : List IkeRecord
  ended = set t.ike place (unchecked entry)

  -- a response that is not refused, and the tables after it
  pub record Comes (s : Tables) : Type 0 where
    pub named : q.spi ≡ 0 → ⊥
    pub there : place < length t.ike
    pub own : entry.agreed.operator ≡ q.operator
    pub is : after_response q t ≡ s

  pub data Way : Type 0 where
    refused : after_response q t ≡ t → Way
    closed : told.outcome ≡ outcome_number Close
        → Comes (tables (ike_closed t.ike q.spi) (owned_closed t.ipsec q.spi)) → Way
    accepted : told.outcome ≡ outcome_number Accepted
        → Comes (tables ended (map (follows q.spi entry.pair) t.ipsec)) → Way
    failed : Comes (tables ended t.ipsec) → Way

  comes : (told.outcome ≡ no_outcome → ⊥) → {s : Tables} → after_response q t ≡ s → Comes s
  comes n e =
      let k = told_passed (length t.ipsec) (has_ike q.spi t.ike) entry q n in
      record { named = k.named; there = ltb-true _ _ k.found; own = k.own; is = e }

  pub way : Way
  unfolding after_response checked
  way =
      go (eqb told.outcome no_outcome) refl (eqb told.outcome (outcome_number Close)) refl
      (eqb told.outcome (outcome_number Accepted)) refl
    where
      go : (a : Bool) → eqb told.outcome no_outcome ≡ a → (b : Bool) → eqb told.outcome (outcome_number Close) ≡ b
          → (c : Bool) → eqb told.outcome (outcome_number Accepted) ≡ c → Way
      go true e b f c g = refused (rw e)
      go false e true f c g = closed (eqb-true _ (outcome_number Close) f) (comes (eqb-false _ no_outcome e) (rw (e, f)))
      go false e false f true g =
          accepted (eqb-true _ (outcome_number Accepted) g) (comes (eqb-false _ no_outcome e) (rw (e, f, g)))
      go false e false f false g = failed (comes (eqb-false _ no_outcome e) (rw (e, f, g)))

  -- what is told with the tables is that
  pub told_is : (checked t.ike t.ipsec q).told ≡ told
  unfolding checked
  told_is =
      chosen (λ (x : Checked). x.told ≡ told) (eqb told.outcome no_outcome) (λ e. refl)
      (λ e. chosen (λ (x : Checked). x.told ≡ told) (eqb told.outcome (outcome_number Close)) (λ f. refl)
      (λ f. chosen (λ (x : Checked). x.told ≡ told) (eqb told.outcome (outcome_number Accepted)) (λ g. refl)
      (λ g. refl)))
