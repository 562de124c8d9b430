-- The response to a check: its answer and what it changes by what its operator sees, and what is known where it ends
-- the check.
use Prim.Native.Nat.{ℕ}
use mathlib.Core.Path.{◌≡◌, refl, sym, ◌∙◌}
use mathlib.Core.Bool.{Bool, true, false, cond, false≢true}
use mathlib.Core.Option.{some}
use borrow.Author.Tests.{eqb-true, ne_eqb}
use lib.Dec.{eqb}
use lib.ListN.{length}
use Rattle.octets.specs.Limits.{ipsec_places}
use Rattle.records.specs.Records.{unchecked}
use Rattle.tables.specs.Calls.{has_ike, owns}
use Rattle.tables.specs.Tables.{meant}
use Rattle.initiator.specs.Response.{outcome_number, no_outcome}
use Rattle.initiator.specs.declared.response.Assessment.{Assessment}
use Rattle.initiator.specs.declared.response.Outcome.TheVariants.{Close, Accepted}
use Rattle.routability.specs.Routability.{CheckResponse, early_response, check_told, checked}
use Rattle.routability.proofs.Passed.{Passed, passed}
use Rattle.isolating.specs.State.{State, Own, own_in}
use Rattle.isolating.specs.Reached.{WellFormed}
use Rattle.isolating.specs.Changes as change
use Rattle.isolating.specs.Changes.{Change, applied, Rewrites, Allowed}
use Rattle.isolation.specs.Calls.{checks, assessed, step, answer}
use Rattle.isolation.proofs.Lookup.{own_record, own_has, finds, owned_by, rewrites_meant, by_own}

module _ (q : CheckResponse) where
  -- by what the operator sees
  abbrev pub early_by : Own → ℕ
  early_by v = early_response ipsec_places (own_has v q.spi) (own_record v q.spi) q

  abbrev pub told_by : Own → Assessment
  told_by v = check_told ipsec_places (own_has v q.spi) (own_record v q.spi) q

  abbrev pub response_change : Own → Change
  response_change v =
      cond (eqb (told_by v).outcome no_outcome) change.stays
      (cond (eqb (told_by v).outcome (outcome_number Close)) (change.closes q.spi)
      (cond (eqb (told_by v).outcome (outcome_number Accepted))
      (change.moves q.spi (unchecked (own_record v q.spi)) (own_record v q.spi).pair)
      (change.becomes q.spi (unchecked (own_record v q.spi)))))

  module _ (s : State) (w : WellFormed s) where
    abbrev mine : Own
    mine = own_in q.operator s

    early_is : early_response (length s.ipsec) (has_ike q.spi s.ike) (meant s.ike q.spi) q ≡ early_by mine
    unfolding early_response
    early_is =
        rw w.ipsec_places_lem
        (by_own q.operator q.spi s (λ there r. early_response ipsec_places there r q) (λ e. rw e) refl (λ e. rw e))

    early_passed : eqb (early_by mine) 0 ≡ true
        → Passed (length s.ipsec) (has_ike q.spi s.ike) (meant s.ike q.spi) q
    early_passed e = passed _ _ _ q (early_is ∙ eqb-true (early_by mine) 0 e)

    early_owned : eqb (early_by mine) 0 ≡ true → owns q.operator q.spi s.ike ≡ true
    early_owned e =
        let p = early_passed e in
        owned_by q.operator q.spi s.ike (rw (ne_eqb q.spi 0 p.named)) p.found p.own

    told_is : check_told (length s.ipsec) (has_ike q.spi s.ike) (meant s.ike q.spi) q ≡ told_by mine
    unfolding check_told
    told_is = go (eqb (early_by mine) 0) refl
      where
        go : (b : Bool) → eqb (early_by mine) 0 ≡ b
            → check_told (length s.ipsec) (has_ike q.spi s.ike) (meant s.ike q.spi) q ≡ told_by mine
        go true e = rw (early_is, e, finds q.operator s q.spi (early_owned e))
        go false e = rw (early_is, e)

    -- with an outcome the checks have passed
    with_outcome : eqb (told_by mine).outcome no_outcome ≡ false → eqb (early_by mine) 0 ≡ true
    unfolding check_told
    with_outcome f = go (eqb (early_by mine) 0) refl
      where
        go : (b : Bool) → eqb (early_by mine) 0 ≡ b → b ≡ true
        go true e = refl
        go false e = absurd (false≢true (sym (rw e at f)))

    pub response_answer_lem : answer (checks q) s ≡ assessed (told_by mine)
    unfolding answer checked
    response_answer_lem =
        go (eqb (told_by mine).outcome no_outcome) refl (eqb (told_by mine).outcome (outcome_number Close)) refl
        (eqb (told_by mine).outcome (outcome_number Accepted)) refl
      where
        go : (a : Bool) → eqb (told_by mine).outcome no_outcome ≡ a
            → (b : Bool) → eqb (told_by mine).outcome (outcome_number Close) ≡ b
            → (c : Bool) → eqb (told_by mine).outcome (outcome_number Accepted) ≡ c
            → answer (checks q) s ≡ assessed (told_by mine)
        go true e b f c g = rw (told_is, e)
        go false e true f c g = rw (told_is, e, f)
        go false e false f true g = rw (told_is, e, f, g)
        go false e false f false g = rw (told_is, e, f, g)

    found : eqb (told_by mine).outcome no_outcome ≡ false → mine.ike.find q.spi ≡ some (meant s.ike q.spi)
    found e = finds q.operator s q.spi (early_owned (with_outcome e))

    pub response_step : step (checks q) s ≡ applied (response_change mine) s
    unfolding step checked applied
    response_step =
        go (eqb (told_by mine).outcome no_outcome) refl (eqb (told_by mine).outcome (outcome_number Close)) refl
        (eqb (told_by mine).outcome (outcome_number Accepted)) refl
      where
        go : (a : Bool) → eqb (told_by mine).outcome no_outcome ≡ a
            → (b : Bool) → eqb (told_by mine).outcome (outcome_number Close) ≡ b
            → (c : Bool) → eqb (told_by mine).outcome (outcome_number Accepted) ≡ c
            → step (checks q) s ≡ applied (response_change mine) s
        go true e b f c g = rw (told_is, e)
        go false e true f c g = rw (told_is, e, f)
        go false e false f true g = rw (told_is, e, f, g, found e)
        go false e false f false g = rw (told_is, e, f, g, found e)

    ended : eqb (told_by mine).outcome no_outcome ≡ false
        → Rewrites q.operator q.spi (unchecked (own_record mine q.spi)) s
    ended e =
        let p = with_outcome e in
        rw (found e)
        (rewrites_meant q.operator q.spi s (unchecked (meant s.ike q.spi)) refl refl
        (early_passed p).operator
        (early_owned p))

    pub response_allowed : Allowed q.operator (response_change mine) s
    response_allowed =
        go (eqb (told_by mine).outcome no_outcome) refl (eqb (told_by mine).outcome (outcome_number Close))
        (eqb (told_by mine).outcome (outcome_number Accepted))
      where
        go : (a : Bool) → eqb (told_by mine).outcome no_outcome ≡ a → (b c : Bool)
            → Allowed q.operator
            (cond a change.stays
            (cond b (change.closes q.spi)
            (cond c (change.moves q.spi (unchecked (own_record mine q.spi)) (own_record mine q.spi).pair)
            (change.becomes q.spi (unchecked (own_record mine q.spi)))))) s
        go true e b c = tt
        go false e true c = early_owned (with_outcome e)
        go false e false true = ended e
        go false e false false = ended e
