-- The table calls and the setting of a policy: each number by what the operator sees and by what is looked at beside
-- it, each as one change, and what is known where it is done.
use Prim.Native.Nat.{ℕ}
use mathlib.Core.Path.{◌≡◌, refl, sym, ◌∙◌}
use mathlib.Core.List.{List}
use mathlib.Core.Bool.{Bool, true, false, cond, ◌||◌, not}
use native.Mathlib.Decide.{ℕ_discrete}
use borrow.Author.Tests.{ltb-true, ltb-false, leb-false, eqb-true, eqb-false, not-true, not-false, ne_eqb, eq-eqb}
use lib.Dec.{eqb, leb}
use lib.ListN.{get_or, get_or-eq_default}
use Rattle.octets.specs.Checks.{first_failed}
use Rattle.octets.specs.Limits.{ipsec_places, ike_share, ipsec_share}
use Rattle.octets.specs.Lists.{place_of}
use Rattle.octets.specs.Operators.{is_operator}
use Rattle.octets.proofs.Checks.{all_passed}
use Rattle.octets.proofs.Small.{both, neither}
use Rattle.octets.proofs.Places.{place_has}
use Rattle.policy.specs.Policy.{PolicyAnswer, new_policy, policy_checks, set_policy}
use Rattle.policy.specs.declared.rules.Rule.{Rule}
use Rattle.records.specs.Records.{ike_spi, ipsec_spi, no_ike, new_ipsec, no_ipsec, deletion_marked}
use Rattle.records.specs.declared.ike.IkeRecord.{IkeRecord}
use Rattle.records.specs.declared.ipsec.IpsecRecord.{IpsecRecord}
use Rattle.tables.specs.Calls.{IkeAnswer, IpsecAnswer, TablesAnswer, has_ike, has_ipsec, owns, owns_ipsec}
use Rattle.tables.specs.Calls.{opening_fits, list_fits}
use Rattle.tables.specs.Calls.{opening_checks, adding_checks, closing_checks, marking_checks}
use Rattle.tables.specs.Calls.{open_both, open_ipsec, close_ike, close_ipsec, mark_deletion}
use Rattle.tables.specs.Changes.{both_number, adding_number, closing_number, bad_closing, bad_adding, bad_marking}
use Rattle.tables.specs.Opening.{ike_of, child_of}
use Rattle.tables.specs.Tables.{meant}
use Rattle.tables.specs.declared.calls.Opening.{Opening}
use Rattle.sharing.specs.Table as table
use Rattle.sharing.proofs.Lookups.{missing, owns_has}
use Rattle.isolating.specs.State.{State, Own, own_in}
use Rattle.isolating.specs.Reached.{WellFormed}
use Rattle.isolating.specs.Changes as change
use Rattle.isolating.specs.Changes.{Change, applied, belongs, Allowed}
use Rattle.isolating.proofs.Shares.{ikes_seen, ipsecs_seen}
use Rattle.isolation.specs.Calls.{opens_both, opens_ipsec, closes_ike, closes_ipsec, marks_deletion, sets_policy, step}
use Rattle.isolation.proofs.Lookup.{own_record, own_has, owns_seen, finds, rewrites_meant}

-- what a call looks at beside its operator's records: a new SPI is taken, a place is free
pub record Beside : Type 0 where
  pub taken : Bool
  pub child_taken : Bool
  pub room : Bool
  pub child_room : Bool

-- the number of an answer that is one of two by that number
picked : {A : Type 0} (number : A → ℕ) (n : ℕ) (x y : A) → number x ≡ 0 → number y ≡ n → number (cond (eqb n 0) x y) ≡ n
picked number n x y e f = go (eqb n 0) refl
  where
    go : (b : Bool) → eqb n 0 ≡ b → number (cond b x y) ≡ n
    go true g = e ∙ sym (eqb-true n 0 g)
    go false g = f

-- a change that is done with 0 alone
abbrev pub done_with : ℕ → Change → Change
done_with n c = cond (eqb n 0) c change.stays

module _ (o : Opening) where
  abbrev pub opening_number : Own → Beside → ℕ
  opening_number v d =
      both_number (opening_fits ipsec_places o) d.taken d.child_taken (leb ike_share (v.ike.many table.any))
      (leb ipsec_share (v.ipsec.many table.any)) d.room d.child_room

  module _ (s : State) (w : WellFormed s) where
    is_checked : (open_both s.ike s.ipsec o).number ≡ first_failed (opening_checks s.ike s.ipsec o)
    unfolding open_both
    is_checked =
        picked (λ (a : TablesAnswer). a.number) (first_failed (opening_checks s.ike s.ipsec o)) _ _ refl refl

    pub opening_number_lem : (open_both s.ike s.ipsec o).number
        ≡ opening_number (own_in o.agreed.operator s)
        (record {
          taken = has_ike o.spi s.ike;
          child_taken = has_ipsec o.child s.ipsec;
          room = has_ike 0 s.ike;
          child_room = has_ipsec 0 s.ipsec;
        })
    opening_number_lem =
        is_checked ∙ rw (w.ipsec_places_lem, ikes_seen o.agreed.operator s, ipsecs_seen o.agreed.operator s)

    is_done : step (opens_both o) s
        ≡ applied (done_with (first_failed (opening_checks s.ike s.ipsec o)) (change.opens (ike_of o) (child_of o))) s
    unfolding step applied open_both
    is_done = go (eqb (first_failed (opening_checks s.ike s.ipsec o)) 0) refl
      where
        go : (b : Bool) → eqb (first_failed (opening_checks s.ike s.ipsec o)) 0 ≡ b
            → step (opens_both o) s ≡ applied (cond b (change.opens (ike_of o) (child_of o)) change.stays) s
        go true e = rw e
        go false e = rw e

    pub opening_step : step (opens_both o) s
        ≡ applied (done_with (open_both s.ike s.ipsec o).number (change.opens (ike_of o) (child_of o))) s
    opening_step = rw is_checked is_done

    pub opening_allowed : Allowed o.agreed.operator
        (done_with (open_both s.ike s.ipsec o).number (change.opens (ike_of o) (child_of o))) s
    opening_allowed = rw is_checked (go (eqb (first_failed (opening_checks s.ike s.ipsec o)) 0) refl)
      where
        go : (b : Bool) → eqb (first_failed (opening_checks s.ike s.ipsec o)) 0 ≡ b
            → Allowed o.agreed.operator (cond b (change.opens (ike_of o) (child_of o)) change.stays) s
        go false e = tt
        go true e =
            let p = all_passed (opening_checks s.ike s.ipsec o) refl (eqb-true _ 0 e) in
            let a = both (not (eqb o.spi 0)) _ (both (list_fits s.ipsec) _ (not-false _ p.0)).1 in
            let b = both (not (eqb o.child 0)) _ a.1 in (
              record {
                named = eqb-false o.spi 0 (not-true _ a.0);
                mine = refl;
                known = (both (is_operator o.agreed.operator) _ b.1).0;
                new = missing ike_spi no_ike (λ x. true) o.spi s.ike p.1.0;
                room = ltb-true _ _ (not-false _ p.1.1.1.1.1.0);
                share = leb-false _ _ p.1.1.1.0;
              },
              record {
                named = eqb-false o.child 0 (not-true _ b.0);
                new = missing ipsec_spi no_ipsec (λ x. true) o.child s.ipsec p.1.1.0;
                room = ltb-true _ _ (not-false _ p.1.1.1.1.1.1.0);
                share = leb-false _ _ p.1.1.1.1.0;
              },
              refl,
            )

module _ (spi owner operator : ℕ) where
  abbrev pub adding_number_by : Own → Beside → ℕ
  adding_number_by v d =
      adding_number (bad_adding ipsec_places spi owner operator) (own_has v owner) d.child_taken
      (leb ipsec_share (v.ipsec.many table.any)) d.child_room

  abbrev pub added : Own → IpsecRecord
  added v = new_ipsec spi owner (own_record v owner).pair

  module _ (s : State) (w : WellFormed s) where
    adding_checked : (open_ipsec s.ike s.ipsec spi owner operator).number
        ≡ first_failed (adding_checks s.ike s.ipsec spi owner operator)
    unfolding open_ipsec
    adding_checked =
        picked (λ (a : IpsecAnswer). a.number) (first_failed (adding_checks s.ike s.ipsec spi owner operator)) _ _
        refl refl

    pub adding_number_lem : (open_ipsec s.ike s.ipsec spi owner operator).number
        ≡ adding_number_by (own_in operator s)
        (record {
          taken = false;
          child_taken = has_ipsec spi s.ipsec;
          room = has_ike 0 s.ike;
          child_room = has_ipsec 0 s.ipsec;
        })
    adding_number_lem =
        adding_checked ∙ rw (w.ipsec_places_lem, ipsecs_seen operator s, ← owns_seen operator s owner)

    adding_passed : eqb (first_failed (adding_checks s.ike s.ipsec spi owner operator)) 0 ≡ true
        → owns operator owner s.ike ≡ true
    adding_passed e =
        not-false _ (all_passed (adding_checks s.ike s.ipsec spi owner operator) refl (eqb-true _ 0 e)).1.0

    adding_done : step (opens_ipsec spi owner operator) s
        ≡ applied (done_with (first_failed (adding_checks s.ike s.ipsec spi owner operator))
        (change.adds (added (own_in operator s)))) s
    unfolding step applied open_ipsec
    adding_done = go (eqb (first_failed (adding_checks s.ike s.ipsec spi owner operator)) 0) refl
      where
        go : (b : Bool) → eqb (first_failed (adding_checks s.ike s.ipsec spi owner operator)) 0 ≡ b
            → step (opens_ipsec spi owner operator) s
            ≡ applied (cond b (change.adds (added (own_in operator s))) change.stays) s
        go true e = rw (e, finds operator s owner (adding_passed e))
        go false e = rw e

    pub adding_step : step (opens_ipsec spi owner operator) s
        ≡ applied (done_with (open_ipsec s.ike s.ipsec spi owner operator).number
        (change.adds (added (own_in operator s)))) s
    adding_step = rw adding_checked adding_done

    pub adding_allowed : Allowed operator
        (done_with (open_ipsec s.ike s.ipsec spi owner operator).number (change.adds (added (own_in operator s)))) s
    adding_allowed =
        rw adding_checked (go (eqb (first_failed (adding_checks s.ike s.ipsec spi owner operator)) 0) refl)
      where
        go : (b : Bool) → eqb (first_failed (adding_checks s.ike s.ipsec spi owner operator)) 0 ≡ b
            → Allowed operator (cond b (change.adds (added (own_in operator s))) change.stays) s
        go false e = tt
        go true e =
            let p = all_passed (adding_checks s.ike s.ipsec spi owner operator) refl (eqb-true _ 0 e) in
            let spis = neither (not (list_fits s.ipsec) || eqb spi 0) (eqb owner 0) (neither _ _ p.0).0 in (
              record {
                named = eqb-false spi 0 (neither (not (list_fits s.ipsec)) (eqb spi 0) spis.0).1;
                new = missing ipsec_spi no_ipsec (λ x. true) spi s.ipsec p.1.1.0;
                room = ltb-true _ _ (not-false _ p.1.1.1.1.0);
                share = leb-false _ _ p.1.1.1.0;
              },
              adding_passed e,
            )

module _ (spi operator : ℕ) where
  abbrev pub closing_number_by : Own → ℕ
  closing_number_by v = closing_number (bad_closing ipsec_places spi operator) (own_has v spi)

  abbrev pub child_closing_number_by : Own → ℕ
  child_closing_number_by v =
      closing_number (bad_closing ipsec_places spi operator) (table.has table.any (v.ipsec.find spi))

  abbrev pub marking_number_by : Own → ℕ
  marking_number_by v = closing_number (bad_marking spi operator) (own_has v spi)

  abbrev pub marked : Own → IkeRecord
  marked v = deletion_marked (own_record v spi)

  module _ (s : State) (w : WellFormed s) where
    -- closing an IKE record
    abbrev closing : ℕ
    closing = first_failed (closing_checks s.ipsec spi operator (owns operator spi s.ike))

    closing_checked : (close_ike s.ike s.ipsec spi operator).number ≡ closing
    unfolding close_ike
    closing_checked = picked (λ (a : TablesAnswer). a.number) closing _ _ refl refl

    pub closing_number_lem : (close_ike s.ike s.ipsec spi operator).number ≡ closing_number_by (own_in operator s)
    closing_number_lem = closing_checked ∙ rw (w.ipsec_places_lem, ← owns_seen operator s spi)

    closing_done : step (closes_ike spi operator) s ≡ applied (done_with closing (change.closes spi)) s
    unfolding step applied close_ike
    closing_done = go (eqb closing 0) refl
      where
        go : (b : Bool) → eqb closing 0 ≡ b
            → step (closes_ike spi operator) s ≡ applied (cond b (change.closes spi) change.stays) s
        go true e = rw e
        go false e = rw e

    pub closing_step : step (closes_ike spi operator) s
        ≡ applied (done_with (close_ike s.ike s.ipsec spi operator).number (change.closes spi)) s
    closing_step = rw closing_checked closing_done

    pub closing_allowed : Allowed operator
        (done_with (close_ike s.ike s.ipsec spi operator).number (change.closes spi)) s
    closing_allowed = rw closing_checked (go (eqb closing 0) refl)
      where
        go : (b : Bool) → eqb closing 0 ≡ b → Allowed operator (cond b (change.closes spi) change.stays) s
        go false e = tt
        go true e =
            not-false _
            (all_passed (closing_checks s.ipsec spi operator (owns operator spi s.ike)) refl
            (eqb-true _ 0 e)).1.0

    -- marking one
    abbrev marking : ℕ
    marking = first_failed (marking_checks s.ike spi operator)

    marking_checked : (mark_deletion s.ike spi operator).number ≡ marking
    unfolding mark_deletion
    marking_checked = picked (λ (a : IkeAnswer). a.number) marking _ _ refl refl

    pub marking_number : (mark_deletion s.ike spi operator).number ≡ marking_number_by (own_in operator s)
    marking_number = marking_checked ∙ rw (← owns_seen operator s spi)

    marking_passed : eqb marking 0 ≡ true
        → (is_operator operator ≡ true) × (owns operator spi s.ike ≡ true)
    marking_passed e =
        let p = all_passed (marking_checks s.ike spi operator) refl (eqb-true _ 0 e) in
        (not-false _ (neither (eqb spi 0) _ p.0).1, not-false _ p.1.0)

    marking_done : step (marks_deletion spi operator) s
        ≡ applied (done_with marking (change.becomes spi (marked (own_in operator s)))) s
    unfolding step applied mark_deletion
    marking_done = go (eqb marking 0) refl
      where
        go : (b : Bool) → eqb marking 0 ≡ b
            → step (marks_deletion spi operator) s
            ≡ applied (cond b (change.becomes spi (marked (own_in operator s))) change.stays) s
        go true e = rw (e, finds operator s spi (marking_passed e).1)
        go false e = rw e

    pub marking_step : step (marks_deletion spi operator) s
        ≡ applied
        (done_with (mark_deletion s.ike spi operator).number (change.becomes spi (marked (own_in operator s)))) s
    marking_step = rw marking_checked marking_done

    pub marking_allowed : Allowed operator
        (done_with (mark_deletion s.ike spi operator).number (change.becomes spi (marked (own_in operator s)))) s
    marking_allowed = rw marking_checked (go (eqb marking 0) refl)
      where
        go : (b : Bool) → eqb marking 0 ≡ b
            → Allowed operator (cond b (change.becomes spi (marked (own_in operator s))) change.stays) s
        go false e = tt
        go true e =
            let p = marking_passed e in
            rw (finds operator s spi p.1)
            (rewrites_meant operator spi s (deletion_marked (meant s.ike spi)) refl refl p.0 p.1)

    -- closing an IPsec record
    abbrev entry : IpsecRecord
    entry = get_or s.ipsec (place_of ipsec_spi spi s.ipsec) no_ipsec

    abbrev child_closing : ℕ
    child_closing = first_failed (closing_checks s.ipsec spi operator (owns_ipsec operator s.ike entry))

    abbrev owns_child : Bool
    owns_child = table.owns ipsec_spi no_ipsec (belongs operator s.ike) spi s.ipsec

    -- the lowest place with the SPI, and then whose it is, said either way
    child_owned : (spi ≡ 0 → ⊥) → owns_ipsec operator s.ike entry ≡ owns_child
    child_owned n = go (has_ipsec spi s.ipsec) refl
      where
        go : (b : Bool) → has_ipsec spi s.ipsec ≡ b → owns_ipsec operator s.ike entry ≡ owns_child
        go true e =
            rw (place_has ipsec_spi spi s.ipsec no_ipsec (ltb-true _ _ e), ne_eqb spi 0 n, e)
        go false e = rw (get_or-eq_default s.ipsec no_ipsec (ltb-false _ _ e), ne_eqb spi 0 n, e)

    child_closing_checked : (close_ipsec s.ike s.ipsec spi operator).number ≡ child_closing
    unfolding close_ipsec
    child_closing_checked = picked (λ (a : IpsecAnswer). a.number) child_closing _ _ refl refl

    child_seen : owns_child ≡ table.has table.any ((own_in operator s).ipsec.find spi)
    unfolding own_in
    child_seen = owns_has ipsec_spi no_ipsec (belongs operator s.ike) spi s.ipsec

    pub child_closing_number : (close_ipsec s.ike s.ipsec spi operator).number
        ≡ child_closing_number_by (own_in operator s)
    child_closing_number = child_closing_checked ∙ go (ℕ_discrete spi 0)
      where
        go : Dec (spi ≡ 0) → child_closing ≡ child_closing_number_by (own_in operator s)
        go (yes z) = rw (w.ipsec_places_lem, eq-eqb spi 0 z)
        go (no n) = rw (child_owned n, ← child_seen, w.ipsec_places_lem)

    child_closing_done : step (closes_ipsec spi operator) s ≡ applied (done_with child_closing (change.closes_child spi)) s
    unfolding step applied close_ipsec
    child_closing_done = go (eqb child_closing 0) refl
      where
        go : (b : Bool) → eqb child_closing 0 ≡ b
            → step (closes_ipsec spi operator) s ≡ applied (cond b (change.closes_child spi) change.stays) s
        go true e = rw e
        go false e = rw e

    pub child_closing_step : step (closes_ipsec spi operator) s
        ≡ applied (done_with (close_ipsec s.ike s.ipsec spi operator).number (change.closes_child spi)) s
    child_closing_step = rw child_closing_checked child_closing_done

    pub child_closing_allowed : Allowed operator
        (done_with (close_ipsec s.ike s.ipsec spi operator).number (change.closes_child spi)) s
    child_closing_allowed = rw child_closing_checked (go (eqb child_closing 0) refl)
      where
        go : (b : Bool) → eqb child_closing 0 ≡ b → Allowed operator (cond b (change.closes_child spi) change.stays) s
        go false e = tt
        go true e =
            let p =
            all_passed (closing_checks s.ipsec spi operator (owns_ipsec operator s.ike entry)) refl (eqb-true _ 0 e)
            in
            let bad = neither (not (list_fits s.ipsec)) (eqb spi 0) (neither _ _ p.0).0 in
            sym (child_owned (eqb-false spi 0 bad.1)) ∙ not-false _ p.1.0

-- setting a policy
module _ (n : ℕ) (rules : List Rule) (operator : ℕ) where
  abbrev pub setting_number : ℕ
  setting_number = first_failed (policy_checks n rules operator)

  module _ (s : State) where
    pub setting_number_lem : (set_policy s.policies n rules operator).number ≡ setting_number
    unfolding set_policy
    setting_number_lem = picked (λ (a : PolicyAnswer). a.number) setting_number _ _ refl refl

    setting_done : step (sets_policy n rules operator) s
        ≡ applied (done_with setting_number (change.sets operator (new_policy n rules))) s
    unfolding step applied set_policy
    setting_done = go (eqb setting_number 0) refl
      where
        go : (b : Bool) → eqb setting_number 0 ≡ b
            → step (sets_policy n rules operator) s
            ≡ applied (cond b (change.sets operator (new_policy n rules)) change.stays) s
        go true e = rw e
        go false e = rw e

    pub setting_step : step (sets_policy n rules operator) s
        ≡ applied (done_with (set_policy s.policies n rules operator).number
        (change.sets operator (new_policy n rules))) s
    setting_step = rw setting_number_lem setting_done

    pub setting_allowed : Allowed operator
        (done_with (set_policy s.policies n rules operator).number (change.sets operator (new_policy n rules))) s
    setting_allowed = rw setting_number_lem (go (eqb setting_number 0) refl)
      where
        go : (b : Bool) → eqb setting_number 0 ≡ b
            → Allowed operator (cond b (change.sets operator (new_policy n rules)) change.stays) s
        go false e = tt
        go true e =
            let p = all_passed (policy_checks n rules operator) refl (eqb-true _ 0 e) in
            (refl, (both (is_operator operator) _ (not-false _ p.1.0)).0)
