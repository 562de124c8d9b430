-- What each table call can come to: the tables as they were, or one change under what its checks have shown.
use Prim.Native.Nat.{ℕ, ◌<◌, ◌≤◌}
use mathlib.Core.Path.{◌≡◌, refl}
use mathlib.Core.Logic.{◌⊎◌, inl, inr}
use mathlib.Core.List.{List, map}
use mathlib.Core.Bool.{Bool, true, false, ◌||◌, not}
use borrow.Author.Tests.{ltb-true, ltb-false, leb-false, eqb-true, eqb-false, not-true, not-false}
use lib.Dec.{eqb}
use lib.ListN.{length, get_or, set}
use Rattle.octets.specs.Lists.{place_of}
use Rattle.octets.specs.Checks.{Check, first_failed}
use Rattle.octets.specs.Limits.{ipsec_share}
use Rattle.octets.proofs.Checks.{all_passed}
use Rattle.octets.proofs.Small.{both, neither}
use Rattle.records.specs.Records.{ike_spi, ipsec_spi, no_ike, new_ipsec, no_ipsec, released, deletion_marked}
use Rattle.octets.specs.Operators.{is_operator}
use Rattle.tables.specs.Calls.{ike_answer, ipsec_answer, tables_answer, has_ike, list_fits}
use Rattle.tables.specs.Calls.{owns, owns_ipsec, ipsecs_of}
use Rattle.tables.specs.Calls.{opening_checks, adding_checks, closing_checks, marking_checks}
use Rattle.tables.specs.Calls.{open_both, open_ipsec, close_ike, close_ipsec, mark_deletion}
use Rattle.tables.specs.Opened.{BothOpened, NeitherOpened, BothOrNeither}
use Rattle.records.specs.declared.ike.IkeRecord.{IkeRecord}
use Rattle.records.specs.declared.ipsec.IpsecRecord.{IpsecRecord}

pub both_or_neither : BothOrNeither
unfolding open_both
both_or_neither ike ipsec o = go (eqb number 0) refl
  where
    number : ℕ
    number = first_failed (opening_checks ike ipsec o)

    go : (b : Bool) → eqb number 0 ≡ b → BothOpened ike ipsec o ⊎ NeitherOpened ike ipsec o
    go false e = inr (record { refused = rw e (eqb-false number 0 e); same = rw e; child_same = rw e })
    go true e =
        let p = all_passed (opening_checks ike ipsec o) refl (eqb-true number 0 e) in
        let spis = (both (list_fits ipsec) _ (not-false _ p.0)).1 in
        let child = both (not (eqb o.spi 0)) _ spis in
        inl (record {
          named = eqb-false o.spi 0 (not-true _ child.0);
          child_named = eqb-false o.child 0 (not-true _ (both (not (eqb o.child 0)) _ child.1).0);
          fits = (both (is_operator o.agreed.operator) _ (both (not (eqb o.child 0)) _ child.1).1).1;
          new = ltb-false _ _ p.1.0;
          child_new = ltb-false _ _ p.1.1.0;
          room = ltb-true _ _ (not-false _ p.1.1.1.1.1.0);
          child_room = ltb-true _ _ (not-false _ p.1.1.1.1.1.1.0);
          is = rw e;
        })

-- what `owns` says
pub record Own (operator spi : ℕ) (ike : List IkeRecord) : Type 0 where
  pub named : spi ≡ 0 → ⊥
  pub there : place_of ike_spi spi ike < length ike
  pub own : (get_or ike (place_of ike_spi spi ike) no_ike).agreed.operator ≡ operator

pub own_of : (operator spi : ℕ) (ike : List IkeRecord) → owns operator spi ike ≡ true → Own operator spi ike
own_of operator spi ike e =
    let a = both (not (eqb spi 0)) _ e in
    let b = both (has_ike spi ike) _ a.1 in
    record {
      named = eqb-false spi 0 (not-true _ a.0);
      there = ltb-true _ _ b.0;
      own = eqb-true _ operator b.1;
    }

module _ (ike : List IkeRecord) (ipsec : List IpsecRecord) (spi owner operator : ℕ) where
  pub record IpsecOpened : Type 0 where
    pub named : spi ≡ 0 → ⊥
    pub owner_own : Own operator owner ike
    pub new : length ipsec ≤ place_of ipsec_spi spi ipsec
    pub few : ipsecs_of operator ike ipsec < ipsec_share
    pub room : place_of ipsec_spi 0 ipsec < length ipsec
    pub is : open_ipsec ike ipsec spi owner operator
        ≡ ipsec_answer 0
        (set ipsec (place_of ipsec_spi 0 ipsec) (new_ipsec spi owner
        (get_or ike (place_of ike_spi owner ike) no_ike).pair))

  pub open_ipsec_cases : ((open_ipsec ike ipsec spi owner operator).ipsec ≡ ipsec) ⊎ IpsecOpened
  unfolding open_ipsec
  open_ipsec_cases = go (eqb number 0) refl
    where
      number : ℕ
      number = first_failed (adding_checks ike ipsec spi owner operator)

      go : (b : Bool) → eqb number 0 ≡ b → ((open_ipsec ike ipsec spi owner operator).ipsec ≡ ipsec) ⊎ IpsecOpened
      go false e = inl (rw e)
      go true e =
          let p = all_passed (adding_checks ike ipsec spi owner operator) refl (eqb-true number 0 e) in
          let spis = neither (not (list_fits ipsec) || eqb spi 0) (eqb owner 0) (neither _ _ p.0).0 in
          inr (record {
            named = eqb-false spi 0 (neither (not (list_fits ipsec)) (eqb spi 0) spis.0).1;
            owner_own = own_of operator owner ike (not-false _ p.1.0);
            new = ltb-false _ _ p.1.1.0;
            few = leb-false _ _ p.1.1.1.0;
            room = ltb-true _ _ (not-false _ p.1.1.1.1.0);
            is = rw e;
          })

module _ (ike : List IkeRecord) (ipsec : List IpsecRecord) (spi operator : ℕ) where
  pub record IkeClosed : Type 0 where
    pub own : Own operator spi ike
    pub is : close_ike ike ipsec spi operator
        ≡ tables_answer 0 (set ike (place_of ike_spi spi ike) no_ike) (map (released spi) ipsec)

  pub close_ike_cases : (((close_ike ike ipsec spi operator).ike ≡ ike) × ((close_ike ike ipsec spi operator).ipsec ≡ ipsec))
      ⊎ IkeClosed
  unfolding close_ike
  close_ike_cases = go (eqb number 0) refl
    where
      checks : List Check
      checks = closing_checks ipsec spi operator (owns operator spi ike)

      number : ℕ
      number = first_failed checks

      go : (b : Bool) → eqb number 0 ≡ b
          → (((close_ike ike ipsec spi operator).ike ≡ ike) × ((close_ike ike ipsec spi operator).ipsec ≡ ipsec)) ⊎ IkeClosed
      go false e = inl (rw e, rw e)
      go true e =
          let p = all_passed checks refl (eqb-true number 0 e) in
          inr (record { own = own_of operator spi ike (not-false _ p.1.0); is = rw e })

  pub record IpsecClosed : Type 0 where
    pub named : spi ≡ 0 → ⊥
    pub own : owns_ipsec operator ike (get_or ipsec (place_of ipsec_spi spi ipsec) no_ipsec) ≡ true
    pub is : close_ipsec ike ipsec spi operator ≡ ipsec_answer 0 (set ipsec (place_of ipsec_spi spi ipsec) no_ipsec)

  pub close_ipsec_cases : ((close_ipsec ike ipsec spi operator).ipsec ≡ ipsec) ⊎ IpsecClosed
  unfolding close_ipsec
  close_ipsec_cases = go (eqb number 0) refl
    where
      entry : IpsecRecord
      entry = get_or ipsec (place_of ipsec_spi spi ipsec) no_ipsec

      checks : List Check
      checks = closing_checks ipsec spi operator (owns_ipsec operator ike entry)

      number : ℕ
      number = first_failed checks

      go : (b : Bool) → eqb number 0 ≡ b → ((close_ipsec ike ipsec spi operator).ipsec ≡ ipsec) ⊎ IpsecClosed
      go false e = inl (rw e)
      go true e =
          let p = all_passed checks refl (eqb-true number 0 e) in
          let named = (neither (not (list_fits ipsec)) (eqb spi 0) (neither _ _ p.0).0).1 in
          inr (record { named = eqb-false spi 0 named; own = not-false _ p.1.0; is = rw e })

module _ (ike : List IkeRecord) (spi operator : ℕ) where
  pub record DeletionMarked : Type 0 where
    pub own : Own operator spi ike
    pub is : mark_deletion ike spi operator
        ≡ ike_answer 0 (set ike (place_of ike_spi spi ike) (deletion_marked (get_or ike (place_of ike_spi spi ike) no_ike)))

  pub mark_deletion_cases : ((mark_deletion ike spi operator).ike ≡ ike) ⊎ DeletionMarked
  unfolding mark_deletion
  mark_deletion_cases = go (eqb number 0) refl
    where
      number : ℕ
      number = first_failed (marking_checks ike spi operator)

      go : (b : Bool) → eqb number 0 ≡ b → ((mark_deletion ike spi operator).ike ≡ ike) ⊎ DeletionMarked
      go false e = inl (rw e)
      go true e =
          let p = all_passed (marking_checks ike spi operator) refl (eqb-true number 0 e) in
          inr (record { own = own_of operator spi ike (not-false _ p.1.0); is = rw e })
