-- E9's isolation, proved; and the facts of one call that it rests on.
use Prim.Native.Nat.{ℕ}
use mathlib.Core.Path.{◌≡◌, refl, ap}
use mathlib.Core.List.{List, [], ◌∷◌}
use mathlib.Core.Bool.{true}
use borrow.Author.Tests.{eq-eqb, eqb-true, eqb-false}
use Rattle.order.specs.Order.{after}
use Rattle.records.specs.Records.{ike_spi, ipsec_spi, of_operator}
use Rattle.records.specs.declared.ike.IkeRecord.{IkeRecord}
use Rattle.tables.specs.Calls.{owns_ipsec}
use Rattle.sharing.specs.Table.{Has}
use Rattle.sharing.proofs.TwoRuns.{Together, two_runs}
use Rattle.sharing.proofs.Decided.{together}
use Rattle.sharing.proofs.Lookups.{own_free}
use Rattle.sharing.proofs.Adequate.{same_records}
use Rattle.sharing.proofs.Stays.{all_give}
use Rattle.isolating.specs.State.{State, empty, Own, own_in}
use Rattle.isolating.specs.Reached.{WellFormed}
use Rattle.isolating.specs.Changes.{is_of, belongs}
use Rattle.isolating.proofs.Kept.{empty_well}
use Rattle.isolation.specs.Calls.{Call, operator_of, step, number_in, answer}
use Rattle.isolation.specs.Isolation.{named, excused, Isolation, IsolationFrom, OthersStep, OwnStep, SameRecords}
use Rattle.isolation.proofs.Decides.{beside, judged, told, next, excuse, leaks, others, stays_well, decided}

-- whatever is called, from well-formed tables on
pub well_after : (s : State) → WellFormed s → (cs : List Call) → WellFormed (after step s cs)
well_after s w [] = w
well_after s w (c ∷ cs) = well_after (step c s) (stays_well s w c) cs

-- one own call on two states that look the same to its operator
own_call : (o : ℕ) (c : Call) (s t : State) → WellFormed s → WellFormed t → named o c ≡ true → own_in o s ≡ own_in o t
    → Together step answer (own_in o) (named o) number_in excused WellFormed c s t
unfolding beside
own_call o c s t w x e v =
    together step answer (own_in o) (named o) number_in WellFormed beside judged told next excuse leaks c s t
    (decided s w o c (eqb-true (operator_of c) o e)) (decided t x o c (eqb-true (operator_of c) o e)) v

pub isolation_from : IsolationFrom
isolation_from o s t w x v cs ds e =
    two_runs step answer (own_in o) (named o) number_in excused WellFormed (λ c s w. stays_well s w c)
    (λ c s w e. others s w c o (eqb-false (operator_of c) o e)) (own_call o) s w cs t x v ds e

pub isolation : Isolation
isolation o = isolation_from o empty empty empty_well empty_well refl

pub others_step : OthersStep
others_step o cs c n = others (after step empty cs) (well_after empty empty_well cs) c o n

pub own_step : OwnStep
own_step cs ds c v =
    let o = operator_of c in
    own_call o c (after step empty cs) (after step empty ds) (well_after empty empty_well cs)
    (well_after empty empty_well ds)
    (eq-eqb o o refl) v

pub looks_the_same : SameRecords
unfolding own_in
looks_the_same o s t w e = (
  all_give (λ (r : IkeRecord). of_operator o r ≡ true → (of_operator o r ≡ true) × Has r t.ike)
      (λ (r : IkeRecord). of_operator o r ≡ true → Has r t.ike) (λ r h m. (h m).1) s.ike
      (same_records ike_spi (of_operator o) (of_operator o) (own_free ike_spi (is_of o)) (own_free ike_spi (is_of o))
      s.ike t.ike
      w.ike_once (λ k. ap (λ (v : Own). v.ike.find k) e)),
  same_records ipsec_spi (owns_ipsec o s.ike) (owns_ipsec o t.ike) (own_free ipsec_spi (belongs o s.ike))
      (own_free ipsec_spi (belongs o t.ike)) s.ipsec t.ipsec w.ipsec_once
      (λ k. ap (λ (v : Own). v.ipsec.find k) e),
)
