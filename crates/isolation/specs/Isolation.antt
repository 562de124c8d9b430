-- Trusted. What one operator sees does not depend on the other's calls, but for what 02, E9, excuses.
--
--   named            a call is an operator's
--   excused          a refusal that may tell of the other
--   Isolation        of two runs from empty tables; `IsolationFrom` from any two that look the same
--   OthersStep       a call of the other changes nothing of one's own
--   OwnStep          one own call, where two states look the same
--   SameRecords      what looks the same has the same records
use Rattle.std.specs.Prelude.{ℕ, ◌≡◌, ◌⊎◌, List, Bool, true, ◌&&◌, ◌||◌, not, eqb}
use Rattle.octets.specs.Numbers.{number_of}
use Rattle.octets.specs.declared.number.Number.TheVariants.{Full, SpiInUse, CannotCloneNow}
use Rattle.order.specs.Order.{All, after}
use Rattle.records.specs.Records.{of_operator}
use Rattle.records.specs.declared.ike.IkeRecord.{IkeRecord}
use Rattle.records.specs.declared.ipsec.IpsecRecord.{IpsecRecord}
use Rattle.tables.specs.Calls.{has_ike, owns_ipsec}
use Rattle.sharing.specs.Runs.{only, Moment, moments, Seen, seen, Isolated}
use Rattle.sharing.specs.Table.{Has}
use Rattle.isolating.specs.State.{State, empty, Own, own_in}
use Rattle.isolating.specs.Reached.{WellFormed}
use Rattle.isolation.specs.Calls.{Call, operator_of, step, Answer, number_in, answer}

abbrev pub named : ℕ → Call → Bool
named operator c = eqb (operator_of c) operator

abbrev pub number : Call → State → ℕ
number c s = number_in (answer c s)

-- E9: "a 10, 11 or such a 41", which is "a full table's": the tables before the call have no free IKE place. 41 alone
-- does not tell, since a record that is being deleted gets it too.
abbrev pub excused : Call → State → Bool
excused c s =
    eqb (number c s) (number_of Full)
    || (eqb (number c s) (number_of SpiInUse)
    || (eqb (number c s) (number_of CannotCloneNow) && not (has_ike 0 s.ike)))

-- the same of a call and the state that it is made on, and the number of what is seen of it
abbrev pub excused_at : Moment Call State → Bool
excused_at m = excused m.call m.before

abbrev pub number_seen : Seen Answer Own → ℕ
number_seen e = number_in e.answer

-- E9: "In two runs from there with one's same calls in the same order, the other's anywhere between, one's answers,
-- octets and records (places aside) first differ at a 10, 11 or such a 41." The other's calls may be any in each run.
-- At the first difference the numbers differ, and one of them is such a number in its run. After it nothing is said.
module _ (operator : ℕ) where
  abbrev pub RunsFrom : State → State → List Call → List Call → Type 0
  RunsFrom s t cs ds =
      Isolated (seen step answer (own_in operator)) number_seen excused_at
      (moments step (named operator) s cs) (moments step (named operator) t ds)

abbrev pub Isolation : Type 0
Isolation =
    (operator : ℕ) (cs ds : List Call) → only (named operator) cs ≡ only (named operator) ds
    → RunsFrom operator empty empty cs ds

-- The same from any two well-formed states that look the same to the operator, the rest different.
abbrev pub IsolationFrom : Type 0
IsolationFrom =
    (operator : ℕ) (s t : State) → WellFormed s → WellFormed t → own_in operator s ≡ own_in operator t
    → (cs ds : List Call) → only (named operator) cs ≡ only (named operator) ds → RunsFrom operator s t cs ds

-- From empty tables, a call of the other changes neither one's records nor one's policy.
abbrev pub OthersStep : Type 0
OthersStep =
    (operator : ℕ) (cs : List Call) (c : Call) → (operator_of c ≡ operator → ⊥)
    → let s = after step empty cs in
    own_in operator (step c s) ≡ own_in operator s

-- One own call after two runs from empty tables, where one's records and policy are the same: all that it gives back
-- is the same, and so are records and policy after it; or the numbers differ, and one of the two is excused.
abbrev pub OwnStep : Type 0
OwnStep =
    (cs ds : List Call) (c : Call)
    → let s = after step empty cs in
    let t = after step empty ds in
    let o = operator_of c in
    own_in o s ≡ own_in o t
    → ((answer c s ≡ answer c t) × (own_in o (step c s) ≡ own_in o (step c t)))
    ⊎ ((number c s ≡ number c t → ⊥) × ((excused c s ≡ true) ⊎ (excused c t ≡ true)))

-- "records (places aside)": of two states that look the same to an operator, each record of it in the one, every
-- field, is one of it in the other.
abbrev pub SameRecords : Type 0
SameRecords =
    (operator : ℕ) (s t : State) → WellFormed s → own_in operator s ≡ own_in operator t
    → All (λ (r : IkeRecord). of_operator operator r ≡ true → Has r t.ike) s.ike
    × All (λ (r : IpsecRecord). owns_ipsec operator s.ike r ≡ true
    → (owns_ipsec operator t.ike r ≡ true) × Has r t.ipsec) s.ipsec
