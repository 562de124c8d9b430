-- Each excuse is needed: two runs with operator A's same calls that differ at an 11, at a 10 and at a full table's
-- 41; and after the first difference others follow that are no such ones.
use mathlib.Core.Path.{◌≡◌, refl}
use mathlib.Core.List.{List, [], ◌∷◌, ◌++◌}
use Rattle.order.specs.Order.{after}
use Rattle.notify.specs.Notify.{kind_of}
use Rattle.payload.specs.Payload.{payload_at, sized, notify_at}
use Rattle.reader.specs.Chain.{chain_at, scanned}
use Rattle.clone_chain.specs.CloneChain.{clone_reading}
use Rattle.tables.specs.Calls.{open_both, close_ike}
use Rattle.cloning.specs.Clone.{early_clone, late_clone, clone_told, cloned}
use Rattle.sharing.specs.Runs.{only}
use Rattle.isolating.specs.State.{State, empty}
use Rattle.isolation.specs.Calls.{Call, opens_both, closes_ike, clones, step, answer}
use Rattle.isolation.specs.Isolation.{named, number}
use Rattle.isolation.proofs.Tight.{opening, opens, cloning}

abbrev after_all : List Call → State
after_all cs = after step empty cs

-- B has the SPI: 0 and 11, and then 0 and 4
abbrev taken : List Call
taken = opens_both (opening 1 7) ∷ []

abbrev asked : Call
asked = opens_both (opening 0 7)

pub needs_11 : (number asked empty ≡ 0) × (number asked (after_all taken) ≡ 11)
    × (number (closes_ike 7 0) (after_all (asked ∷ [])) ≡ 0)
    × (number (closes_ike 7 0) (after_all (taken ++ (asked ∷ []))) ≡ 4)
unfolding step answer open_both close_ike
needs_11 = (refl, refl, refl, refl)

-- B has its share: 0 and 10, and 0 and 41
abbrev twelve : List Call
twelve = opens 0 100 12

abbrev beside : List Call
beside = opens 1 0 20 ++ twelve

pub same_calls : only (named 0) beside ≡ only (named 0) twelve
same_calls = refl

pub needs_10 : (number (opens_both (opening 0 500)) (after_all twelve) ≡ 0)
    × (number (opens_both (opening 0 500)) (after_all beside) ≡ 10)
unfolding step answer open_both
needs_10 = (refl, refl)

pub needs_41 : (number (clones (cloning 0 101 500)) (after_all twelve) ≡ 0)
    × (number (clones (cloning 0 101 500)) (after_all beside) ≡ 41)
unfolding step answer open_both cloned early_clone late_clone clone_told clone_reading chain_at scanned payload_at sized notify_at kind_of
needs_41 = (refl, refl)
