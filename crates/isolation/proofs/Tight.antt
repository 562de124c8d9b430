-- The bounds are met: an operator with exactly 12 IKE records is told 10 and a full table's 41, one with exactly 48
-- IPsec records 10, and one at its share 43.
use Prim.Native.Nat.{ℕ, zero, suc, ◌+◌}
use mathlib.Core.Path.{◌≡◌, refl}
use mathlib.Core.List.{List, [], ◌∷◌, ◌++◌}
use lib.ListN.{replicate}
use Rattle.octets.specs.Limits.{address_octets, response_room}
use Rattle.octets.specs.Wire.{notify_payload}
use Rattle.order.specs.Order.{after}
use Rattle.address.specs.declared.pair.Pair.{Pair}
use Rattle.tables.specs.Calls.{open_both, open_ipsec}
use Rattle.tables.specs.declared.calls.Opening.{Opening}
use Rattle.notify.specs.Notify.{kind_of}
use Rattle.payload.specs.Payload.{payload_at, sized, notify_at}
use Rattle.reader.specs.Chain.{chain_at, scanned}
use Rattle.clone_chain.specs.CloneChain.{clone_reading}
use Rattle.cloning.specs.Clone.{CloneRequest, clone_request, early_clone, late_clone, clone_told, cloned}
use Rattle.isolating.specs.State.{State, empty}
use Rattle.isolation.specs.Calls.{Call, opens_both, opens_ipsec, clones, step, answer}
use Rattle.isolation.specs.Isolation.{number}
use Rattle.isolation.specs.Shares.{ikes, ipsecs}

abbrev pair : Pair
pair =
    record {
      family = 4;
      source = replicate address_octets 0;
      destination = replicate address_octets 0;
      source_port = 0;
      destination_port = 0;
    }

abbrev pub opening : ℕ → ℕ → Opening
opening operator spi =
    record {
      spi = spi;
      agreed = record { mobike = 1; cloning = 1; operator = operator; peer = spi };
      pair = pair;
      child = spi;
    }

-- n openings with SPIs from k on
abbrev pub opens : ℕ → ℕ → ℕ → List Call
opens operator k zero = []
opens operator k (suc n) = opens_both (opening operator (k + n + 1)) ∷ opens operator k n

abbrev adds : ℕ → ℕ → ℕ → ℕ → List Call
adds operator owner k zero = []
adds operator owner k (suc n) = opens_ipsec (k + n + 1) owner operator ∷ adds operator owner k n

-- the octets of a Notify payload CLONE_IKE_SA, 16433, with no SPI and no data
abbrev pub cloning : ℕ → ℕ → ℕ → CloneRequest
cloning operator spi new =
    clone_request spi new notify_payload (0 ∷ 0 ∷ 0 ∷ 8 ∷ 0 ∷ 0 ∷ 64 ∷ 49 ∷ []) response_room operator

-- 20 IKE records of B, 12 of A
abbrev full : State
full = after step empty (opens 1 0 20 ++ opens 0 100 12)

pub full_is : (ikes 0 full ≡ 12) × (number (opens_both (opening 0 500)) full ≡ 10)
    × (number (clones (cloning 0 101 500)) full ≡ 41) × (ikes 1 full ≡ 20)
    × (number (opens_both (opening 1 500)) full ≡ 43)
unfolding step answer open_both cloned early_clone late_clone clone_told clone_reading chain_at scanned payload_at sized notify_at kind_of
full_is = (refl, refl, refl, refl, refl)

-- 20 IKE records of one operator alone: a clone is refused with 43
abbrev alone : State
alone = after step empty (opens 1 0 20)

pub alone_is : (ikes 1 alone ≡ 20) × (number (clones (cloning 1 1 500)) alone ≡ 43)
unfolding step answer open_both cloned early_clone late_clone clone_told clone_reading chain_at scanned payload_at sized notify_at kind_of
alone_is = (refl, refl)

-- 80 IPsec records of B, 48 of A
abbrev filled : State
filled = after step empty (opens 1 0 1 ++ (opens 0 100 1 ++ (adds 1 1 200 79 ++ adds 0 101 300 47)))

pub filled_is : (ipsecs 0 filled ≡ 48) × (number (opens_ipsec 500 101 0) filled ≡ 10)
    × (number (opens_both (opening 0 500)) filled ≡ 10) × (ipsecs 1 filled ≡ 80)
    × (number (opens_ipsec 500 1 1) filled ≡ 43) × (number (opens_both (opening 1 500)) filled ≡ 43)
unfolding step answer open_both open_ipsec
filled_is = (refl, refl, refl, refl, refl, refl)
