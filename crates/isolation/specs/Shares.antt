-- Trusted. What an operator has that is refused for want of room, in all states that calls reach from empty tables: 02,
-- E9.
--
--   AddUp            the two operators' records are all that are in use
--   AtLeast          what an operator has that gets a 10, a 43 or a full table's 41
--   Reached          all that holds of a state; `AllReached` of every one that is reached
use Rattle.std.specs.Prelude.{ℕ, ◌+◌, ◌≤◌, ◌<◌, ◌≡◌, ◌⊎◌, List, true, false}
use Rattle.octets.specs.Flags.{is_yes}
use Rattle.octets.specs.Lists.{how_many}
use Rattle.octets.specs.Operators.{is_operator}
use Rattle.order.specs.Order.{after}
use Rattle.records.specs.Records.{ike_spi, ipsec_spi}
use Rattle.tables.specs.Calls.{has_ike, has_ipsec, ikes_of, ipsecs_of}
use Rattle.tables.specs.Tables.{meant}
use Rattle.cloning.specs.Clone.{CloneRequest}
use Rattle.sharing.specs.Table.{used}
use Rattle.isolating.specs.State.{State, empty}
use Rattle.isolating.specs.Reached.{WellFormed, WithinShares}
use Rattle.isolation.specs.Calls.{Call, opens_ipsec, clones, operator_of, step}
use Rattle.isolation.specs.Isolation.{number}

-- an operator's records
module _ (operator : ℕ) (s : State) where
  abbrev pub ikes : ℕ
  ikes = ikes_of operator s.ike

  abbrev pub ipsecs : ℕ
  ipsecs = ipsecs_of operator s.ike s.ipsec

pub record AddUp (s : State) : Type 0 where
  pub ike : how_many (used ike_spi) s.ike ≡ ikes 0 s + ikes 1 s
  pub ipsec : how_many (used ipsec_spi) s.ipsec ≡ ipsecs 0 s + ipsecs 1 s

-- in a full table, and so with at least 12 IKE records, or 48 IPsec records
module _ (operator : ℕ) (s : State) where
  abbrev pub IkeFull : Type 0
  IkeFull = (has_ike 0 s.ike ≡ false) × (12 ≤ ikes operator s)

  abbrev pub IpsecFull : Type 0
  IpsecFull = (has_ipsec 0 s.ipsec ≡ false) × (48 ≤ ipsecs operator s)

-- E9: "10, 43 and a full table's 41 come for an IKE record only to one with at least 12, for an IPsec record 48." By
-- the tables before the call. 43 comes at the share itself; a 41 also for a record that is being deleted, whatever
-- there is.
pub record AtLeast (operator : ℕ) (s : State) : Type 0 where
  -- a full table, whatever is called
  pub ike_full : has_ike 0 s.ike ≡ false → 12 ≤ ikes operator s
  pub ipsec_full : has_ipsec 0 s.ipsec ≡ false → 48 ≤ ipsecs operator s
  -- any call
  pub ever_10 : (c : Call) → operator_of c ≡ operator → number c s ≡ 10 → IkeFull operator s ⊎ IpsecFull operator s
  pub ever_43 : (c : Call) → operator_of c ≡ operator → number c s ≡ 43
      → (20 ≤ ikes operator s) ⊎ (80 ≤ ipsecs operator s)
  pub ever_41 : (c : Call) → operator_of c ≡ operator → number c s ≡ 41 → has_ike 0 s.ike ≡ false
      → 12 ≤ ikes operator s
  -- those that open an IPsec record alone, and an IKE record alone
  pub add-10 : (spi owner : ℕ) → number (opens_ipsec spi owner operator) s ≡ 10 → IpsecFull operator s
  pub add-43 : (spi owner : ℕ) → number (opens_ipsec spi owner operator) s ≡ 43 → 80 ≤ ipsecs operator s
  pub clone_43 : (q : CloneRequest) → q.operator ≡ operator → number (clones q) s ≡ 43 → 20 ≤ ikes operator s
  pub clone_41 : (q : CloneRequest) → q.operator ≡ operator → number (clones q) s ≡ 41
      → (is_yes (meant s.ike q.spi).deleting ≡ true) ⊎ IkeFull operator s
  -- so none of them comes to one with fewer
  pub spared : ikes operator s < 12 → ipsecs operator s < 48 → (c : Call) → operator_of c ≡ operator
      → (number c s ≡ 10 → ⊥) × (number c s ≡ 43 → ⊥) × (number c s ≡ 41 → has_ike 0 s.ike ≡ true)

-- "Shown from empty tables that nothing else writes".
pub record Reached (s : State) : Type 0 where
  pub well_formed : WellFormed s
  pub within_shares : WithinShares s
  pub add-up : AddUp s
  pub at_least : (operator : ℕ) → is_operator operator ≡ true → AtLeast operator s

abbrev pub AllReached : Type 0
AllReached = (cs : List Call) → Reached (after step empty cs)
