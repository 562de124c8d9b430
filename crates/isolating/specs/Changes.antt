-- Inner. What a call of an operator can do to what two share, whichever call it is, and what its operator sees of that.
-- Serves the proof of isolation, which does not speak of it; each call is shown to do such a change
-- (isolation/proofs).
--
--   Change           what a call does; `applied` to the tables, `shown` to its operator
--   is_of, belongs    whose a record is
--   NewIke, NewIpsec what is known of a record that is opened; `Rewrites` of one that is stored for another
--   Allowed          what is known where a call of an operator does a change
use Rattle.std.specs.Prelude.{ℕ, ◌<◌, ◌≡◌, List, map, Bool, true, eqb, set}
use Rattle.std.proofs.Math.Option.{none, some}
use Rattle.octets.specs.Limits.{ike_share, ipsec_share}
use Rattle.octets.specs.Lists.{place_of}
use Rattle.octets.specs.Operators.{is_operator}
use Rattle.address.specs.declared.pair.Pair.{Pair}
use Rattle.policy.specs.declared.rules.Policy.{Policy}
use Rattle.records.specs.Records.{ike_spi, ipsec_spi, no_ipsec, follows}
use Rattle.records.specs.declared.ike.IkeRecord.{IkeRecord}
use Rattle.records.specs.declared.ipsec.IpsecRecord.{IpsecRecord}
use Rattle.tables.specs.Calls.{owns, ikes_of, ipsecs_of, ike_closed, owned_closed}
use Rattle.sharing.specs.Table as table
use Rattle.isolating.specs.State.{State, state, Own}

pub data Change : Type 0 where
  stays : Change
  -- an IKE record and its first IPsec record
  opens : IkeRecord → IpsecRecord → Change
  adds : IpsecRecord → Change
  clones : IkeRecord → Change
  -- the IKE record with an SPI becomes another; and its IPsec records take a pair
  becomes : ℕ → IkeRecord → Change
  moves : ℕ → IkeRecord → Pair → Change
  -- the IKE record with an SPI is closed, with its IPsec records
  closes : ℕ → Change
  closes_child : ℕ → Change
  sets : ℕ → Policy → Change

unfoldable pub applied : Change → State → State
applied stays s = s
applied (opens r c) s = state (table.put ike_spi r s.ike) (table.put ipsec_spi c s.ipsec) s.policies
applied (adds c) s = state s.ike (table.put ipsec_spi c s.ipsec) s.policies
applied (clones r) s = state (table.put ike_spi r s.ike) s.ipsec s.policies
applied (becomes spi r) s = state (set s.ike (place_of ike_spi spi s.ike) r) s.ipsec s.policies
applied (moves spi r pair) s =
    state (set s.ike (place_of ike_spi spi s.ike) r) (map (follows spi pair) s.ipsec) s.policies
applied (closes spi) s = state (ike_closed s.ike spi) (owned_closed s.ipsec spi) s.policies
applied (closes_child spi) s =
    state s.ike (set s.ipsec (place_of ipsec_spi spi s.ipsec) no_ipsec) s.policies
applied (sets operator policy) s = state s.ike s.ipsec (set s.policies operator policy)

abbrev pub ipsec_owner : IpsecRecord → ℕ
ipsec_owner r = r.owner

abbrev pub own : table.View IkeRecord → table.View IpsecRecord → Policy → Own
own ike ipsec policy = record { ike = ike; ipsec = ipsec; policy = policy }

unfoldable pub shown : Change → Own → Own
shown stays v = v
shown (opens r c) v = own (table.added ike_spi r v.ike) (table.added ipsec_spi c v.ipsec) v.policy
shown (adds c) v = own v.ike (table.added ipsec_spi c v.ipsec) v.policy
shown (clones r) v = own (table.added ike_spi r v.ike) v.ipsec v.policy
shown (becomes spi r) v =
    own (table.changed ike_spi (table.replaced ike_spi spi (some r)) v.ike) v.ipsec v.policy
shown (moves spi r pair) v =
    own (table.changed ike_spi (table.replaced ike_spi spi (some r)) v.ike)
    (table.changed ipsec_spi (λ c. some (follows spi pair c)) v.ipsec) v.policy
shown (closes spi) v =
    own (table.changed ike_spi (table.replaced ike_spi spi none) v.ike)
    (table.changed ipsec_spi (table.orphaned ipsec_spi ipsec_owner spi) v.ipsec) v.policy
shown (closes_child spi) v =
    own v.ike (table.changed ipsec_spi (table.replaced ipsec_spi spi none) v.ipsec) v.policy
shown (sets operator policy) v = own v.ike v.ipsec policy

abbrev pub is_of : ℕ → IkeRecord → Bool
is_of operator r = eqb r.agreed.operator operator

abbrev pub belongs : ℕ → List IkeRecord → IpsecRecord → Bool
belongs operator ike r = owns operator r.owner ike

pub record NewIke (operator : ℕ) (r : IkeRecord) (s : State) : Type 0 where
  pub named : r.spi ≡ 0 → ⊥
  pub mine : r.agreed.operator ≡ operator
  pub known : is_operator operator ≡ true
  pub new : table.found ike_spi r.spi s.ike ≡ none
  pub room : table.Room ike_spi s.ike
  pub share : ikes_of operator s.ike < ike_share

pub record NewIpsec (operator : ℕ) (c : IpsecRecord) (s : State) : Type 0 where
  pub named : c.spi ≡ 0 → ⊥
  pub new : table.found ipsec_spi c.spi s.ipsec ≡ none
  pub room : table.Room ipsec_spi s.ipsec
  pub share : ipsecs_of operator s.ike s.ipsec < ipsec_share

-- what is known of a record that another is stored for
pub record Rewrites (operator spi : ℕ) (r : IkeRecord) (s : State) : Type 0 where
  pub known : is_operator operator ≡ true
  pub owned : owns operator spi s.ike ≡ true
  pub same : r.spi ≡ spi
  pub mine : r.agreed.operator ≡ operator

abbrev pub Allowed : ℕ → Change → State → Type 0
Allowed operator stays s = Unit {0}
Allowed operator (opens r c) s = NewIke operator r s × NewIpsec operator c s × (c.owner ≡ r.spi)
Allowed operator (adds c) s = NewIpsec operator c s × (owns operator c.owner s.ike ≡ true)
Allowed operator (clones r) s = NewIke operator r s
Allowed operator (becomes spi r) s = Rewrites operator spi r s
Allowed operator (moves spi r pair) s = Rewrites operator spi r s
Allowed operator (closes spi) s = owns operator spi s.ike ≡ true
Allowed operator (closes_child spi) s =
    table.owns ipsec_spi no_ipsec (belongs operator s.ike) spi s.ipsec ≡ true
Allowed operator (sets operator' policy) s = (operator' ≡ operator) × (is_operator operator ≡ true)
