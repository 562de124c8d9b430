-- Trusted. What holds of all that calls reach from empty tables, as far as two operators are concerned (02, E9).
--
--   HasOwner         an IPsec record in use has an owner
--   WellFormed       no SPI twice, no IPsec record without an owner, and the sizes that the calls look at
--   WithinShares     every IKE record names an operator, and no operator has more than its share
use Rattle.std.specs.Prelude.{ℕ, ◌≤◌, ◌≡◌, List, true, length}
use Rattle.std.proofs.Math.Option.{none}
use Rattle.octets.specs.Limits.{ike_places, ipsec_places, operators, ike_share, ipsec_share}
use Rattle.octets.specs.Operators.{is_operator}
use Rattle.order.specs.Order.{All}
use Rattle.records.specs.Records.{ike_spi, ipsec_spi}
use Rattle.records.specs.declared.ike.IkeRecord.{IkeRecord}
use Rattle.records.specs.declared.ipsec.IpsecRecord.{IpsecRecord}
use Rattle.tables.specs.Calls.{ikes_of, ipsecs_of}
use Rattle.sharing.specs.Table.{found, Once}
use Rattle.isolating.specs.State.{State}

-- its owner's SPI is that of an IKE record in use
abbrev pub HasOwner : List IkeRecord → IpsecRecord → Type 0
HasOwner ike r = (r.spi ≡ 0 → ⊥) → (r.owner ≡ 0 → ⊥) × (found ike_spi r.owner ike ≡ none → ⊥)

pub record WellFormed (s : State) : Type 0 where
  pub ike_once : Once ike_spi s.ike
  pub ipsec_once : Once ipsec_spi s.ipsec
  pub owned : All (HasOwner s.ike) s.ipsec
  pub ipsec_places_lem : length s.ipsec ≡ ipsec_places
  pub policy_places : length s.policies ≡ operators

-- an IKE record in use is of operator A or B
abbrev pub NamesOperator : IkeRecord → Type 0
NamesOperator r = (r.spi ≡ 0 → ⊥) → is_operator r.agreed.operator ≡ true

-- E9: "each operator has at most 20 of the 32 and 80 of the 128 IPsec records, counted from those in use"
pub record WithinShares (s : State) : Type 0 where
  pub ike_places_lem : length s.ike ≡ ike_places
  pub operators_named : All NamesOperator s.ike
  pub ike_share_lem : (operator : ℕ) → ikes_of operator s.ike ≤ ike_share
  pub ipsec_share_lem : (operator : ℕ) → ipsecs_of operator s.ike s.ipsec ≤ ipsec_share
