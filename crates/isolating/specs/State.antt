-- Trusted. What two operators share, and what one of them sees of it: 02, E9.
--
--   State, state     both tables and the policies; `empty` with no record and no rule
--   Own, own_in       an operator's records, places aside, and its policy
use Rattle.std.specs.Prelude.{ℕ, List, replicate}
use Rattle.octets.specs.Limits.{ike_places, ipsec_places, operators}
use Rattle.policy.specs.Policy.{no_policy, policy_of}
use Rattle.policy.specs.declared.rules.Policy.{Policy}
use Rattle.records.specs.Records.{ike_spi, ipsec_spi, no_ike, no_ipsec, of_operator}
use Rattle.records.specs.declared.ike.IkeRecord.{IkeRecord}
use Rattle.records.specs.declared.ipsec.IpsecRecord.{IpsecRecord}
use Rattle.tables.specs.Calls.{owns_ipsec}
use Rattle.sharing.specs.Table.{View, view}

-- all that the calls of either operator read and write
pub record State : Type 0 where
  pub ike : List IkeRecord
  pub ipsec : List IpsecRecord
  pub policies : List Policy

abbrev pub state : List IkeRecord → List IpsecRecord → List Policy → State
state ike ipsec policies = record { ike = ike; ipsec = ipsec; policies = policies }

-- E9: "from empty tables"; neither operator has a rule.
abbrev pub empty : State
empty = state (replicate ike_places no_ike) (replicate ipsec_places no_ipsec) (replicate operators no_policy)

-- E9: "one's ... records (places aside)": by SPI what a look-up finds, and of every property how many records have it.
-- Every field of a record is in it; `SameRecords` in isolation/specs says that equal views are equal records.
pub record Own : Type 0 where
  pub ike : View IkeRecord
  pub ipsec : View IpsecRecord
  pub policy : Policy

-- E9: "Each IKE record ... names operator A (0) or B (1), one bit, an IPsec record through its owner, if any";
-- "Policies ... are per operator".
unfoldable pub own_in : ℕ → State → Own
own_in operator s =
    record {
      ike = view ike_spi (of_operator operator) s.ike;
      ipsec = view ipsec_spi (owns_ipsec operator s.ike) s.ipsec;
      policy = policy_of s.policies operator;
    }
