-- Trusted. What is claimed of an opening: both records or neither, from any tables (`tables/proofs/Cases.antt`).
--
--   BothOpened      both records stand, each at the lowest free place
--   NeitherOpened   a refusal, and both tables as they were
--   BothOrNeither   one of the two, whatever is asked for
use Rattle.std.specs.Prelude.{◌<◌, ◌≤◌, ◌≡◌, ◌⊎◌, List, true, length, set}
use Rattle.octets.specs.Lists.{place_of}
use Rattle.address.specs.Address.{pair_fits}
use Rattle.records.specs.Records.{ike_spi, ipsec_spi}
use Rattle.tables.specs.Opening.{ike_of, child_of}
use Rattle.tables.specs.Calls.{tables_answer, open_both}
use Rattle.tables.specs.declared.calls.Opening.{Opening}
use Rattle.records.specs.declared.ike.IkeRecord.{IkeRecord}
use Rattle.records.specs.declared.ipsec.IpsecRecord.{IpsecRecord}

module _ (ike : List IkeRecord) (ipsec : List IpsecRecord) (o : Opening) where
  -- the pair fits, both SPIs are new, and each record stands at the lowest free place of its table
  pub record BothOpened : Type 0 where
    pub named : o.spi ≡ 0 → ⊥
    pub child_named : o.child ≡ 0 → ⊥
    pub fits : pair_fits o.pair ≡ true
    pub new : length ike ≤ place_of ike_spi o.spi ike
    pub child_new : length ipsec ≤ place_of ipsec_spi o.child ipsec
    pub room : place_of ike_spi 0 ike < length ike
    pub child_room : place_of ipsec_spi 0 ipsec < length ipsec
    pub is : open_both ike ipsec o
        ≡ tables_answer 0 (set ike (place_of ike_spi 0 ike) (ike_of o)) (set ipsec (place_of ipsec_spi 0 ipsec) (child_of o))

  -- a refusal, and both tables as they were
  pub record NeitherOpened : Type 0 where
    pub refused : (open_both ike ipsec o).number ≡ 0 → ⊥
    pub same : (open_both ike ipsec o).ike ≡ ike
    pub child_same : (open_both ike ipsec o).ipsec ≡ ipsec

-- E1: "one call opens both or neither", whatever its number.
abbrev pub BothOrNeither : Type 0
BothOrNeither =
    (ike : List IkeRecord) (ipsec : List IpsecRecord) (o : Opening)
    → BothOpened ike ipsec o ⊎ NeitherOpened ike ipsec o
