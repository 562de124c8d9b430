-- Trusted. What is claimed of a clone in tables that calls reach: its record alone is new, and it owns no IPsec record.
--   ClonedAlone             what a clone request that is done leaves
--   CloneOwnsNone           that claim
use Rattle.std.specs.Prelude.{ℕ, ◌<◌, ◌≡◌, List, length, get_or}
use Rattle.octets.specs.Lists.{place_of}
use Rattle.order.specs.Order.{All}
use Rattle.records.specs.Records.{ike_spi, no_ike, no_ipsec, clone_of}
use Rattle.records.specs.declared.ike.IkeRecord.{IkeRecord}
use Rattle.tables.specs.Tables.{Tables, meant}
use Rattle.cloning.specs.Clone.{CloneRequest, cloned}
use Rattle.reached.specs.Reached.{Call, clones, Typed, after_call, after_all, empty}

-- 02, E8: "The clone has a new SPI, the same pair, peer and agreements, no marks, an empty list, tally 0, no pending
-- check, and gets no IPsec records; nothing else changes." 01: "Opening takes the lowest free place".
module _ (t : Tables) (q : CloneRequest) where
  abbrev pub free : ℕ
  free = place_of ike_spi 0 t.ike

  abbrev pub clone : IkeRecord
  clone = clone_of q.new_spi (meant t.ike q.spi)

  abbrev pub left : Tables
  left = after_call t (clones q)

  pub record ClonedAlone : Type 0 where
    pub room : free < length t.ike
    pub stands : get_or left.ike free no_ike ≡ clone
    pub found : meant left.ike q.new_spi ≡ clone
    pub others : (i : ℕ) → (i ≡ free → ⊥) → get_or left.ike i no_ike ≡ get_or t.ike i no_ike
    pub owns_none : (j : ℕ) → (get_or left.ipsec j no_ipsec).owner ≡ q.new_spi → ⊥
    pub same : left.ipsec ≡ t.ipsec

-- In tables that calls reach from empty ones. In others an IPsec record may name the new SPI already, and nothing is
-- done to it.
abbrev pub CloneOwnsNone : Type 0
CloneOwnsNone =
    (cs : List Call) → All Typed cs → (q : CloneRequest)
    → let t = after_all empty cs in
    (cloned t.ike q).reply.number ≡ 0 → ClonedAlone t q
