-- Trusted. What any call can make of what was agreed for an IKE record in use, of its peer, its operator, and its
-- deletion mark: none of it changes while the record stays in use, but for the mark, which one call sets.
--   MarkAfter               what a call makes of the deletion mark
--   Kept                    what a call keeps of an IKE record
--   DeletionKept            every call, from any tables, at every place
use Rattle.std.specs.Prelude.{ℕ, ◌≡◌, get_or}
use Rattle.records.specs.Records.{no_ike}
use Rattle.records.specs.declared.ike.IkeRecord.{IkeRecord}
use Rattle.tables.specs.Tables.{Tables}
use Rattle.reached.specs.Reached.{Call, marks_deletion, after_call}

-- 02, E8: "a mark for being deleted, set by a call". No other call sets it, and none clears it: no request and no
-- response to a check, and no clone. E9: "A call for one operator finds only its own records", so the call that sets it
-- names the record's own operator.
pub data MarkAfter (old new : IkeRecord) : Call → Type 0 where
  kept : {c : Call} → new.deleting ≡ old.deleting → MarkAfter old new c
  marked : new.deleting ≡ 1 → MarkAfter old new (marks_deletion old.spi old.agreed.operator)

-- E8: "The IKE record gains, at opening, a 32-bit peer number and whether cloning is agreed": these stay as they were
-- opened or cloned, and so does the operator that it names (E9).
pub record Kept (old new : IkeRecord) (c : Call) : Type 0 where
  pub spi : new.spi ≡ old.spi
  pub agreed : new.agreed ≡ old.agreed
  pub deleting : MarkAfter old new c

-- of a place that is in use before the call and after it
abbrev pub DeletionKept : Type 0
DeletionKept =
    (t : Tables) (c : Call) (i : ℕ)
    → let old = get_or t.ike i no_ike in
    let new = get_or (after_call t c).ike i no_ike in
    (old.spi ≡ 0 → ⊥) → (new.spi ≡ 0 → ⊥) → Kept old new c
