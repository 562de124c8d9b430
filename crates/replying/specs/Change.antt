-- Trusted. The record after an answer: 01's "One request, step by step", what steps 1 to 3 leave.
--
--   changed_by   the record after an answer to a request with this pair, this check of ours to keep, and this body
use Rattle.std.specs.Prelude.{ℕ, min, cond, List}
use Rattle.octets.specs.Limits.{addresses_most}
use Rattle.address.specs.declared.pair.Pair.{Pair}
use Rattle.values.specs.Values.{addresses_in}
use Rattle.records.specs.Records.{remarked, relisted}
use Rattle.records.specs.declared.check.PendingCheck.{PendingCheck}
use Rattle.records.specs.declared.ike.IkeRecord.{IkeRecord}
use Rattle.replying.specs.Reply.{moved, list_replaced}
use Rattle.replying.specs.declared.reply.CoreAnswer.{CoreAnswer}

-- 01: "the IKE record ... take[s] the packet's pair"; "replaces list and list mark"; "The first 16 are kept". 02, E6:
-- the check is "kept when its update is applied, in place of an older one".
unfoldable pub changed_by : CoreAnswer → Pair → PendingCheck → List ℕ → IkeRecord → IkeRecord
changed_by a p check body r =
    let new = remarked a.marks (moved a) p check r in
    cond (list_replaced a) (relisted (min a.list.count addresses_most) (addresses_in body a.list) new) new
