-- Trusted. One request on the tables: 01's "One request, step by step", its checks 1 to 5, then the core on the record
-- that the SPI means; what `unmavreth_handle` gives back and leaves.
--   accepts                 whether its operator's policy accepts a request's pair
--   early_number             the number of the first of checks 1 to 5 that fails on these tables; 0 where all pass
--   Handled, handled        all that a request gives back, both tables after it included
--   handled_response         its response's octets
--   HandledAs               what the exported call promises
--   seen_in                  what was seen in its chain
--   after_request            both tables after it
use Rattle.std.specs.Prelude.{◌≡◌, ℕ, Bool, cond, List, [], length, ◌==◌, slice_set}
use Rattle.writing.specs.Notify.{placed}
use Rattle.octets.specs.Lists.{place_of}
use Rattle.policy.specs.Policy.{acceptable, policy_of}
use Rattle.policy.specs.declared.rules.Policy.{Policy}
use Rattle.records.specs.Records.{ike_spi, marks_in}
use Rattle.tables.specs.Calls.{has_ike}
use Rattle.tables.specs.Tables.{Tables, tables, meant}
use Rattle.records.specs.declared.ike.IkeRecord.{IkeRecord}
use Rattle.records.specs.declared.ipsec.IpsecRecord.{IpsecRecord}
use Rattle.findings.specs.declared.seen.Seen.{Seen}
use Rattle.reader.specs.Chain.{reading, count_told}
use Rattle.replying.specs.Reply.{refusal_reply}
use Rattle.answering.specs.Core.{core_result, core_response}
use Rattle.replying.specs.declared.reply.Reply.{Reply}
use Rattle.checking.specs.Checks.{Request, early_number_by}

-- 01: "the pair must be acceptable": the packet's, by the policy of the request's operator (02, E9)
abbrev pub accepts : List Policy → Request → Bool
accepts policies q = acceptable (policy_of policies q.operator) q.asks.pair

abbrev pub early_number : List IkeRecord → List IpsecRecord → Request → ℕ
early_number ike ipsec q = early_number_by (length ipsec) (has_ike q.spi ike) (meant ike q.spi).agreed q

-- All that a request gives back, the table after it included.
pub record Handled : Type 0 where
  pub reply : Reply
  pub ike : List IkeRecord

-- 01: "the IKE record ... take[s] the packet's pair, and no other record changes"; 02, E6: "but its IPsec records only
-- after a return routability check", so the IPsec list stays as it is.
unfoldable pub handled : List Policy → List IkeRecord → List IpsecRecord → Request → Handled
handled policies ike ipsec q =
    let c = core_result (accepts policies q) q.asks (meant ike q.spi) in
    cond (early_number ike ipsec q == 0)
    (record { reply = c.reply; ike = slice_set ike (place_of ike_spi q.spi ike) c.entry })
    (record { reply = refusal_reply (early_number ike ipsec q); ike = ike })

-- The response's octets; "None" for 1 to 5.
unfoldable pub handled_response : List Policy → List IkeRecord → List IpsecRecord → Request → List ℕ
handled_response policies ike ipsec q =
    cond (early_number ike ipsec q == 0)
    (core_response (accepts policies q) q.asks (marks_in (meant ike q.spi))) []

-- What is promised of a request on these tables and this output, from any of them: all that it gives back, the IKE table
-- and the output after it, and that the payload count is the chain's. The IPsec list is lent for reading alone.
module _ (policies : List Policy) (ike : List IkeRecord) (ipsec : List IpsecRecord) (q : Request) (out : List ℕ) where
  pub record HandledAs (r : Reply) (ike_after : List IkeRecord) (out-after : List ℕ) : Type 0 where
    pub reply : r ≡ (handled policies ike ipsec q).reply
    pub records : ike_after ≡ (handled policies ike ipsec q).ike
    pub output : out-after ≡ placed out 0 (handled_response policies ike ipsec q)
    pub counts : r.payloads ≡ count_told r.number q.asks.first q.asks.body

-- what was seen in a request's chain
abbrev pub seen_in : Request → Seen
seen_in q = (reading q.asks.first q.asks.body).seen

-- the tables after a request
unfoldable pub after_request : List Policy → Request → Tables → Tables
after_request policies q t =
    tables (handled policies t.ike t.ipsec q).ike t.ipsec
