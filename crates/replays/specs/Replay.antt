-- Trusted. All that a replay of a trace prints (02, E3): "prints, per entry, its ordinal, the answer number, the update
-- and list outcomes, and at the end each record's pair"; a refusal "is the last line, in the pairs' place, with its
-- entry's offset".
--   lines k es g     the lines of entries, the first of which has the ordinal k
--   left es g        the gateway after them
--   pairs g          the pair of each record in use: IKE records by place, then IPsec records by place
--   replayed t       of a whole trace, on empty tables and empty policies; end_of t: the gateway after it
use Rattle.std.specs.Prelude.{ℕ, suc, true, false, List, [], ◌∷◌, ◌++◌}
use Rattle.records.specs.declared.ike.IkeRecord.{IkeRecord}
use Rattle.records.specs.declared.ipsec.IpsecRecord.{IpsecRecord}
use Rattle.fields.specs.Fields.{each_of}
use Rattle.fields.specs.Refusals.{refusal_number}
use Rattle.entries.specs.Entries.{Entry}
use Rattle.traces.specs.Traces.{Ending, finished, stopped, unread, Trace, trace_of}
use Rattle.acts.specs.Performed.{Gateway}
use Rattle.printing.specs.Lines.{refusal_line}
use Rattle.replaying.specs.Turns.{line_of, pair_at}
use Rattle.replays.specs.Calls.{called, empty}

abbrev pub lines : ℕ → List Entry → Gateway → List ℕ
lines k [] g = []
lines k (e ∷ es) g = line_of k (called e g).outcome ++ lines (suc k) es (called e g).after

abbrev pub left : List Entry → Gateway → Gateway
left [] g = g
left (e ∷ es) g = left es (called e g).after

abbrev pub pairs : Gateway → List ℕ
pairs g =
    each_of (λ (r : IkeRecord). pair_at false r.spi r.pair) g.ike
    ++ each_of (λ (r : IpsecRecord). pair_at true r.spi r.pair) g.ipsec

abbrev pub tail : Ending → Gateway → List ℕ
tail finished g = pairs g
tail (stopped why offset) g = refusal_line (refusal_number why) offset
-- no trace's: `Whole` of traces
tail unread g = []

abbrev pub replayed_by : Trace → List ℕ
replayed_by t = lines 0 t.entries empty ++ tail t.ending (left t.entries empty)

unfoldable pub replayed : List ℕ → List ℕ
replayed t = replayed_by (trace_of t)

abbrev pub end_of : List ℕ → Gateway
end_of t = left (trace_of t).entries empty
