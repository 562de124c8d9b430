-- Trusted. What is claimed of a whole trace: "a written trace to read back the same" (02, E3), and the other way, up to
-- a refusal; "the first as read ... with its entry's offset". Shown in proofs/RoundTrips.antt.
use Rattle.std.specs.Prelude.{ℕ, ◌+◌, ◌≤◌, ◌≡◌, true, List, ◌++◌, length, drop}
use Rattle.octets.specs.Lists.{all}
use Rattle.leb128.specs.RoundTrips.{Octets}
use Rattle.entries.specs.Entries.{Entry, entry_fits}
use Rattle.traces.specs.Traces.{Ending, finished, stopped, unread, trace, led, trace_from, trace_of, trace_octets}

-- where a reading of a trace ended: at the octets' end, or at the entry that was refused
abbrev pub Ends : List ℕ → ℕ → Ending → Type 0
Ends s at finished = length s ≤ at
Ends s at (stopped why offset) = offset ≡ at
Ends s at unread = Unit {0}

pub record Reread (s : List ℕ) (at : ℕ) (es : List Entry) (ending : Ending) : Type 0 where
  pub fitting : all entry_fits es ≡ true
  pub written : drop at s ≡ trace_octets es ++ drop (at + length (trace_octets es)) s
  pub ends : Ends s (at + length (trace_octets es)) ending

pub record RoundTrips : Type 0 where
  -- entries, and whatever stands behind them
  pub reads_entries : (es : List Entry) (s : List ℕ) (at : ℕ) (rest : List ℕ) → Octets s → all entry_fits es ≡ true
      → drop at s ≡ trace_octets es ++ rest
      → trace_from s at ≡ led es (trace_from s (at + length (trace_octets es)))
  -- a whole trace
  pub reads_back : (es : List Entry) → all entry_fits es ≡ true → trace_of (trace_octets es) ≡ trace es finished
  -- what was read is written as the same octets, up to where it ended
  pub writes_back : (s : List ℕ) (at : ℕ) (es : List Entry) (ending : Ending) → Octets s
      → trace_from s at ≡ trace es ending → Reread s at es ending
