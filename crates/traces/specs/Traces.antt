-- Trusted. A trace: entry behind entry, read to its end or to a refusal (02, E3).
--   trace_from s at    reading from `at` on: the entries, and how it ends
--   trace_of s         reading the whole trace
--   trace_octets es    how entries are written
--   Whole             the count in `trace_from` is no bound: an entry has an octet at least. Shown in proofs/Whole.antt.
use Rattle.std.specs.Prelude.{ℕ, zero, suc, ◌≡◌, cond, List, [], ◌∷◌, ◌++◌, leb, length}
use Rattle.leb128.specs.RoundTrips.{Octets}
use Rattle.fields.specs.Fields.{each_of}
use Rattle.fields.specs.Reading.{Reading, read, refused}
use Rattle.fields.specs.declared.refusal.Refusal.{Refusal}
use Rattle.entries.specs.Entries.{Entry, entry_octets, entry_at}

pub data Ending : Type 0 where
  -- at the end of the octets
  finished : Ending
  -- the refusal, and the offset of its entry
  stopped : Refusal → ℕ → Ending
  -- not read to the end: more entries than were counted
  unread : Ending

pub record Trace : Type 0 where
  pub entries : List Entry
  pub ending : Ending

abbrev pub trace : List Entry → Ending → Trace
trace entries ending = record { entries = entries; ending = ending }

abbrev pub led : List Entry → Trace → Trace
led es t = trace (es ++ t.entries) t.ending

-- "the first as read ... with its entry's offset": what an entry at `at` comes to, the rest being read by f
abbrev pub further : ℕ → (ℕ → Trace) → Reading Entry → Trace
further at f (refused why slots) = trace [] (stopped why at)
further at f (read e slots next) = led (e ∷ []) (f next)

-- the end of the octets at an entry's start is the trace's end
abbrev pub onward : List ℕ → ℕ → (ℕ → Trace) → Trace
onward s at f = cond (leb (length s) at) (trace [] finished) (further at f (entry_at s at))

-- with at most so many entries
unfoldable pub read_trace : ℕ → List ℕ → ℕ → Trace
read_trace zero s at = trace [] unread
read_trace (suc n) s at = onward s at (read_trace n s)

unfoldable pub trace_from : List ℕ → ℕ → Trace
trace_from s at = read_trace (suc (length s)) s at

abbrev pub trace_of : List ℕ → Trace
trace_of s = trace_from s 0

abbrev pub trace_octets : List Entry → List ℕ
trace_octets es = each_of entry_octets es

pub record Whole : Type 0 where
  -- an entry, and then the rest of the trace: nothing of a count
  pub step : (s : List ℕ) (at : ℕ) → Octets s → trace_from s at ≡ onward s at (trace_from s)
  pub read_to_its_end : (s : List ℕ) (at : ℕ) → Octets s → (trace_from s at).ending ≡ unread → ⊥
