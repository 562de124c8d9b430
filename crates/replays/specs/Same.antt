-- Trusted. What is claimed of a replay (02, E3): "The end tables are proved to be those of the calls made one by one";
-- and cutting the trace into reads and windows changes nothing. Shown in proofs/Same.antt.
--   Performing    by what was read of it, an entry's act is the call of its values
--   Brings rs t   the reads bring the trace, each an octet at least
--   turns_most     so many turns suffice
--   Replays       the program's turns print what the replay of the whole trace prints, and leave its tables, however
--                 the trace is read
use Rattle.std.specs.Prelude.{ℕ, ◌+◌, ◌^◌, ◌≤◌, ◌<◌, ◌≡◌, List, [], ◌∷◌, ◌++◌, length}
use Rattle.octets.specs.Limits.{ike_places, ipsec_places, response_room}
use Rattle.writing.specs.Notify.{placed}
use Rattle.leb128.specs.RoundTrips.{Octets}
use Rattle.fields.specs.Reading.{read}
use Rattle.entries.specs.Entries.{Entry, entry_at}
use Rattle.given.specs.declared.reading.Asked.TheVariants as asked
use Rattle.acts.specs.Performed.{Gateway, performed}
use Rattle.replaying.specs.Turns.{start, no_slots}
use Rattle.replays.specs.Calls.{called, empty}
use Rattle.replays.specs.Replay.{replayed, end_of}
use Rattle.replays.specs.Runs.{Read, ran, run, window}

abbrev pub Performing : Type 0
Performing =
    (w behind : List ℕ) (at : ℕ) (e : Entry) (slots : List ℕ) (next : ℕ) (g : Gateway) → Octets w
    → entry_at w at ≡ read e slots next
    → performed (asked.Entry e.kind) (w ++ behind) (placed no_slots 0 slots) response_room g ≡ called e g

abbrev pub all_read : List Read → List ℕ
all_read [] = []
all_read (r ∷ rs) = r.octets ++ all_read rs

abbrev pub EachBrings : List Read → Type 0
EachBrings [] = Unit {0}
EachBrings (r ∷ rs) = (0 < length r.octets) × EachBrings rs

-- a turn for each entry and each read, for the end of the trace, and for each record
abbrev pub turns_most : List Read → ℕ
turns_most rs = length (all_read rs) + (length rs + (ike_places + ipsec_places + 2))

abbrev pub Replays : Type 0
Replays =
    (rs : List Read) (n : ℕ) → Octets (all_read rs) → length (all_read rs) < 2 ^ 64 → EachBrings rs → turns_most rs ≤ n
    → run n rs (window [] [] start) empty ≡ ran (replayed (all_read rs)) (end_of (all_read rs))
