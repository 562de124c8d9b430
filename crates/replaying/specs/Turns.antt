-- Trusted. A turn of the program `replay`: what it looks at, prints and leaves.
--   start                    nothing is read
--   refilled, looked         what a read leaves, and what the window then says
--   line_of, pair_at           the line of a call, and of a record's place
--   printed, after           what a turn prints, and where it leaves the replay
use Rattle.std.specs.Prelude.{ℕ, ◌+◌, ◌-◌, ◌%◌, ◌^◌, Bool, true, false, cond, List, [], eqb, ltb, get_or, set, replicate, Result, Ok, Err}
use Rattle.octets.specs.Limits.{ike_places, ipsec_places}
use Rattle.writing.specs.Notify.{placed}
use Rattle.address.specs.declared.pair.Pair.{Pair}
use Rattle.fields.specs.Reading.{slots_of}
use Rattle.fields.specs.Refusals.{refusal_number}
use Rattle.entries.specs.declared.kind.Kind.TheVariants.{OpenBoth}
use Rattle.entries.specs.Entries.{entry_at}
use Rattle.entries.specs.Slots.{entry_slots}
use Rattle.windows.specs.Windows.{next_in}
use Rattle.fields.specs.declared.refusal.Refusal.{Refusal}
use Rattle.windows.specs.declared.Next.{Next}
use Rattle.windows.specs.declared.Next.TheVariants as next
use Rattle.given.specs.declared.outcome.Outcome.{Outcome}
use Rattle.given.specs.declared.reading.Asked.{Asked}
use Rattle.given.specs.declared.reading.Asked.TheVariants.{Entry, ShowIke, ShowIpsec}
use Rattle.given.specs.declared.reading.Slots.{Slots}
use Rattle.printing.specs.Lines.{entry_line, refusal_line, pair_line}
use Rattle.replaying.specs.declared.state.State.{State}
use Rattle.replaying.specs.declared.state.Turn.{Turn}
use Rattle.replaying.specs.declared.state.Turn.TheVariants.{More, Call, Refuse, Show}

-- whether what is asked for is the record at a place of this table
abbrev pub shows_ike : Asked → Bool
shows_ike (Entry k) = false
shows_ike ShowIke = true
shows_ike ShowIpsec = false

abbrev pub shows_ipsec : Asked → Bool
shows_ipsec (Entry k) = false
shows_ipsec ShowIke = false
shows_ipsec ShowIpsec = true

abbrev pub no_slots : List ℕ
no_slots = replicate entry_slots 0

abbrev pub slots_for : Asked → List ℕ → Slots
slots_for asked slots = record { asked = asked; slots = slots }

-- where the window stands; of which entry; and what the turn is for
abbrev pub state : ℕ → ℕ → ℕ → Bool → ℕ → ℕ → Turn → Slots → Bool → State
state len at next ended offset ordinal turn entry going =
    record {
      len = len;
      at = at;
      next = next;
      ended = ended;
      offset = offset;
      ordinal = ordinal;
      turn = turn;
      entry = entry;
      going = going;
    }

abbrev pub start : State
start = state 0 0 0 false 0 0 More (slots_for (Entry OpenBoth) no_slots) true

-- ---- what is looked at

-- of a read that left `kept` octets at the front and `len` in all: no octet more is the end
abbrev pub refilled : State → ℕ → ℕ → State
refilled s kept len =
    state len 0 s.next (eqb len kept) s.offset s.ordinal s.turn s.entry s.going

-- a turn for t, with this entry and the offset after it
abbrev pub turning : State → Turn → ℕ → Slots → State
turning s t next e = state s.len s.at next s.ended s.offset s.ordinal t e s.going

-- where no call is to be made the record at place 0 is looked at, which changes nothing
abbrev pub looked_by : State → List ℕ → Result Next Refusal → State
looked_by s slots (Ok (next.Entry k n)) = turning s Call n (slots_for (Entry k) slots)
looked_by s slots (Err why) = turning s (Refuse (refusal_number why)) s.next (slots_for ShowIke no_slots)
looked_by s slots (Ok next.More) = turning s More s.next (slots_for ShowIke no_slots)
looked_by s slots (Ok next.End) = turning s Show s.next (slots_for ShowIke no_slots)

abbrev pub looked : List ℕ → State → State
looked w s = looked_by s (placed no_slots 0 (slots_of (entry_at w s.at))) (next_in w s.at s.ended)

-- ---- what is printed and left

-- of a call
abbrev pub line_of : ℕ → Outcome → List ℕ
line_of ordinal o = entry_line ordinal o.number o.update o.list

-- of a place of a table; nothing of a free one
abbrev pub pair_at : Bool → ℕ → Pair → List ℕ
pair_at ipsec spi pair = cond (eqb spi 0) [] (pair_line ipsec spi pair)

abbrev pub printed_by : Turn → State → Outcome → List ℕ
printed_by More s o = []
printed_by Call s o = line_of s.ordinal o
printed_by (Refuse number) s o = refusal_line number s.offset
printed_by Show s o = pair_at (shows_ipsec s.entry.asked) o.spi o.pair

abbrev pub printed : State → Outcome → List ℕ
printed s o = printed_by s.turn s o

-- behind the last IKE record come the IPsec records
abbrev pub place_after : Slots → Slots
place_after e =
    let place = (get_or e.slots 0 0 + 1) % 2 ^ 64 in
    cond (shows_ike e.asked)
    (cond (eqb place ike_places) (slots_for ShowIpsec (set e.slots 0 0)) (slots_for ShowIke (set e.slots 0 place)))
    (slots_for e.asked (set e.slots 0 place))

-- a record is left to be shown
abbrev pub to_show : Slots → Bool → Bool
to_show e going = cond (shows_ipsec e.asked) (ltb (get_or e.slots 0 0) ipsec_places) going

abbrev pub after_call : State → State
after_call s =
    let offset = (s.offset + (s.next - s.at)) % 2 ^ 64 in
    let ordinal = (s.ordinal + 1) % 2 ^ 64 in
    state s.len s.next s.next s.ended offset ordinal s.turn s.entry s.going

abbrev pub after_show : State → State
after_show s =
    let e = place_after s.entry in
    state s.len s.at s.next s.ended s.offset s.ordinal s.turn e (to_show e s.going)

abbrev pub after_by : Turn → State → State
after_by More s = s
after_by Call s = after_call s
after_by (Refuse number) s =
    state s.len s.at s.next s.ended s.offset s.ordinal s.turn s.entry false
after_by Show s = after_show s

abbrev pub after : State → State
after s = after_by s.turn s
