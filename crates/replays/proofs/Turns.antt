-- The program's turns print what the replay of the whole trace prints: by the turns that are left. Assumes nothing.
use Prim.Native.Nat.{ℕ, suc, ◌+◌, ◌-◌, ◌%◌, ◌^◌, ◌≤◌, ◌<◌}
use mathlib.Core.Path.{◌≡◌, refl, sym, ◌∙◌, ap}
use mathlib.Core.Bool.{Bool, true, false}
use mathlib.Core.List.{List, [], ◌∷◌, ◌++◌, append_assoc, append-nil}
use native.Mathlib.Omega.{arith}
use native.Mathlib.Nat.{mod-eq_of_lt}
use borrow.Author.Tests.{le-leb, lt-leb}
use lib.ListN.{length, drop, length-append, length-drop}
use lib.Seq.{drop-append-le, drop-drop}
use Rattle.leb128.specs.RoundTrips.{Octets}
use Rattle.leb128.proofs.Stable.{first_octets}
use Rattle.fields.specs.Reading.{Reading, read, refused, slots_of}
use Rattle.fields.specs.declared.refusal.Refusal.{Refusal}
use Rattle.entries.specs.Entries.{Entry, entry_at, entry_step}
use Rattle.entries.specs.declared.kind.Kind.{Kind}
use Rattle.traces.specs.Traces.{finished, stopped, Trace, trace, led, trace_from}
use Rattle.traces.proofs.Whole.{whole}
use Rattle.windows.specs.Windows.{next_in, Tells}
use Rattle.std.specs.Prelude.{Result, Ok, Err}
use Rattle.entry_laws.proofs.RoundTrips.{ok_parts}
use Rattle.windows.specs.declared.Next.{Next}
use Rattle.windows.specs.declared.Next.TheVariants as next
use Rattle.windows.proofs.Windows.{windows}
use Rattle.given.specs.declared.reading.Asked.TheVariants as asked
use Rattle.given.specs.declared.reading.Slots.{Slots}
use Rattle.acts.specs.Performed.{Gateway, Performed}
use Rattle.replaying.specs.Turns.{state, turning, looked_by, no_slots, slots_for, line_of, after}
use Rattle.replaying.specs.declared.state.State.{State}
use Rattle.replaying.specs.declared.state.Turn.{Turn}
use Rattle.replaying.specs.declared.state.Turn.TheVariants.{More, Call}
use Rattle.writing.specs.Notify.{placed}
use Rattle.replays.specs.Calls.{called}
use Rattle.replays.specs.Replay.{lines, left, tail}
use Rattle.replays.specs.Runs.{Read, Window, window, Ran, ran, behind_line, run, looked_at}
use Rattle.replays.specs.Same.{Performing, all_read, EachBrings}
use Rattle.replays.proofs.Shift.{AsFar, Like, entry_like}
use Rattle.replays.proofs.Sizes.{Sized, called_sized}
use Rattle.replays.proofs.Turned.{acted, goes, stops}
use Rattle.replays.proofs.Shows.{ike_shown}

-- what is printed and left from an offset of the trace on
abbrev pub replayed_from : Trace → ℕ → Gateway → Ran
replayed_from t ordinal g =
    let end = left t.entries g in
    ran (lines ordinal t.entries g ++ tail t.ending end) end

-- where the window stands in the trace t, which the reads rs go on with
pub record Stands (t : List ℕ) (rs : List Read) (held : List ℕ) (at : ℕ) (ended : Bool) (offset ordinal : ℕ)
    : Type 0 where
  pub octets : Octets (held ++ all_read rs)
  pub inside : at ≤ length held
  pub same : drop at held ++ all_read rs ≡ drop offset t
  pub within : offset ≤ length t
  pub counted : ordinal ≤ offset
  pub last : ended ≡ true → rs ≡ []
  pub brings : EachBrings rs

-- the turns that suffice behind a look: the records' places, and one for a read
abbrev pub shows : Bool → ℕ
shows true = 160
shows false = 161

shows_least : (b : Bool) → 160 ≤ shows b
shows_least true = omega arith
shows_least false = omega arith

-- what is shown of n turns, by the turns that suffice
module _ (t : List ℕ) where
  abbrev pub Runs : ℕ → Turn → Bool → ℕ → Type 0
  Runs n turn ended most =
      (rs : List Read) (held behind : List ℕ) (len at next offset ordinal : ℕ) (e : Slots) (g : Gateway)
      → Stands t rs held at ended offset ordinal → Sized g
      → length t - offset + length rs + most < n
      → run n rs (window held behind (state len at next ended offset ordinal turn e true)) g
      ≡ replayed_from (trace_from t offset) ordinal g

-- one step of reading the trace
module _ (t : List ℕ) (o : Octets t) (offset : ℕ) where
  ends : length t ≤ offset → trace_from t offset ≡ trace [] finished
  ends h = whole.step t offset o ∙ rw (le-leb (length t) offset h)

  stopped_at : (why : Refusal) (slots : List ℕ) → offset < length t → entry_at t offset ≡ refused why slots
      → trace_from t offset ≡ trace [] (stopped why offset)
  stopped_at why slots h e = whole.step t offset o ∙ rw (lt-leb (length t) offset h, e)

  goes_on : (e : Entry) (slots : List ℕ) (next : ℕ) → offset < length t → entry_at t offset ≡ read e slots next
      → trace_from t offset ≡ led (e ∷ []) (trace_from t next)
  goes_on e slots next h q = whole.step t offset o ∙ rw (lt-leb (length t) offset h, q)

module _ (performing : Performing) (t : List ℕ) (o : Octets t) (small : length t < 2 ^ 64) (n : ℕ) (rs : List Read)
    (held behind : List ℕ) (len at nx : ℕ) (ended : Bool) (offset ordinal : ℕ) (turn : Turn) (entry : Slots)
    (g : Gateway) (st : Stands t rs held at ended offset ordinal) (sized : Sized g)
    (turns : length t - offset + length rs + shows ended ≤ n)
  where
    abbrev s : State
    s = state len at nx ended offset ordinal turn entry true

    abbrev slots : List ℕ
    slots = placed no_slots 0 (slots_of (entry_at held at))

    tells : Tells held (all_read rs) at ended
    tells = windows held (all_read rs) at ended st.octets st.inside (λ q. ap all_read (st.last q))

    here : drop at (held ++ all_read rs) ≡ drop offset t
    here = drop-append-le at held (all_read rs) st.inside ∙ st.same

    ahead : length t - offset ≡ length held - at + length (all_read rs)
    ahead =
        sym (length-drop offset t) ∙ ap length (sym st.same) ∙ length-append (drop at held) (all_read rs)
        ∙ ap (λ (k : ℕ). k + length (all_read rs)) (length-drop at held)

    like : Like at offset (entry_at (held ++ all_read rs) at) (entry_at t offset)
    like = entry_like (held ++ all_read rs) t at offset here

    abbrev Comes : Result Next Refusal → Type 0
    Comes x = acted n rs (window held behind (looked_by s slots x)) g ≡ replayed_from (trace_from t offset) ordinal g

    at_end : next_in held at ended ≡ Ok next.End → Comes (Ok next.End)
    at_end e =
        let none = tells.end e in
        let past : length t ≤ offset = omega (arith, length-append held (all_read rs), ahead, st.within) in
        let all : 32 + 128 ≤ suc n = omega (arith, shows_least ended) in
        rw (ends t o offset past)
        (sym (goes n rs (window held behind (looked_by s slots (Ok next.End))) g refl)
        ∙ ike_shown rs held behind len at nx ended offset ordinal g sized 31 (suc n) no_slots 0 refl (omega arith) refl
        all)

    at_refusal : (why : Refusal) → next_in held at ended ≡ Err why → Comes (Err why)
    at_refusal why e = go (entry_at (held ++ all_read rs) at) (entry_at t offset) refl (tells.refused why e).0 like
      where
        go : (x y : Reading Entry) → entry_at t offset ≡ y → entry_step x ≡ Err why → Like at offset x y
            → Comes (Err why)
        go (refused reason sl) (refused other sm) q p l =
            let why-so : reason ≡ why = cc in
            let same : other ≡ why = sym l ∙ why-so in
            let inside : offset < length t = omega (arith, (tells.refused why e).1, ahead, st.within) in
            let quiet = stops n rs (window held behind (after (looked_by s slots (Err why)))) g refl in
            rw (stopped_at t o offset why sm inside (rw (← same) q), quiet, append-nil)
        go (refused reason sl) (read e sm m) q p l = absurd l
        go (read e sl m) y q p l = let z : ◌≡◌ {A = ℕ} 0 1 = cc in absurd (omega arith)

    at_more : (ended ≡ false → Runs t n More ended 160) → next_in held at ended ≡ Ok next.More → Comes (Ok next.More)
    at_more ih e =
        let open-ended : ended ≡ false = (tells.more e).0 in
        let spare : shows ended ≡ 161 = ap shows open-ended in
        ih open-ended rs held behind len at nx offset ordinal (slots_for asked.ShowIke no_slots) g st sized
        (omega arith)

    -- the window behind an entry stands in the trace behind it
    stands_behind : (m past : ℕ) → at < m → m ≤ length held → AsFar at offset m past
        → Stands t rs held m ended past (suc ordinal)
    stands_behind m past l h far =
        let k = far.by in
        let p : m ≡ at + k = far.here in
        let q : past ≡ offset + k = far.there in
        let on : drop m (held ++ all_read rs) ≡ drop past t =
        rw (p, q) (sym (drop-drop k at (held ++ all_read rs)) ∙ ap (drop k) here ∙ drop-drop k offset t) in
        record {
          octets = st.octets;
          inside = h;
          same = sym (drop-append-le m held (all_read rs) h) ∙ on;
          within = omega (arith, ahead, st.within);
          counted = omega (arith, st.counted);
          last = st.last;
          brings = st.brings;
        }

    entry_made : Runs t n Call ended (shows ended) → (x y : Entry) (sl sm : List ℕ) (m past : ℕ) → at < m
        → m ≤ length held → entry_at held at ≡ read x sl m → entry_at t offset ≡ read y sm past
        → x ≡ y → AsFar at offset m past
        → acted n rs (window held behind (turning s Call m (slots_for (asked.Entry x.kind) (placed no_slots 0 sl)))) g
        ≡ replayed_from (trace_from t offset) ordinal g
    entry_made ih x y sl sm m past l h p q same far =
        let e : Slots = slots_for (asked.Entry x.kind) (placed no_slots 0 sl) in
        let w : Window = window held behind (after (turning s Call m e)) in
        let made = performing held behind at x sl m g (first_octets held (all_read rs) st.octets) p in
        let far-by = far.here in
        let far-to = far.there in
        let inside : offset < length t = omega (arith, ahead, st.within) in
        let now : Stands t rs held m ended past (suc ordinal) = stands_behind m past l h far in
        let off : (offset + (m - at)) % 2 ^ 64 ≡ past = mod-eq_of_lt (omega arith) ∙ omega arith in
        let ord : (ordinal + 1) % 2 ^ 64 ≡ suc ordinal = mod-eq_of_lt (omega (arith, st.counted)) ∙ omega arith in
        let rest =
        ih rs held behind len m m past (suc ordinal) e (called x g).after now
        (called_sized x.kind x.values g sized) (omega arith) in
        ap (λ (z : Performed). behind_line (line_of ordinal z.outcome) (run n rs w z.after)) made
        ∙ rw (off, ord, rest, goes_on t o offset y sm past inside q, same, append_assoc)

    at_entry : Runs t n Call ended (shows ended) → (k : Kind) (m : ℕ) → next_in held at ended ≡ Ok (next.Entry k m)
        → Comes (Ok (next.Entry k m))
    at_entry ih k m e =
        let told = tells.entry k m e in
        go (entry_at held at) refl (ap entry_step (sym told.1) ∙ told.0) (entry_at t offset) refl
        (rw (← told.1) like) told.2 told.3
      where
        go : (x : Reading Entry) → entry_at held at ≡ x → entry_step x ≡ Ok (k, m) → (y : Reading Entry)
            → entry_at t offset ≡ y
            → Like at offset x y → at < m → m ≤ length held → Comes (Ok (next.Entry k m))
        go (refused why sl) p q y r l lo hi = let z : ◌≡◌ {A = ℕ} 0 1 = cc in absurd (omega arith)
        go (read x sl next) p q (refused why sm) r l lo hi = absurd l
        go (read x sl next) p q (read y sm past) r l lo hi =
            let kind-so = (ok_parts _ _ _ _ q).0 in
            let next-so = (ok_parts _ _ _ _ q).1 in
            rw (← kind-so, ← next-so, p)
            (entry_made ih x y sl sm next past (rw next-so lo) (rw next-so hi) p r l.0 l.1)

    -- whatever stands next in the window
    pub looking : Runs t n Call ended (shows ended) → (ended ≡ false → Runs t n More ended 160)
        → acted n rs (looked_at (window held behind s)) g ≡ replayed_from (trace_from t offset) ordinal g
    looking calls mores = go (next_in held at ended) refl
      where
        go : (x : Result Next Refusal) → next_in held at ended ≡ x
            → acted n rs (window held behind (looked_by s slots (next_in held at ended))) g
            ≡ replayed_from (trace_from t offset) ordinal g
        go (Ok (next.Entry k m)) e = rw e (at_entry calls k m e)
        go (Err why) e = rw e (at_refusal why e)
        go (Ok next.More) e = rw e (at_more mores e)
        go (Ok next.End) e = rw e (at_end e)
