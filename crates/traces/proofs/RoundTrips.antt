-- The round trips of a trace. Assumes nothing.
use Prim.Native.Nat.{ℕ, zero, suc, ◌+◌, ◌-◌, ◌≤◌}
use mathlib.Core.Path.{◌≡◌, refl, sym, ◌∙◌, ap}
use mathlib.Core.Bool.{Bool, true, false, cond}
use mathlib.Core.List.{List, [], ◌∷◌, ◌++◌, append_assoc, append-nil}
use native.Mathlib.Omega.{arith}
use native.Mathlib.Nat.{add_assoc, add-zero, zero-add, suc-add}
use borrow.Author.Tests.{leb-true, lt-leb, le-leb}
use lib.Dec.{leb}
use lib.ListN.{length, drop, length-append, length-drop}
use Rattle.octets.specs.Lists.{all}
use Rattle.octets.proofs.Small.{both, and_true}
use Rattle.leb128.specs.RoundTrips.{Octets}
use Rattle.fields.specs.Reading.{Reading, read, refused}
use Rattle.field_laws.proofs.Parts.{moved}
use Rattle.field_laws.proofs.Told.{both_written}
use Rattle.entries.specs.Entries.{Entry, entry_fits, entry_octets, entry_at}
use Rattle.entry_laws.specs.RoundTrips.{EntryTold}
use Rattle.entry_laws.proofs.RoundTrips.{entries, some_octets}
use Rattle.traces.specs.Traces.{Ending, finished, stopped, unread, Trace, trace, led, further, read_trace}
use Rattle.traces.specs.Traces.{trace_from, trace_of, trace_octets}
use Rattle.traces.specs.RoundTrips.{Ends, Reread, RoundTrips}
use Rattle.traces.proofs.Whole.{counted}

-- ---- written, and read
reads_counted : (es : List Entry) (n : ℕ) (s : List ℕ) (at : ℕ) (rest : List ℕ) → all entry_fits es ≡ true
    → drop at s ≡ trace_octets es ++ rest
    → read_trace (length es + n) s at ≡ led es (read_trace n s (at + length (trace_octets es)))
unfolding read_trace
reads_counted [] n s at rest h d = rw (zero-add n, add-zero at)
reads_counted (e ∷ es) n s at rest h d =
    let b = both (entry_fits e) (all entry_fits es) h in
    let x = entry_octets e in
    let y = trace_octets es in
    let c : drop at s ≡ x ++ (y ++ rest) = d ∙ append_assoc x y rest in
    let r = entries.reads_written e s at (y ++ rest) b.0 c in
    let ih = reads_counted es n s (at + length x) rest b.1 (moved s at x (y ++ rest) c) in
    let l : length s - at ≡ length x + length (y ++ rest) =
    sym (length-drop at s) ∙ ap length c ∙ length-append x (y ++ rest) in
    let few = some_octets e in
    let inside = lt-leb (length s) at (omega arith) in
    rw (suc-add (length es) n, inside, r.reads, ih, length-append x y, add_assoc)

reads_entries : (es : List Entry) (s : List ℕ) (at : ℕ) (rest : List ℕ) → Octets s → all entry_fits es ≡ true
    → drop at s ≡ trace_octets es ++ rest → trace_from s at ≡ led es (trace_from s (at + length (trace_octets es)))
reads_entries es s at rest o h d =
    let n = suc (length s) in
    let end = at + length (trace_octets es) in
    sym (counted s (length es + n) at o (omega arith)) ∙ reads_counted es n s at rest h d
    ∙ ap (led es) (counted s n end o (omega arith))

as_many : (es : List Entry) → length es ≤ length (trace_octets es)
as_many [] = omega arith
as_many (e ∷ es) =
    rw (length-append (entry_octets e) (trace_octets es)) (omega (arith, some_octets e, as_many es))

reads_back : (es : List Entry) → all entry_fits es ≡ true → trace_of (trace_octets es) ≡ trace es finished
unfolding trace_from
reads_back es h =
    let s = trace_octets es in
    let n = length s - length es in
    let few = as_many es in
    let r = reads_counted es (suc n) s 0 [] h (sym (append-nil s)) in
    let count : length es + suc n ≡ suc (length s) = omega arith in
    rw (← count) (r ∙ unfold read_trace in rw (le-leb (length s) (0 + length s) (omega arith), append-nil es))

-- ---- read, and written
reread_as : {s : List ℕ} {at : ℕ} {es es' : List Entry} {x x' : Ending} → trace es x ≡ trace es' x' → Reread s at es x
    → Reread s at es' x'
reread_as e t = rw (← ap (λ (t : Trace). t.entries) e, ← ap (λ (t : Trace). t.ending) e) t

-- nothing was read
at_once : (s : List ℕ) (at : ℕ) (x : Ending) → Ends s at x → Reread s at [] x
at_once s at x h = record { fitting = refl; written = rw (add-zero at); ends = rw (add-zero at) h }

one_more : (s : List ℕ) (at next : ℕ) (e : Entry) (slots : List ℕ) (es : List Entry) (x : Ending)
    → EntryTold s at e slots next
    → Reread s next es x → Reread s at (e ∷ es) x
one_more s at next e slots es x t r =
    let a = entry_octets e in
    let b = trace_octets es in
    let p : at + length (a ++ b) ≡ next + length b = rw (length-append a b) (omega (arith, t.place)) in
    record {
      fitting = and_true t.fitting r.fitting;
      written = rw p (both_written s at next (next + length b) a b t.written r.written);
      ends = rw p r.ends;
    }

module _ (s : List ℕ) (o : Octets s) where
  rewrites : (n at : ℕ) (es : List Entry) (x : Ending) → read_trace n s at ≡ trace es x → Reread s at es x
  unfolding read_trace
  rewrites zero at es x e = reread_as e (at_once s at unread tt)
  rewrites (suc n) at es x e = go (leb (length s) at) refl (entry_at s at) refl (λ m. rewrites n m) e
    where
      go : (b : Bool) → leb (length s) at ≡ b → (r : Reading Entry) → entry_at s at ≡ r
          → ((m : ℕ) (es : List Entry) (x : Ending) → read_trace n s m ≡ trace es x → Reread s m es x)
          → cond b (trace [] finished) (further at (read_trace n s) r) ≡ trace es x → Reread s at es x
      go true p r q ih f = reread_as f (at_once s at finished (leb-true (length s) at p))
      go false p (refused why sl) q ih f = reread_as f (at_once s at (stopped why at) refl)
      go false p (read e sl m) q ih f =
          let t = read_trace n s m in
          reread_as f
          (one_more s at m e sl t.entries t.ending (entries.writes_read s at e sl m o q)
          (ih m t.entries t.ending refl))

writes_back : (s : List ℕ) (at : ℕ) (es : List Entry) (x : Ending) → Octets s → trace_from s at ≡ trace es x
    → Reread s at es x
unfolding trace_from
writes_back s at es x o e = rewrites s o (suc (length s)) at es x e

pub round_trips : RoundTrips
round_trips = record { reads_entries = reads_entries; reads_back = reads_back; writes_back = writes_back }
