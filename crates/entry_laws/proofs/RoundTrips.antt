-- The round trips of an entry. Assumes nothing.
use Prim.Native.Nat.{ℕ, ◌+◌, ◌-◌, ◌^◌, ◌≤◌, ◌<◌}
use mathlib.Core.Path.{◌≡◌, refl, sym, ◌∙◌, ap}
use mathlib.Core.Bool.{Bool, true, false, cond, ◌&&◌}
use mathlib.Core.List.{List, ◌++◌, append_assoc}
use native.Mathlib.Omega.{arith}
use native.Mathlib.Nat.{add_assoc}
use borrow.Author.Tests.{ltb-true, eqb-true}
use lib.Dec.{ltb, eqb}
use lib.ListN.{length, drop, length-append, length-drop}
use Rattle.std.specs.Prelude.{Option, Some, None, Result, Ok, Err}
use Rattle.fields.specs.declared.refusal.Refusal.{Refusal}
use Rattle.octets.proofs.Small.{both}
use Rattle.leb128.specs.Leb128.{Decoded, decoded_at, octets_of}
use Rattle.leb128.specs.RoundTrips.{Octets}
use Rattle.leb128.proofs.RoundTrip.{round_trips}
use Rattle.leb128.proofs.Octets.{at_least_one}
use Rattle.fields.specs.Fields.{Field, up_to, address, string, none, ◌then◌, list_of, Value, octets}
use Rattle.fields.specs.Reading.{Reading, read, refused, read_at}
use Rattle.field_laws.specs.RoundTrips.{Narrow, RoundTrips}
use Rattle.field_laws.proofs.Parts.{moved, not_read}
use Rattle.field_laws.proofs.RoundTrips.{each_field}
use Rattle.field_laws.proofs.Told.{number_is, both_written}
use Rattle.entries.specs.Kinds.{kind_number, fields_of}
use Rattle.entries.specs.Entries.{Entry, entry_fits, entry_octets, kind_of, as_entry, of_kind, after_kind, entry_at}
use Rattle.entry_laws.specs.RoundTrips.{EntryReads, EntryTold, Entries}
use Rattle.entries.specs.declared.kind.Kind.{Kind}
use Rattle.entries.specs.declared.kind.Kind.TheVariants.{OpenBoth, AddIpsec, CloseIke, CloseIpsec, Request}
use Rattle.entries.specs.declared.kind.Kind.TheVariants.{Policy, CheckResponse, Clone, MarkDeletion}

-- ---- the numbers of every kind have 64 bits at most
narrow? : Field → Bool
narrow? (up_to most) = ltb most (2 ^ 64)
narrow? address = true
narrow? string = true
narrow? none = true
narrow? (f then g) = narrow? f && narrow? g
narrow? (list_of f) = narrow? f

is_narrow : (f : Field) → narrow? f ≡ true → Narrow f
unfolding narrow?
is_narrow (up_to most) h = ltb-true most (2 ^ 64) h
is_narrow address h = tt
is_narrow string h = tt
is_narrow none h = tt
is_narrow (f then g) h = let b = both (narrow? f) (narrow? g) h in (is_narrow f b.0, is_narrow g b.1)
is_narrow (list_of f) h = is_narrow f h

kind-narrow? : (k : Kind) → narrow? (fields_of k) ≡ true
unfolding narrow?
kind-narrow? OpenBoth = refl
kind-narrow? AddIpsec = refl
kind-narrow? CloseIke = refl
kind-narrow? CloseIpsec = refl
kind-narrow? Request = refl
kind-narrow? Policy = refl
kind-narrow? CheckResponse = refl
kind-narrow? Clone = refl
kind-narrow? MarkDeletion = refl

pub of_kind_lem : (k : Kind) → RoundTrips (fields_of k)
of_kind_lem k = each_field (fields_of k) (is_narrow (fields_of k) (kind-narrow? k))

-- ---- kinds by their numbers
kind_back : (k : Kind) → kind_of (kind_number k) ≡ Some k
kind_back OpenBoth = refl
kind_back AddIpsec = refl
kind_back CloseIke = refl
kind_back CloseIpsec = refl
kind_back Request = refl
kind_back Policy = refl
kind_back CheckResponse = refl
kind_back Clone = refl
kind_back MarkDeletion = refl

number_small : (k : Kind) → kind_number k < 2 ^ 64
number_small OpenBoth = omega arith
number_small AddIpsec = omega arith
number_small CloseIke = omega arith
number_small CloseIpsec = omega arith
number_small Request = omega arith
number_small Policy = omega arith
number_small CheckResponse = omega arith
number_small Clone = omega arith
number_small MarkDeletion = omega arith

-- ---- one entry
reads_entry : (e : Entry) (s : List ℕ) (at : ℕ) (rest : List ℕ) → entry_fits e ≡ true → drop at s ≡ entry_octets e ++ rest
    → EntryReads s at e (at + length (entry_octets e))
unfolding entry_at
reads_entry e s at rest h d =
    let k = e.kind in
    let x = octets_of (kind_number k) in
    let y = octets (fields_of k) e.values in
    let c : drop at s ≡ x ++ (y ++ rest) = d ∙ append_assoc x y rest in
    let n : decoded_at s at ≡ Some (kind_number k, at + length x) =
    rw c (round_trips.reads_written (kind_number k) at (y ++ rest) (number_small k)) in
    let r = (of_kind_lem k).reads_written e.values s (at + length x) rest h (moved s at x (y ++ rest) c) in
    record { slots = r.slots; reads = rw (n, kind_back k, r.reads, length-append x y, add_assoc) }

pick : (n i : ℕ) (x k : Kind) (rest : Option Kind) → i ≡ kind_number x → (rest ≡ Some k → n ≡ kind_number k)
    → cond (eqb n i) (Some x) rest ≡ Some k → n ≡ kind_number k
pick n i x k rest h f e = go (eqb n i) refl e
  where
    go : (b : Bool) → eqb n i ≡ b → cond b (Some x) rest ≡ Some k → n ≡ kind_number k
    go true p q = let a : x ≡ k = cc in eqb-true n i p ∙ h ∙ ap kind_number a
    go false p q = f q

-- what was read is a pair
pub ok_parts : (k x : Kind) (n m : ℕ) → ◌≡◌ {A = Result (Kind × ℕ) Refusal} (Ok (k, n)) (Ok (x, m)) → (k ≡ x) × (n ≡ m)
ok_parts k x n m e = let p : ◌≡◌ {A = Kind × ℕ} (k, n) (x, m) = cc in (ap (λ (q : Kind × ℕ). q.0) p, ap (λ (q : Kind × ℕ). q.1) p)

not_known : {k : Kind} → None ≡ Some k → ⊥
not_known e = let z : ◌≡◌ {A = ℕ} 0 1 = cc in omega arith

pub kind_was : (n : ℕ) (k : Kind) → kind_of n ≡ Some k → n ≡ kind_number k
kind_was n k =
    pick n 0 OpenBoth k _ refl
    (pick n 1 AddIpsec k _ refl
    (pick n 2 CloseIke k _ refl
    (pick n 3 CloseIpsec k _ refl (pick n 4 Request k _ refl
    (pick n 5 Policy k _ refl (pick n 6 CheckResponse k _ refl
    (pick n 7 Clone k _ refl (pick n 8 MarkDeletion k _ refl (λ e. absurd (not_known e))))))))))

told_as_lem : {s : List ℕ} {at : ℕ} {e e' : Entry} {slots slots' : List ℕ} {next next' : ℕ} → e ≡ e' → slots ≡ slots'
    → next ≡ next'
    → EntryTold s at e slots next → EntryTold s at e' slots' next'
told_as_lem p q r t = rw (← p, ← q, ← r) t

module _ (s : List ℕ) (at : ℕ) (o : Octets s) (e : Entry) (slots : List ℕ) (next : ℕ) where
  after_fields : (n m : ℕ) (k : Kind) → decoded_at s at ≡ Some (n, m) → kind_of n ≡ Some k
      → (r : Reading (Value (fields_of k)))
      → read_at (fields_of k) s m ≡ r → as_entry k r ≡ read e slots next → EntryTold s at e slots next
  after_fields n m k d h (refused why sl) p q = absurd (not_read q)
  after_fields n m k d h (read v sl z) p q =
      let a : record { kind = k; values = v } ≡ e = cc in
      let t = (of_kind_lem k).writes_read s m v sl z o p in
      let i = number_is s at n m o d in
      let w = kind_was n k h in
      let x = octets_of (kind_number k) in
      let y = octets (fields_of k) v in
      let first : drop at s ≡ x ++ drop m s = i.written ∙ rw w in
      let behind : m ≡ at + length x = i.place ∙ rw w in
      let sl-same : sl ≡ slots = cc in
      let z-same : z ≡ next = cc in
      told_as_lem a sl-same z-same
      (record {
        fitting = t.fitting;
        place = rw (length-append x y) (omega (arith, t.place));
        written = both_written s at m z x y first t.written;
        size = t.size;
        value = t.value;
        inside = t.inside;
      })

  after_kind_lem : (n m : ℕ) → decoded_at s at ≡ Some (n, m) → (k : Option Kind) → kind_of n ≡ k → of_kind s m k ≡ read e slots next
      → EntryTold s at e slots next
  after_kind_lem n m d None h q = absurd (not_read q)
  after_kind_lem n m d (Some k) h q = after_fields n m k d h (read_at (fields_of k) s m) refl q

  writes_entry : entry_at s at ≡ read e slots next → EntryTold s at e slots next
  unfolding entry_at
  writes_entry q = go (decoded_at s at) refl q
    where
      go : (d : Decoded) → decoded_at s at ≡ d → after_kind s d ≡ read e slots next → EntryTold s at e slots next
      go None d p = absurd (not_read p)
      go (Some (n, m)) d p = after_kind_lem n m d (kind_of n) refl p

pub entries : Entries
entries =
    record { reads_written = reads_entry; writes_read = λ s at e slots next o q. writes_entry s at o e slots next q }

-- ---- where an entry ends
-- an entry has an octet at least
pub some_octets : (e : Entry) → 0 < length (entry_octets e)
some_octets e =
    let x = octets_of (kind_number e.kind) in
    rw (length-append x (octets (fields_of e.kind) e.values)) (omega (arith, at_least_one (kind_number e.kind)))

-- behind its place, within the octets
pub ends_within : (s : List ℕ) (at : ℕ) → Octets s → at ≤ length s → (e : Entry) (slots : List ℕ) (next : ℕ)
    → entry_at s at ≡ read e slots next → (at < next) × (next ≤ length s)
ends_within s at o h e slots next q =
    let t = writes_entry s at o e slots next q in
    let few = some_octets e in
    let l : length s - at ≡ length (entry_octets e) + (length s - next) =
    sym (length-drop at s) ∙ ap length t.written ∙ length-append (entry_octets e) (drop next s)
    ∙ ap (λ (n : ℕ). length (entry_octets e) + n) (length-drop next s) in
    let p = t.place in
    (omega arith, omega arith)
