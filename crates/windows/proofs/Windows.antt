-- What the window tells holds of the whole trace. Assumes nothing.
use Prim.Native.Nat.{ℕ, ◌-◌, ◌≤◌, ◌<◌}
use mathlib.Core.Path.{◌≡◌, refl, sym, subst}
use mathlib.Core.Bool.{Bool, true, false, cond}
use mathlib.Core.List.{List, [], ◌++◌, append-nil}
use native.Mathlib.Omega.{arith}
use borrow.Author.Tests.{leb-true, leb-false, ltb-true, ltb-false}
use lib.Dec.{ltb, leb}
use lib.ListN.{length, drop_of_length-le}
use Rattle.writing.specs.Notify.{placed}
use Rattle.writing.proofs.Placed.{placed_none}
use Rattle.leb128.specs.Leb128.{decoded}
use Rattle.leb128.specs.RoundTrips.{Octets}
use Rattle.leb128.proofs.Stable.{first_octets}
use Rattle.fields.specs.Reading.{Reading, read, refused, slots_of}
use Rattle.field_laws.specs.Sight.{Final}
use Rattle.fields.specs.declared.refusal.Refusal.{Refusal}
use Rattle.fields.specs.declared.refusal.Refusal.TheVariants.{Cut, UnknownKind, TooLarge}
use Rattle.entries.specs.Entries as spec
use Rattle.entries.specs.Entries.{entry_at, entry_step}
use Rattle.entry_laws.specs.Sight.{entry_sight}
use Rattle.entries.specs.declared.kind.Kind.{Kind}
use Rattle.entry_laws.proofs.RoundTrips.{ends_within}
use Rattle.entry_laws.proofs.Sight.{sight_of_an_entry}
use Rattle.std.specs.Prelude.{Result, Ok, Err}
use Rattle.entry_laws.proofs.RoundTrips.{ok_parts}
use Rattle.windows.specs.Windows.{next_in, refused_in, step_in, Within, Windows}
use Rattle.windows.specs.declared.Next.{Next}
use Rattle.windows.specs.declared.Next.TheVariants.{Entry, More, End}

-- an entry that was read lies behind its place, within the octets
pub within : (s : List ℕ) (at : ℕ) → Octets s → at ≤ length s → (k : Kind) (next : ℕ)
    → entry_step (entry_at s at) ≡ Ok (k, next) → (at < next) × (next ≤ length s)
within s at o h k next q = go (entry_at s at) refl q
  where
    go : (r : Reading spec.Entry) → entry_at s at ≡ r → entry_step r ≡ Ok (k, next)
        → (at < next) × (next ≤ length s)
    go (read e sl m) p f = let a = (ok_parts _ _ _ _ f).1 in rw (← a) (ends_within s at o h e sl m p)
    go (refused why sl) p f = let z : ◌≡◌ {A = ℕ} 0 1 = cc in absurd (omega arith)

-- nothing is read past the end
pub none_there : (s slots : List ℕ) (at : ℕ) → length s ≤ at → slots ≡ placed slots 0 (slots_of (entry_at s at))
unfolding entry_at decoded
none_there s slots at h = rw (drop_of_length-le s h) (sym (placed_none slots 0))

-- a refusal has no place after it
pub refused_within : (w : List ℕ) (at : ℕ) (ended : Bool) (seen : ℕ) (why : Refusal)
    → Within w at (refused_in ended seen why)
refused_within w at ended seen UnknownKind = tt
refused_within w at ended seen TooLarge = tt
refused_within w at true seen Cut = tt
refused_within w at false seen Cut = go (ltb seen entry_sight)
  where
    go : (b : Bool) → Within w at (cond b (Ok More) (Err Cut))
    go true = tt
    go false = tt

-- what each answer says of the trace from the window on
module _ (w rest : List ℕ) (at : ℕ) (ended : Bool) where
  abbrev Told : Result Next Refusal → Type 0
  Told (Ok (Entry k next)) =
      (entry_step (entry_at (w ++ rest) at) ≡ Ok (k, next)) × (entry_at (w ++ rest) at ≡ entry_at w at)
      × (at < next) × (next ≤ length w)
  Told (Err why) = (entry_step (entry_at (w ++ rest) at) ≡ Err why) × (at < length w)
  Told (Ok More) = (ended ≡ false) × (length w - at < entry_sight)
  Told (Ok End) = length (w ++ rest) ≤ at

module _
    (w rest : List ℕ) (at : ℕ) (ended : Bool) (o : Octets (w ++ rest)) (h : at ≤ length w)
    (last : ended ≡ true → rest ≡ [])
  where
    window_octets : Octets w
    window_octets = first_octets w rest o

    not_cut : Final (entry_at w at) → entry_at (w ++ rest) at ≡ entry_at w at
    not_cut = sight_of_an_entry.stays w rest at o h

    whole : ended ≡ true → entry_at (w ++ rest) at ≡ entry_at w at
    whole q = rw (last q, append-nil w)

    -- an entry was read, or refused, in the window
    read_in : (d : Bool) → ended ≡ d → (x : Bool) → ltb (length w - at) entry_sight ≡ x → at < length w
        → (r : Reading spec.Entry) → entry_at w at ≡ r
        → Told w rest at ended (step_in ended (length w - at) (entry_step r))
    read_in d q x f l (read e sl m) p =
        let s : entry_at (w ++ rest) at ≡ entry_at w at = not_cut (rw p tt) in
        let i = ends_within w at window_octets h e sl m p in
        (rw (s, p), s, i.0, i.1)
    read_in d q x f l (refused UnknownKind sl) p = (rw (not_cut (rw p tt), p), l)
    read_in d q x f l (refused TooLarge sl) p = (rw (not_cut (rw p tt), p), l)
    read_in true q x f l (refused Cut sl) p = rw q (rw (whole q, p), l)
    read_in false q true f l (refused Cut sl) p = rw (q, f) (refl, ltb-true (length w - at) entry_sight f)
    read_in false q false f l (refused Cut sl) p =
        let few = ltb-false (length w - at) entry_sight f in
        rw (q, f) (rw (sight_of_an_entry.in_sight w rest at o (omega arith), p), l)

    told : Told w rest at ended (next_in w at ended)
    unfolding next_in
    told = go (leb (length w) at) refl ended refl
      where
        go : (b : Bool) → leb (length w) at ≡ b → (d : Bool) → ended ≡ d
            → Told w rest at ended (cond b (cond d (Ok End) (Ok More))
            (step_in d (length w - at) (entry_step (entry_at w at))))
        go true p true q = rw (last q, append-nil w) (leb-true (length w) at p)
        go true p false q = (q, omega (arith, leb-true (length w) at p))
        go false p d q =
            let l : at < length w = leb-false (length w) at p in
            rw (← q) (read_in ended refl (ltb (length w - at) entry_sight) refl l (entry_at w at) refl)

pub windows : Windows
windows w rest at ended o h last =
    let t = told w rest at ended o h last in
    record {
      entry = λ k next e. subst (Told w rest at ended) e t;
      refused = λ why e. subst (Told w rest at ended) e t;
      end = λ e. subst (Told w rest at ended) e t;
      more = λ e. subst (Told w rest at ended) e t;
    }
