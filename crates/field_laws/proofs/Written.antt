-- What was written is read back, for every field. Assumes nothing.
use Prim.Native.Nat.{ℕ, ◌+◌, ◌-◌, ◌*◌, ◌^◌, ◌≤◌, ◌<◌}
use mathlib.Core.Path.{◌≡◌, refl, sym, ◌∙◌, ap}
use mathlib.Core.Bool.{Bool, true}
use mathlib.Core.List.{List, [], ◌∷◌, ◌++◌, append_assoc}
use native.Mathlib.Omega.{arith}
use native.Mathlib.Nat.{add_assoc, add-zero}
use borrow.Author.Tests.{le-ltb, leb-true, eqb-true}
use lib.Dec.{leb}
use lib.ListN.{length, drop, replicate, length-append, length-drop}
use lib.Seq.{take_at}
use Rattle.std.specs.Prelude.{Some}
use Rattle.octets.specs.Limits.{address_octets}
use Rattle.octets.specs.Lists.{all}
use Rattle.octets.proofs.Small.{both}
use Rattle.leb128.specs.Leb128.{decoded_at, octets_of}
use Rattle.leb128.proofs.RoundTrip.{round_trips}
use Rattle.fields.specs.Fields.{Field, up_to, address, string, none, ◌then◌, list_of, Value, fits, octets, each_of}
use Rattle.fields.specs.Fields.{string_most, list_most}
use Rattle.fields.specs.Reading.{Reading, read, times, part_at, read_at}
use Rattle.field_laws.specs.RoundTrips.{Narrow, Reads}
use Rattle.fields.specs.Slots.{width}
use Rattle.field_laws.proofs.Parts.{moved}

number_there : (s : List ℕ) (at n : ℕ) (rest : List ℕ) → n < 2 ^ 64 → drop at s ≡ octets_of n ++ rest
    → decoded_at s at ≡ Some (n, at + length (octets_of n))
number_there s at n rest h e = rw e (round_trips.reads_written n at rest h)

-- octets that stand there are within the buffer
in_room : (s : List ℕ) (at : ℕ) (a rest : List ℕ) → drop at s ≡ a ++ rest → length a ≤ length s - at
in_room s at a rest e = omega (arith, sym (length-drop at s), simp length-append at (ap length e))

part_there : (s : List ℕ) (at : ℕ) (a rest slots : List ℕ) (n : ℕ) → length a ≡ n → drop at s ≡ a ++ rest
    → part_at n s at slots ≡ read a slots (at + n)
part_there s at a rest slots n l e =
    rw (le-ltb (length s - at) n (omega (arith, in_room s at a rest e)), e, take_at a rest n l)

-- so many, one behind the other
module _ {A : Type 0} (s : List ℕ) (item : ℕ → Reading A) (written : A → List ℕ) (ok : A → Bool)
    (one : (v : A) (at : ℕ) (rest : List ℕ) → ok v ≡ true → drop at s ≡ written v ++ rest
    → (slots : List ℕ) × (item at ≡ read v slots (at + length (written v)))) where
  each_there : (vs : List A) (at : ℕ) (rest : List ℕ) → all ok vs ≡ true → drop at s ≡ each_of written vs ++ rest
      → (slots : List ℕ) × (times (length vs) item at ≡ read vs slots (at + length (each_of written vs)))
  each_there [] at rest h e = ([], rw add-zero)
  each_there (v ∷ vs) at rest h e =
      let b = both (ok v) (all ok vs) h in
      let f : drop at s ≡ written v ++ (each_of written vs ++ rest) =
      e ∙ append_assoc (written v) (each_of written vs) rest in
      let p = one v at (each_of written vs ++ rest) b.0 f in
      let q = each_there vs (at + length (written v)) rest b.1
      (moved s at (written v) (each_of written vs ++ rest) f) in
      (p.0 ++ q.0, rw (p.1, q.1, length-append (written v) (each_of written vs), add_assoc))

pub reads : (f : Field) (v : Value f) (s : List ℕ) (at : ℕ) (rest : List ℕ) → Narrow f → fits f v ≡ true
    → drop at s ≡ octets f v ++ rest → Reads f s at v (at + length (octets f v))
unfolding fits octets read_at
reads (up_to most) v s at rest w h e =
    let l = leb-true v most h in
    record { slots = v ∷ []; reads = rw (number_there s at v rest (omega arith) e, le-ltb most v l) }
reads address v s at rest w h e =
    let l = eqb-true (length v) address_octets h in
    record { slots = at ∷ []; reads = rw l (part_there s at v rest (at ∷ []) address_octets l e) }
reads string v s at rest w h e =
    let l = leb-true (length v) string_most h in
    let f : drop at s ≡ octets_of (length v) ++ (v ++ rest) = e ∙ append_assoc (octets_of (length v)) v rest in
    let next = at + length (octets_of (length v)) in
    let g = moved s at (octets_of (length v)) (v ++ rest) f in
    record {
      slots = next ∷ length v ∷ [];
      reads =
          rw (
            number_there s at (length v) (v ++ rest) (omega arith) f,
            le-ltb string_most (length v) l,
            length-append (octets_of (length v)) v,
            ← add_assoc,
          )
          (part_there s next v rest (next ∷ length v ∷ []) (length v) refl g);
    }
reads none v s at rest w h e = record { slots = []; reads = rw add-zero }
reads (f then g) v s at rest w h e =
    let b = both (fits f v.0) (fits g v.1) h in
    let x = octets f v.0 in
    let y = octets g v.1 in
    let k : drop at s ≡ x ++ (y ++ rest) = e ∙ append_assoc x y rest in
    let p = reads f v.0 s at (y ++ rest) w.0 b.0 k in
    let q = reads g v.1 s (at + length x) rest w.1 b.1 (moved s at x (y ++ rest) k) in
    record { slots = p.slots ++ q.slots; reads = rw (p.reads, q.reads, length-append x y, add_assoc) }
reads (list_of f) v s at rest w h e =
    let b = both (leb (length v) list_most) (all (fits f) v) h in
    let l = leb-true (length v) list_most b.0 in
    let x = octets_of (length v) in
    let y = each_of (octets f) v in
    let k : drop at s ≡ x ++ (y ++ rest) = e ∙ append_assoc x y rest in
    let q =
    each_there s (read_at f s) (octets f) (fits f)
    (λ i p r o d. let c = reads f i s p r w o d in (c.slots, c.reads))
    v (at + length x) rest b.1 (moved s at x (y ++ rest) k) in
    record {
      slots = length v ∷ (q.0 ++ replicate (list_most * width f - length q.0) 0);
      reads = rw (
        number_there s at (length v) (y ++ rest) (omega arith) k,
        le-ltb list_most (length v) l,
        q.1,
        length-append x y,
        add_assoc,
      );
    }
