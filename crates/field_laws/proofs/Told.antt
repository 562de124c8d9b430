-- What was read is written so again, and its slots tell it. Assumes nothing.
use Prim.Native.Nat.{ℕ, zero, suc, ◌+◌, ◌-◌, ◌*◌, ◌^◌, ◌≤◌, ◌<◌}
use mathlib.Core.Path.{◌≡◌, refl, sym, ◌∙◌, ap}
use mathlib.Core.Bool.{true}
use mathlib.Core.List.{List, [], ◌∷◌, ◌++◌, append_assoc}
use native.Mathlib.Omega.{arith}
use native.Mathlib.Nat.{add-zero, zero-mul, suc-mul, mul-le-mul_right}
use borrow.Author.Tests.{le-leb, eq-eqb}
use lib.ListN.{length, take, drop, replicate, length-append, length-drop, length-replicate, take-append-drop}
use lib.Seq.{drop-drop, drop_at, length-take-le}
use Rattle.std.specs.Prelude.{Some}
use Rattle.octets.specs.Limits.{address_octets}
use Rattle.octets.specs.Lists.{all}
use Rattle.octets.proofs.Small.{and_true}
use Rattle.leb128.specs.Leb128.{decoded_at, octets_of}
use Rattle.leb128.specs.RoundTrips.{Octets}
use Rattle.leb128.proofs.RoundTrip.{round_trips}
use Rattle.leb128.proofs.Stable.{within}
use Rattle.fields.specs.Fields.{Field, up_to, address, string, none, ◌then◌, list_of, Value, fits, octets, each_of}
use Rattle.fields.specs.Fields.{string_most, list_most}
use Rattle.fields.specs.Reading.{read, times, part_at, listed, read_at}
use Rattle.field_laws.specs.RoundTrips.{Told}
use Rattle.fields.specs.Slots.{width, items_in, all_in, value_in, fits_in}
use Rattle.field_laws.proofs.Parts.{tail_octets, joined_is, limited_is, part_is, listed_is}
use Rattle.fields.proofs.Prefix.{same, items_same}

-- ---- a number that was read
pub record Number (s : List ℕ) (at n next : ℕ) : Type 0 where
  pub bound : n < 2 ^ 64
  pub place : next ≡ at + length (octets_of n)
  pub written : drop at s ≡ octets_of n ++ drop next s
  pub end : next ≤ length s

pub number_is : (s : List ℕ) (at n next : ℕ) → Octets s → decoded_at s at ≡ Some (n, next) → Number s at n next
number_is s at n next o e =
    let t = tail_octets s at o in
    let w = round_trips.writes_read (drop at s) at n next t e in
    let i = within s at o (Some (n, next)) e in
    let j = i.0 in
    let back : at + (next - at) ≡ next = omega arith in
    record {
      bound = w.0;
      place = w.1;
      written = w.2 ∙ ap (λ (l : List ℕ). octets_of n ++ l) (drop-drop (next - at) at s ∙ rw back);
      end = i.1;
    }

-- octets that were taken out of the buffer
part_written : (s : List ℕ) (at n : ℕ) → drop at s ≡ take n (drop at s) ++ drop (at + n) s
part_written s at n =
    sym (take-append-drop n (drop at s)) ∙ ap (λ (l : List ℕ). take n (drop at s) ++ l) (drop-drop n at s)

-- two parts that stand one behind the other
pub both_written : (s : List ℕ) (at mid next : ℕ) (a b : List ℕ) → drop at s ≡ a ++ drop mid s
    → drop mid s ≡ b ++ drop next s
    → drop at s ≡ (a ++ b) ++ drop next s
both_written s at mid next a b p q = p ∙ ap (λ (l : List ℕ). a ++ l) q ∙ sym (append_assoc a b (drop next s))

-- ---- so many, one behind the other
pub record Each (f : Field) (s : List ℕ) (n at : ℕ) (vs : List (Value f)) (slots : List ℕ) (next : ℕ) : Type 0 where
  pub count : length vs ≡ n
  pub fitting : all (fits f) vs ≡ true
  pub place : next ≡ at + length (each_of (octets f) vs)
  pub written : drop at s ≡ each_of (octets f) vs ++ drop next s
  pub size : length slots ≡ n * width f
  pub value : items_in n (width f) (value_in f s) slots ≡ vs
  pub inside : all_in n (width f) (fits_in f s) slots ≡ true

each_as : {f : Field} {s : List ℕ} {n at : ℕ} {vs vs' : List (Value f)} {slots slots' : List ℕ} {next : ℕ} → vs ≡ vs'
    → slots ≡ slots' → Each f s n at vs slots next → Each f s n at vs' slots' next
each_as p q t = rw (← p, ← q) t

module _ (f : Field) (s : List ℕ)
    (one : (at : ℕ) (v : Value f) (slots : List ℕ) (next : ℕ) → read_at f s at ≡ read v slots next
    → Told f s at v slots next) where
  each_told : (n at : ℕ) (vs : List (Value f)) (slots : List ℕ) (next : ℕ)
      → times n (read_at f s) at ≡ read vs slots next
      → Each f s n at vs slots next
  each_told zero at vs slots next e =
      let v : [] ≡ vs = cc in
      let l : [] ≡ slots = cc in
      let p : at ≡ next = cc in
      rw (← v, ← l, ← p)
      (record {
        count = refl;
        fitting = refl;
        place = sym (add-zero at);
        written = refl;
        size =
            sym (zero-mul (width f));
        value = refl;
        inside = refl;
      })
  each_told (suc n) at vs slots next e =
      let b = joined_is ◌∷◌ (read_at f s at) (times n (read_at f s)) vs slots next e in
      let x = b.a in
      let xs = b.b in
      let p = one at x b.a_slots b.mid b.first in
      let q = each_told n b.mid xs b.b_slots next b.second in
      let m = same f s b.a_slots b.b_slots p.inside (omega (arith, p.size)) in
      let d = drop_at b.a_slots b.b_slots (width f) p.size in
      each_as b.value b.all
      (record {
        count = ap suc q.count;
        fitting = and_true p.fitting q.fitting;
        place = rw (length-append (octets f x) (each_of (octets f) xs)) (omega (arith, p.place, q.place));
        written = both_written s at b.mid next (octets f x) (each_of (octets f) xs) p.written q.written;
        size = rw (length-append b.a_slots b.b_slots, suc-mul n (width f)) (omega (arith, p.size, q.size));
        value = rw (d, m.value_same, p.value, q.value);
        inside = rw d (and_true m.fit_same q.inside);
      })

-- the same, of what is equal
told_as_lem : {f : Field} {s : List ℕ} {at : ℕ} {v v' : Value f} {slots slots' : List ℕ} {next next' : ℕ} → v ≡ v'
    → slots ≡ slots'
    → next ≡ next' → Told f s at v slots next → Told f s at v' slots' next'
told_as_lem p q r t = rw (← p, ← q, ← r) t

-- ---- every field
module _ (s : List ℕ) (o : Octets s) where
  pub told : (f : Field) (at : ℕ) (v : Value f) (slots : List ℕ) (next : ℕ) → read_at f s at ≡ read v slots next
      → Told f s at v slots next
  unfolding fits octets read_at value_in fits_in
  told (up_to most) at v slots next e =
      let l = limited_is most (decoded_at s at) (λ n m. read n (n ∷ []) m) v slots next e in
      let r = l.rest in
      let a : l.n ≡ v = cc in
      let b : l.n ∷ [] ≡ slots = cc in
      let c : l.after ≡ next = cc in
      let n = number_is s at l.n l.after o l.number in
      told_as_lem a b c
      (record {
        fitting = le-leb l.n most l.small;
        place = n.place;
        written = n.written;
        size = refl;
        value = refl;
        inside = le-leb l.n most l.small;
      })
  told address at v slots next e =
      let p = part_is address_octets s at (at ∷ []) v slots next e in
      let room = p.room in
      let l = length-take-le address_octets (drop at s) (simp length-drop room) in
      told_as_lem p.taken p.same p.end
      (record {
        fitting = eq-eqb _ _ l;
        place = rw l;
        written = part_written s at address_octets;
        size = refl;
        value = refl;
        inside = le-leb (at + address_octets) (length s) (omega arith);
      })
  told string at v slots next e =
      let l = limited_is string_most (decoded_at s at) (λ n m. part_at n s m (m ∷ n ∷ [])) v slots next e in
      let n = l.n in
      let m = l.after in
      let i = number_is s at n m o l.number in
      let p = part_is n s m (m ∷ n ∷ []) v slots next l.rest in
      let room = p.room in
      let end = i.end in
      let k = length-take-le n (drop m s) (simp length-drop room) in
      told_as_lem p.taken p.same p.end
      (record {
        fitting = rw k (le-leb n string_most l.small);
        place = rw (length-append (octets_of (length (take n (drop m s)))) (take n (drop m s)), k)
            (omega (arith, i.place));
        written = rw k (both_written s at m (m + n) (octets_of n) (take n (drop m s)) i.written (part_written s m n));
        size = refl;
        value = refl;
        inside = and_true (le-leb n string_most l.small) (le-leb (m + n) (length s) (omega arith));
      })
  told none at v slots next e =
      let l : [] ≡ slots = cc in
      let p : at ≡ next = cc in
      told_as_lem refl l p
      (record {
        fitting = refl;
        place = sym (add-zero at);
        written = refl;
        size = refl;
        value = refl;
        inside = refl;
      })
  told (f then g) at v slots next e =
      let b = joined_is (λ x y. (x, y)) (read_at f s at) (read_at g s) v slots next e in
      let x = b.a in
      let y = b.b in
      let p = told f at x b.a_slots b.mid b.first in
      let q = told g b.mid y b.b_slots next b.second in
      let m = same f s b.a_slots b.b_slots p.inside (omega (arith, p.size)) in
      let d = drop_at b.a_slots b.b_slots (width f) p.size in
      told_as_lem b.value b.all refl
      (record {
        fitting = and_true p.fitting q.fitting;
        place = rw (length-append (octets f x) (octets g y)) (omega (arith, p.place, q.place));
        written = both_written s at b.mid next (octets f x) (octets g y) p.written q.written;
        size = rw (length-append b.a_slots b.b_slots) (omega (arith, p.size, q.size));
        value = rw (d, m.value_same, p.value, q.value);
        inside = rw d (and_true m.fit_same q.inside);
      })
  told (list_of f) at v slots next e =
      let w = width f in
      let l = limited_is list_most (decoded_at s at) (λ n m. listed n (list_most * w) (times n (read_at f s) m)) v slots
      next e in
      let n = l.n in
      let m = l.after in
      let i = number_is s at n m o l.number in
      let r = listed_is n (list_most * w) (times n (read_at f s) m) v slots next l.rest in
      let q = each_told f s (λ a x sl z h. told f a x sl z h) n m v r.items next r.was in
      let zeros : List ℕ = replicate (list_most * w - length r.items) 0 in
      let k = mul-le-mul_right w l.small in
      let t = items_same w (value_in f s) (fits_in f s) zeros (λ sl a b. same f s sl zeros a b) n r.items q.inside
      (omega (arith, q.size)) in
      let c = q.count in
      told_as_lem refl r.all refl
      (record {
        fitting = and_true (le-leb (length v) list_most (omega (arith, l.small))) q.fitting;
        place = rw (length-append (octets_of (length v)) (each_of (octets f) v), c) (omega (arith, i.place, q.place));
        written = rw c (both_written s at m next (octets_of n) (each_of (octets f) v) i.written q.written);
        size = rw (length-append r.items zeros, length-replicate {A = ℕ} (list_most * w - length r.items) 0)
            (omega (arith, q.size));
        value = rw t.value_same q.value;
        inside = and_true (le-leb n list_most l.small) t.fit_same;
      })
