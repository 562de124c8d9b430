-- A table of fields, step by step, and what reading two parts leaves. Assumes nothing.
use Prim.Native.Nat.{ℕ, ◌+◌, ◌≤◌, ◌<◌}
use mathlib.Core.Path.{◌≡◌, refl, sym, ◌∙◌}
use mathlib.Core.List.{List, ◌++◌, map}
use native.Mathlib.Omega.{arith}
use native.Mathlib.Numerals.{add-one}
use lib.ListN.{length, get_or, length-map, drop_of_length-le, get_or-map}
use lib.Seq.{drop-cons}
use Rattle.std.specs.Prelude.{Result, Ok, Err}
use Rattle.writing.specs.Notify.{placed}
use Rattle.writing.proofs.Placed.{placed_none, placed_then}
use Rattle.fields.specs.Fields.{Field, up_to, none, ◌then◌, Value}
use Rattle.fields.specs.Slots.{width}
use Rattle.fields.specs.Reading.{Reading, read, refused, behind, joined, read_at, step_of, slots_of}
use Rattle.fields.specs.Codes.{field_of, table_of, rest_from, ReadsTo}
use Rattle.fields.specs.declared.field_type.FieldType.{FieldType}
use Rattle.fields.specs.declared.field_type.FieldType.TheVariants.{Number}
use Rattle.fields.specs.declared.refusal.Refusal.{Refusal}
use Rattle.fields.proofs.Sized.{Sized, at_most, sized}

-- ---- the table, step by step
module _ (types : List FieldType) (i : ℕ) where
  pub rest_end : length types ≤ i → rest_from types i ≡ none
  unfolding rest_from
  rest_end e =
      let h : length (map field_of types) ≤ i = omega (arith, length-map types field_of) in
      rw (drop_of_length-le (map field_of types) h)

  pub rest_field : i < length types
      → rest_from types i ≡ field_of (get_or types i (Number 0)) then rest_from types (i + 1)
  unfolding rest_from
  rest_field h =
      let d = drop-cons (map field_of types) i (up_to 0) (omega (arith, length-map types field_of)) in
      rw (d, get_or-map field_of types i (Number 0), add-one i)

pub rest_whole : (types : List FieldType) → rest_from types 0 ≡ table_of types
unfolding rest_from
rest_whole types = refl

-- ---- what reading leaves
module _ {A B C : Type 0} (join : A → B → C) (a : A) (slots : List ℕ) where
  pub behind_step : (q : Reading B) → step_of (behind join a slots q) ≡ step_of q
  behind_step (read b more next) = refl
  behind_step (refused why more) = refl

  pub behind_slots : (q : Reading B) → slots_of (behind join a slots q) ≡ slots ++ slots_of q
  behind_slots (read b more next) = refl
  behind_slots (refused why more) = refl

pub not_at : {why : Refusal} {n : ℕ} → Err why ≡ Ok n → ⊥
not_at e = let z : ◌≡◌ {A = ℕ} 0 1 = cc in omega arith

pub reads_none : (s : List ℕ) (at : ℕ) (slots : List ℕ) (slot : ℕ) → at ≤ length s
    → ReadsTo none s at slots slot slots (Ok at)
unfolding read_at
reads_none s at slots slot h = record { step = refl; told = sym (placed_none slots slot); within = h }

module _ (f g : Field) (s : List ℕ) (at : ℕ) (slots : List ℕ) (slot : ℕ) where
  -- a reading of both, that began so
  begun : Reading (Value f) → Reading (Value f × Value g)
  begun r = joined (λ v w. (v, w)) r (read_at g s)

  pub then_refused : (left : List ℕ) (why : Refusal) → ReadsTo f s at slots slot left (Err why)
      → ReadsTo (f then g) s at slots slot left (Err why)
  unfolding read_at begun
  then_refused left why t = let r = go (read_at f s at) t.step t.told in
      record { step = r.0; told = r.1; within = tt }
    where
      go : (r : Reading (Value f)) → Err why ≡ step_of r → left ≡ placed slots slot (slots_of r)
          → (Err why ≡ step_of (begun r)) × (left ≡ placed slots slot (slots_of (begun r)))
      go (refused x sl) e p = (e, p)
      go (read v sl n) e p = absurd (not_at e)

  pub then_read : (next : ℕ) (mid left : List ℕ) (r : Result ℕ Refusal) → slot + (width f + width g) ≤ length slots
      → ReadsTo f s at slots slot mid (Ok next) → ReadsTo g s next mid (slot + width f) left r
      → ReadsTo (f then g) s at slots slot left r
  unfolding read_at begun
  then_read next mid left r h t u =
      let q = go (read_at f s at) (sized f s at) t.step t.told in
      record { step = q.0; told = q.1; within = u.within }
    where
      go : (q : Reading (Value f)) → Sized (width f) q → Ok next ≡ step_of q → mid ≡ placed slots slot (slots_of q)
          → (r ≡ step_of (begun q)) × (left ≡ placed slots slot (slots_of (begun q)))
      go (refused x sl) l e p = absurd (not_at (sym e))
      go (read v sl n) l e p =
          let m : next ≡ n = cc in
          let k = at_most (width g) (read_at g s n) (sized g s n) in
          let both : Value f → Value g → Value f × Value g = λ x y. (x, y) in
          let w = read_at g s n in (
            u.step ∙ rw m (sym (behind_step both v sl w)),
            rw (behind_slots both v sl w)
                (placed_then slots mid left slot (slot + width f) sl (slots_of w) (omega arith) p (omega arith)
                (u.told ∙ rw m)),
          )
