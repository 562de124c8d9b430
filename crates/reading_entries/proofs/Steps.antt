-- What reading an entry comes to, step by step. Assumes nothing.
use Prim.Native.Nat.{ℕ}
use mathlib.Core.Path.{◌≡◌, refl, sym, ap}
use mathlib.Core.List.{List}
use native.Mathlib.Omega.{arith}
use Rattle.std.specs.Prelude.{Option, Some, None, Result, Ok, Err, ok_or}
use Rattle.writing.specs.Notify.{placed}
use Rattle.writing.proofs.Placed.{placed_none}
use Rattle.leb128.specs.Leb128.{decoded_at}
use Rattle.fields.specs.Fields.{Value}
use Rattle.fields.specs.Reading.{Reading, read, refused, read_at, step_of, slots_of}
use Rattle.fields.specs.Codes.{ReadsTo}
use Rattle.fields.specs.declared.refusal.Refusal.{Refusal}
use Rattle.fields.specs.declared.refusal.Refusal.TheVariants.{Cut, UnknownKind}
use Rattle.fields.proofs.Run.{not_at}
use Rattle.entries.specs.Kinds.{fields_of}
use Rattle.entries.specs.Entries.{kind_of, as_entry, entry_at, entry_step}
use Rattle.entries.specs.declared.kind.Kind.{Kind}

not_ok : {why : Refusal} {k : Kind} → Err why ≡ Ok k → ⊥
not_ok e = let z : ◌≡◌ {A = ℕ} 0 1 = cc in omega arith

abbrev pub Tells : List ℕ → ℕ → List ℕ → List ℕ → Result (Kind × ℕ) Refusal → Type 0
Tells s at slots left r = (r ≡ entry_step (entry_at s at)) × (left ≡ placed slots 0 (slots_of (entry_at s at)))

-- what a number tells that is taken for a kind
pub a_kind : (o : Option Kind) (k : Kind) → Ok k ≡ ok_or o UnknownKind → o ≡ Some k
a_kind None k e = absurd (not_ok (sym e))
a_kind (Some x) k e = let a : k ≡ x = cc in rw a

pub no_kind : (o : Option Kind) (why : Refusal) → Err why ≡ ok_or o UnknownKind → (o ≡ None) × (why ≡ UnknownKind)
no_kind None why e = (refl, cc)
no_kind (Some x) why e = absurd (not_ok e)

module _ (s : List ℕ) (at : ℕ) (slots : List ℕ) where
  pub tells_cut : decoded_at s at ≡ None → Tells s at slots slots (Err Cut)
  unfolding entry_at
  tells_cut e = rw e (refl, sym (placed_none slots 0))

  module _ (n next : ℕ) (e : decoded_at s at ≡ Some (n, next)) where
    pub tells_unknown : kind_of n ≡ None → Tells s at slots slots (Err UnknownKind)
    unfolding entry_at
    tells_unknown k = rw (e, k) (refl, sym (placed_none slots 0))

    module _ (k : Kind) (h : kind_of n ≡ Some k) (left : List ℕ) where
      whole : entry_at s at ≡ as_entry k (read_at (fields_of k) s next)
      unfolding entry_at
      whole = rw (e, h)

      pub tells_refused : (why : Refusal) → ReadsTo (fields_of k) s next slots 0 left (Err why)
          → Tells s at slots left (Err why)
      tells_refused why t = rw whole (go (read_at (fields_of k) s next) t.step t.told)
        where
          go : (r : Reading (Value (fields_of k))) → Err why ≡ step_of r → left ≡ placed slots 0 (slots_of r)
              → (Err why ≡ entry_step (as_entry k r)) × (left ≡ placed slots 0 (slots_of (as_entry k r)))
          go (refused x sl) p q = let a : why ≡ x = cc in (ap Err a, q)
          go (read v sl m) p q = absurd (not_at p)

      pub tells_read : (end : ℕ) → ReadsTo (fields_of k) s next slots 0 left (Ok end)
          → Tells s at slots left (Ok (k, end))
      tells_read end t = rw whole (go (read_at (fields_of k) s next) t.step t.told)
        where
          go : (r : Reading (Value (fields_of k))) → Ok end ≡ step_of r → left ≡ placed slots 0 (slots_of r)
              → (◌≡◌ {A = Result (Kind × ℕ) Refusal} (Ok (k, end)) (entry_step (as_entry k r))) × (left ≡ placed slots 0 (slots_of (as_entry k r)))
          go (refused x sl) p q = absurd (not_at (sym p))
          go (read v sl m) p q = let a : end ≡ m = cc in (ap (λ (n : ℕ). Ok (k, n)) a, q)
