-- A list read by its count, its items and the slots that are left: what that leaves. Assumes nothing.
use Prim.Native.Nat.{ℕ, zero, suc, ◌+◌, ◌-◌, ◌*◌, ◌≤◌, ◌<◌}
use mathlib.Core.Path.{◌≡◌, refl, sym, ◌∙◌}
use mathlib.Core.List.{List, ◌∷◌, ◌++◌}
use native.Mathlib.Omega.{arith}
use native.Mathlib.Nat.{mul-le-mul_right, suc-mul, zero-mul}
use borrow.Author.Tests.{lt-ltb, le-ltb}
use lib.ListN.{length, set, replicate, length-set, length-replicate}
use Rattle.std.specs.Prelude.{Some, None, Ok, Err}
use Rattle.writing.specs.Notify.{placed}
use Rattle.writing.proofs.Placed.{placed_then}
use Rattle.leb128.specs.Leb128.{decoded_at}
use Rattle.leb128.proofs.Placed.{placed_cons}
use Rattle.fields.specs.Fields.{Field, ◌then◌, list_of, Value, list_most}
use Rattle.fields.specs.Slots.{width}
use Rattle.fields.specs.Reading.{Reading, read, refused, joined, times, listed, read_at, step_of, slots_of}
use Rattle.fields.specs.Codes.{many, ReadsTo}
use Rattle.fields.specs.declared.refusal.Refusal.{Refusal}
use Rattle.fields.specs.declared.refusal.Refusal.TheVariants.{Cut, TooLarge}
use Rattle.fields.proofs.Sized.{Sized, sized, times_sized}
use Rattle.fields.proofs.ReadsTo.{to_refused}
use Rattle.fields.proofs.Run.{behind_step, behind_slots, not_at}

-- ---- two readings of which the same is told
pub record Like {A B : Type 0} (x : Reading A) (y : Reading B) : Type 0 where
  pub step : step_of x ≡ step_of y
  pub slots : slots_of x ≡ slots_of y

pub like_trans : {A B C : Type 0} {x : Reading A} {y : Reading B} {z : Reading C} → Like x y → Like y z → Like x z
like_trans p q = record { step = p.step ∙ q.step; slots = p.slots ∙ q.slots }

module _ {A B B' C C' : Type 0} (join : A → B → C) (join' : A → B' → C') where
  joined_like : (r : Reading A) (k : ℕ → Reading B) (l : ℕ → Reading B') → ((n : ℕ) → Like (k n) (l n))
      → Like (joined join r k) (joined join' r l)
  joined_like (refused why sl) k l h = record { step = refl; slots = refl }
  joined_like (read a sl n) k l h =
      record {
        step = rw (behind_step join a sl (k n), behind_step join' a sl (l n)) (h n).step;
        slots = rw (behind_slots join a sl (k n), behind_slots join' a sl (l n), (h n).slots);
      }

-- the same field so many times
many_like : (s : List ℕ) (f : Field) (n at : ℕ) → Like (read_at (many n f) s at) (times n (read_at f s) at)
unfolding read_at
many_like s f zero at = record { step = refl; slots = refl }
many_like s f (suc n) at =
    joined_like (λ v w. (v, w)) ◌∷◌ (read_at f s at) (read_at (many n f) s) (times n (read_at f s))
    (λ m. many_like s f n m)

pub width_many : (f : Field) (n : ℕ) → width (many n f) ≡ n * width f
width_many f zero = sym (zero-mul (width f))
width_many f (suc n) = rw (width_many f n, suc-mul n (width f)) (omega arith)

-- the item k of n, and the items behind it
pub many_next : (n k : ℕ) (f : Field) → k < n → many (n - k) f ≡ f then many (n - (k + 1)) f
many_next n k f h =
    let e : n - k ≡ suc (n - (k + 1)) = omega arith in
    rw e

-- ---- the list
module _ (s : List ℕ) (at : ℕ) (slots : List ℕ) (slot : ℕ) (f : Field) where
  pub list_bad : decoded_at s at ≡ None → ReadsTo (list_of f) s at slots slot slots (Err Cut)
  unfolding read_at
  list_bad e = to_refused (list_of f) s at slots slot Cut (rw e)

  pub list_large : (n next : ℕ) → decoded_at s at ≡ Some (n, next) → list_most < n
      → ReadsTo (list_of f) s at slots slot slots (Err TooLarge)
  unfolding read_at
  list_large n next e l = to_refused (list_of f) s at slots slot TooLarge (rw (e, lt-ltb list_most n l))

  module _ (n next : ℕ) (e : decoded_at s at ≡ Some (n, next)) (l : n ≤ list_most)
      (room : slot + (1 + list_most * width f) ≤ length slots) where
    items : Reading (List (Value f))
    items = times n (read_at f s) next

    whole : read_at (list_of f) s at ≡ listed n (list_most * width f) items
    unfolding read_at items
    whole = rw (e, le-ltb list_most n l)

    alike : Like (read_at (many n f) s next) items
    unfolding items
    alike = many_like s f n next

    pub list_refused : (left : List ℕ) (why : Refusal)
        → ReadsTo (many n f) s next (set slots slot n) (slot + 1) left (Err why)
        → ReadsTo (list_of f) s at slots slot left (Err why)
    list_refused left why t =
        let q = go items (t.step ∙ alike.step) (t.told ∙ rw alike.slots) in
        record { step = rw whole q.0; told = rw whole q.1; within = tt }
      where
        go : (r : Reading (List (Value f))) → Err why ≡ step_of r
            → left ≡ placed (set slots slot n) (slot + 1) (slots_of r)
            → let q = listed n (list_most * width f) r in
            (Err why ≡ step_of q) × (left ≡ placed slots slot (slots_of q))
        go (refused x sl) p q = (p, q ∙ placed_cons slots slot n sl (omega arith))
        go (read v sl m) p q = absurd (not_at p)

    pub list_read : (mid left : List ℕ) (end from to : ℕ) → from ≡ slot + 1 + n * width f
        → to ≡ slot + 1 + list_most * width f
        → ReadsTo (many n f) s next (set slots slot n) (slot + 1) mid (Ok end)
        → left ≡ placed mid from (replicate (to - from) 0)
        → ReadsTo (list_of f) s at slots slot left (Ok end)
    unfolding items
    list_read mid left end from to begins o t z =
        let q = go items (sizes) (t.step ∙ alike.step) (t.told ∙ rw alike.slots) in
        record { step = rw whole q.0; told = rw whole q.1; within = t.within }
      where
        sizes : Sized (n * width f) items
        sizes = times_sized (width f) (read_at f s) (sized f s) n next

        go : (r : Reading (List (Value f))) → Sized (n * width f) r → Ok end ≡ step_of r
            → mid ≡ placed (set slots slot n) (slot + 1) (slots_of r)
            → let q = listed n (list_most * width f) r in
            (Ok end ≡ step_of q) × (left ≡ placed slots slot (slots_of q))
        go (refused x sl) k p q = absurd (not_at (sym p))
        go (read v sl m) k p q =
            let zeros : List ℕ = replicate (list_most * width f - length sl) 0 in
            let c : to - from ≡ list_most * width f - length sl = omega arith in
            let j = mul-le-mul_right (width f) l in
            let len = length-replicate {A = ℕ} (list_most * width f - length sl) 0 in (
              p,
              placed_then (set slots slot n) mid left (slot + 1) from sl zeros
                  (rw (length-set slots slot n) (omega arith))
                  q (omega arith) (z ∙ rw c)
                  ∙ placed_cons slots slot n (sl ++ zeros) (omega arith),
            )
