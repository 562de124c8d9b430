-- How many slots a reading tells: those of its field, or at most those where it is refused. Assumes nothing.
use Prim.Native.Nat.{ℕ, zero, suc, ◌+◌, ◌-◌, ◌*◌, ◌≤◌}
use mathlib.Core.Path.{◌≡◌, refl, sym}
use mathlib.Core.Bool.{Bool, true, false, cond}
use mathlib.Core.List.{List, [], ◌∷◌}
use native.Mathlib.Omega.{arith}
use native.Mathlib.Nat.{suc-mul, zero-mul, mul-le-mul_right}
use borrow.Author.Tests.{ltb-false}
use lib.Dec.{ltb}
use lib.ListN.{length, take, drop, replicate, length-append, length-replicate}
use Rattle.std.specs.Prelude.{Some, None}
use Rattle.octets.specs.Limits.{address_octets}
use Rattle.leb128.specs.Leb128.{Decoded, decoded_at}
use Rattle.fields.specs.Fields.{Field, up_to, address, string, none, ◌then◌, list_of, string_most, list_most}
use Rattle.fields.specs.Reading.{Reading, read, refused, behind, joined, times, limited, part_at, listed, read_at}
use Rattle.fields.specs.Reading.{slots_of}
use Rattle.fields.specs.Slots.{width}
use Rattle.fields.specs.declared.refusal.Refusal.TheVariants.{Cut, TooLarge}

abbrev pub Sized : {A : Type 0} → ℕ → Reading A → Type 0
Sized w (read v slots next) = length slots ≡ w
Sized w (refused why slots) = length slots ≤ w

pub at_most : {A : Type 0} (w : ℕ) (r : Reading A) → Sized w r → length (slots_of r) ≤ w
at_most w (read v slots next) h = omega arith
at_most w (refused why slots) h = h

module _ {A B C : Type 0} (join : A → B → C) where
  behind_sized : (w x : ℕ) (a : A) (slots : List ℕ) (q : Reading B) → length slots ≡ w → Sized x q
      → Sized (w + x) (behind join a slots q)
  behind_sized w x a slots (read b more next) l h = rw (length-append slots more) (omega arith)
  behind_sized w x a slots (refused why more) l h = rw (length-append slots more) (omega arith)

  joined_sized : (w x : ℕ) (r : Reading A) (rest : ℕ → Reading B) → Sized w r → ((n : ℕ) → Sized x (rest n))
      → Sized (w + x) (joined join r rest)
  joined_sized w x (read a slots next) rest l h = behind_sized w x a slots (rest next) l (h next)
  joined_sized w x (refused why slots) rest l h = omega arith

pub times_sized : {A : Type 0} (w : ℕ) (item : ℕ → Reading A) → ((n : ℕ) → Sized w (item n)) → (n at : ℕ)
    → Sized (n * w) (times n item at)
times_sized w item h zero at = sym (zero-mul w)
times_sized w item h (suc n) at =
    let e : w + n * w ≡ suc n * w = rw (suc-mul n w) (omega arith) in
    rw (← e) (joined_sized ◌∷◌ w (n * w) (item at) (times n item) (h at) (times_sized w item h n))

listed_sized : {A : Type 0} (n w : ℕ) (r : Reading (List A)) → n ≤ list_most → Sized (n * w) r
    → Sized (1 + list_most * w) (listed n (list_most * w) r)
listed_sized n w (refused why slots) l h = let m = mul-le-mul_right w l in omega arith
listed_sized n w (read v slots next) l h =
    let m = mul-le-mul_right w l in
    rw (
      length-append slots (replicate {A = ℕ} (list_most * w - length slots) 0),
      length-replicate {A = ℕ} (list_most * w - length slots) 0,
    ) (omega arith)

limited_sized : {A : Type 0} (w most : ℕ) (d : Decoded) (k : ℕ → ℕ → Reading A)
    → ((n m : ℕ) → n ≤ most → Sized w (k n m)) → Sized w (limited most d k)
limited_sized w most None k h = omega arith
limited_sized w most (Some (n, m)) k h = go (ltb most n) refl
  where
    go : (b : Bool) → ltb most n ≡ b → Sized w (cond b (refused TooLarge []) (k n m))
    go true p = omega arith
    go false p = h n m (ltb-false most n p)

part_sized : (n : ℕ) (s : List ℕ) (at : ℕ) (slots : List ℕ) → Sized (length slots) (part_at n s at slots)
part_sized n s at slots = go (ltb (length s - at) n)
  where
    go : (b : Bool) → Sized (length slots) (cond b (refused Cut []) (read (take n (drop at s)) slots (at + n)))
    go true = omega arith
    go false = refl

pub sized : (f : Field) (s : List ℕ) (at : ℕ) → Sized (width f) (read_at f s at)
unfolding read_at
sized (up_to most) s at = limited_sized 1 most (decoded_at s at) (λ v next. read v (v ∷ []) next) (λ n m l. refl)
sized address s at = part_sized address_octets s at (at ∷ [])
sized string s at =
    limited_sized 2 string_most (decoded_at s at) (λ n next. part_at n s next (next ∷ n ∷ []))
    (λ n m l. part_sized n s m (m ∷ n ∷ []))
sized none s at = refl
sized (f then g) s at =
    joined_sized (λ v w. (v, w)) (width f) (width g) (read_at f s at) (read_at g s) (sized f s at) (sized g s)
sized (list_of f) s at =
    limited_sized (1 + list_most * width f) list_most (decoded_at s at)
    (λ n next. listed n (list_most * width f) (times n (read_at f s) next))
    (λ n m l. listed_sized n (width f) (times n (read_at f s) m) l (times_sized (width f) (read_at f s) (sized f s) n m))
