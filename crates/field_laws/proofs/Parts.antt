-- What a reading that came to an end was made of: parts one behind the other, a number within its limit, octets in the
-- buffer.
-- Assumes nothing.
use Prim.Native.Nat.{ℕ, ◌+◌, ◌-◌, ◌≤◌}
use mathlib.Core.Path.{◌≡◌, refl, sym, ◌∙◌, ap}
use mathlib.Core.Bool.{Bool, true, false, cond}
use mathlib.Core.List.{List, [], ◌∷◌, ◌++◌}
use native.Mathlib.Omega.{arith}
use borrow.Author.Tests.{ltb-false}
use lib.Dec.{ltb}
use lib.ListN.{length, take, drop, replicate}
use lib.Seq.{drop-drop, drop-append_seam, get_or-drop}
use Rattle.std.specs.Prelude.{Some, None}
use Rattle.leb128.specs.RoundTrips.{Octets}
use Rattle.leb128.specs.Leb128.{Decoded}
use Rattle.fields.specs.Reading.{Reading, read, refused, behind, joined, limited, part_at, listed}
use Rattle.fields.specs.declared.refusal.Refusal.{Refusal}
use Rattle.fields.specs.declared.refusal.Refusal.TheVariants.{Cut, TooLarge}

pub not_read : {A : Type 0} {why : Refusal} {slots more : List ℕ} {v : A} {next : ℕ}
    → ◌≡◌ {A = Reading A} (refused why slots) (read v more next) → ⊥
not_read e = let z : ◌≡◌ {A = ℕ} 0 1 = cc in omega arith

-- ---- places
pub tail_octets : (s : List ℕ) (at : ℕ) → Octets s → Octets (drop at s)
tail_octets s at o i = rw (get_or-drop at s i 0) (o (at + i))

pub moved : (s : List ℕ) (at : ℕ) (a rest : List ℕ) → drop at s ≡ a ++ rest → drop (at + length a) s ≡ rest
moved s at a rest e = sym (drop-drop (length a) at s) ∙ ap (drop (length a)) e ∙ drop-append_seam a rest

-- ---- one behind the other
pub record Both {A B C : Type 0} (join : A → B → C) (r : Reading A) (rest : ℕ → Reading B) (v : C) (slots : List ℕ)
    (next : ℕ) : Type 0 where
  pub a : A
  pub a_slots : List ℕ
  pub mid : ℕ
  pub b : B
  pub b_slots : List ℕ
  pub first : r ≡ read a a_slots mid
  pub second : rest mid ≡ read b b_slots next
  pub value : join a b ≡ v
  pub all : a_slots ++ b_slots ≡ slots

module _ {A B C : Type 0} (join : A → B → C) where
  behind_is : (a : A) (sl : List ℕ) (mid : ℕ) (rest : ℕ → Reading B) (q : Reading B) → rest mid ≡ q
      → (v : C) (slots : List ℕ) (next : ℕ)
      → behind join a sl q ≡ read v slots next → Both join (read a sl mid) rest v slots next
  behind_is a sl mid rest (read b more end) p v slots next e =
      record {
        a = a;
        a_slots = sl;
        mid = mid;
        b = b;
        b_slots = more;
        first = refl;
        second = p ∙ cc;
        value = cc;
        all =
            cc;
      }
  behind_is a sl mid rest (refused why more) p v slots next e = absurd (not_read e)

  pub joined_is : (r : Reading A) (rest : ℕ → Reading B) (v : C) (slots : List ℕ) (next : ℕ)
      → joined join r rest ≡ read v slots next → Both join r rest v slots next
  joined_is (read a sl mid) rest v slots next e = behind_is a sl mid rest (rest mid) refl v slots next e
  joined_is (refused why sl) rest v slots next e = absurd (not_read e)

-- ---- a number within its limit
pub record Limited {A : Type 0} (most : ℕ) (d : Decoded) (k : ℕ → ℕ → Reading A) (r : Reading A) : Type 0 where
  pub n : ℕ
  pub after : ℕ
  pub number : d ≡ Some (n, after)
  pub small : n ≤ most
  pub rest : k n after ≡ r

pub limited_is : {A : Type 0} (most : ℕ) (d : Decoded) (k : ℕ → ℕ → Reading A) (v : A) (slots : List ℕ) (next : ℕ)
    → limited most d k ≡ read v slots next → Limited most d k (read v slots next)
limited_is most None k v slots next e = absurd (not_read e)
limited_is {A} most (Some (n, m)) k v slots next e = go (ltb most n) refl e
  where
    go : (b : Bool) → ltb most n ≡ b → cond b (refused TooLarge []) (k n m) ≡ read v slots next
        → Limited most (Some (n, m)) k (read v slots next)
    go true p q = absurd (not_read q)
    go false p q = record { n = n; after = m; number = refl; small = ltb-false most n p; rest = q }

-- ---- octets in the buffer
pub record Part (n : ℕ) (s : List ℕ) (at : ℕ) (told v slots : List ℕ) (next : ℕ) : Type 0 where
  pub room : n ≤ length s - at
  pub taken : take n (drop at s) ≡ v
  pub same : told ≡ slots
  pub end : at + n ≡ next

pub part_is : (n : ℕ) (s : List ℕ) (at : ℕ) (told v slots : List ℕ) (next : ℕ) → part_at n s at told ≡ read v slots next
    → Part n s at told v slots next
part_is n s at told v slots next e = go (ltb (length s - at) n) refl e
  where
    go : (b : Bool) → ltb (length s - at) n ≡ b
        → cond b (refused Cut []) (read (take n (drop at s)) told (at + n)) ≡ read v slots next
        → Part n s at told v slots next
    go true p q = absurd (not_read q)
    go false p q = record { room = ltb-false (length s - at) n p; taken = cc; same = cc; end = cc }

-- ---- a list
pub record Listed {A : Type 0} (n room : ℕ) (r : Reading A) (v : A) (slots : List ℕ) (next : ℕ) : Type 0 where
  pub items : List ℕ
  pub was : r ≡ read v items next
  pub all : n ∷ (items ++ replicate (room - length items) 0) ≡ slots

pub listed_is : {A : Type 0} (n room : ℕ) (r : Reading (List A)) (v : List A) (slots : List ℕ) (next : ℕ)
    → listed n room r ≡ read v slots next → Listed n room r v slots next
listed_is n room (refused why sl) v slots next e = absurd (not_read e)
listed_is n room (read w sl m) v slots next e = record { items = sl; was = cc; all = cc }
