-- Trusted. What reading a field at an offset of a buffer comes to (02, E3).
--   read_at f s at          reading the field f at the offset `at` of the buffer s
--   read v slots next      the value, what the reader tells of it in numbers (Slots.antt), and the offset after it
--   refused why slots      Cut (20) or TooLarge (22), and what was told of the fields before
--   step_of, slots_of        what is told of a reading: the offset after it or why it is refused, and the slots
-- Order of the checks: a number, length or count: 20, then 22; then the octets or the items behind it: 20.
use Rattle.std.specs.Prelude.{ℕ, zero, suc, ◌+◌, ◌-◌, ◌*◌, cond, List, [], ◌∷◌, ◌++◌, ltb, length, take, drop, replicate, Some, None, Result, Ok, Err}
use Rattle.octets.specs.Limits.{address_octets}
use Rattle.leb128.specs.Leb128.{Decoded, decoded_at}
use Rattle.fields.specs.Fields.{Field, up_to, address, string, none, ◌then◌, list_of, Value, string_most, list_most}
use Rattle.fields.specs.Slots.{width}
use Rattle.fields.specs.declared.refusal.Refusal.{Refusal}
use Rattle.fields.specs.declared.refusal.Refusal.TheVariants.{Cut, TooLarge}

pub data Reading (A : Type 0) : Type 0 where
  read : A → List ℕ → ℕ → Reading A
  refused : Refusal → List ℕ → Reading A

-- ---- one part behind the other

module _ {A B C : Type 0} (join : A → B → C) where
  abbrev pub behind : A → List ℕ → Reading B → Reading C
  behind a slots (read b more next) = read (join a b) (slots ++ more) next
  behind a slots (refused why more) = refused why (slots ++ more)

  abbrev pub joined : Reading A → (ℕ → Reading B) → Reading C
  joined (refused why slots) rest = refused why slots
  joined (read a slots next) rest = behind a slots (rest next)

-- so many, one behind the other
abbrev pub times : {A : Type 0} → ℕ → (ℕ → Reading A) → ℕ → Reading (List A)
times zero item at = read [] [] at
times (suc n) item at = joined ◌∷◌ (item at) (times n item)

-- ---- one field

-- "20 ... number not shortest or past 64 bits", "22 number ... too large for its field"
abbrev pub limited : {A : Type 0} → ℕ → Decoded → (ℕ → ℕ → Reading A) → Reading A
limited most None k = refused Cut []
limited most (Some (v, next)) k = cond (ltb most v) (refused TooLarge []) (k v next)

-- so many octets. "20 cut entry"
abbrev pub part_at : ℕ → List ℕ → ℕ → List ℕ → Reading (List ℕ)
part_at n s at slots = cond (ltb (length s - at) n) (refused Cut []) (read (take n (drop at s)) slots (at + n))

-- a list's count, its items, and 0 for the items that it could have more
abbrev pub listed : {A : Type 0} → ℕ → ℕ → Reading (List A) → Reading (List A)
listed n room (refused why slots) = refused why (n ∷ slots)
listed n room (read v slots next) = read v (n ∷ (slots ++ replicate (room - length slots) 0)) next

unfoldable pub read_at : (f : Field) → List ℕ → ℕ → Reading (Value f)
read_at (up_to most) s at = limited most (decoded_at s at) (λ v next. read v (v ∷ []) next)
read_at address s at = part_at address_octets s at (at ∷ [])
read_at string s at = limited string_most (decoded_at s at) (λ n next. part_at n s next (next ∷ n ∷ []))
read_at none s at = read tt [] at
read_at (f then g) s at = joined (λ v w. (v, w)) (read_at f s at) (read_at g s)
read_at (list_of f) s at =
    limited list_most (decoded_at s at) (λ n next. listed n (list_most * width f) (times n (read_at f s) next))

-- ---- what is told
abbrev pub step_of : {A : Type 0} → Reading A → Result ℕ Refusal
step_of (read v slots next) = Ok next
step_of (refused why slots) = Err why

abbrev pub slots_of : {A : Type 0} → Reading A → List ℕ
slots_of (read v slots next) = slots
slots_of (refused why slots) = slots
