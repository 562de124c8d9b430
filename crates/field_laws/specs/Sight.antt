-- Trusted. How much of a buffer has to be in sight for a field to be decided: what comes later then changes nothing
-- (02, E3: "20 cut entry"; a trace is read through a window). Shown in proofs/Sight.antt.
--   longest f   how many octets a value that fits has at most
--   sight f     how many octets decide: a number that is too large for its field still has up to ten
--   Final r     not cut: what a reading comes to whatever follows
use Rattle.std.specs.Prelude.{ℕ, zero, suc, ◌+◌, ◌*◌, ◌≤◌, max, ◌≡◌, List, ◌++◌, length}
use Rattle.octets.specs.Limits.{address_octets}
use Rattle.leb128.specs.Leb128.{octets_of, groups_most}
use Rattle.leb128.specs.RoundTrips.{Octets}
use Rattle.fields.specs.Fields.{Field, up_to, address, string, none, ◌then◌, list_of, string_most, list_most}
use Rattle.fields.specs.Reading.{Reading, read, refused, read_at}
use Rattle.fields.specs.declared.refusal.Refusal.TheVariants.{Cut, UnknownKind, TooLarge}

abbrev pub longest : Field → ℕ
longest (up_to most) = length (octets_of most)
longest address = address_octets
longest string = length (octets_of string_most) + string_most
longest none = 0
longest (f then g) = longest f + longest g
longest (list_of f) = length (octets_of list_most) + list_most * longest f

-- of n items, each of which has at most so many octets, and is decided by so many
abbrev pub items_sight : ℕ → ℕ → ℕ → ℕ
items_sight most decides zero = 0
items_sight most decides (suc n) = max decides (most + items_sight most decides n)

abbrev pub sight : Field → ℕ
sight (up_to most) = groups_most
sight address = address_octets
sight string = max groups_most (length (octets_of string_most) + string_most)
sight none = 0
sight (f then g) = max (sight f) (longest f + sight g)
sight (list_of f) = max groups_most (length (octets_of list_most) + items_sight (longest f) (sight f) list_most)

abbrev pub Final : {A : Type 0} → Reading A → Type 0
Final (read v slots next) = Unit {0}
Final (refused Cut slots) = ⊥
Final (refused UnknownKind slots) = Unit {0}
Final (refused TooLarge slots) = Unit {0}

pub record Decided : Type 0 where
  -- with so much in sight, what comes later changes nothing
  pub in_sight : (f : Field) (s later : List ℕ) (at : ℕ) → Octets (s ++ later) → at + sight f ≤ length s
      → read_at f (s ++ later) at ≡ read_at f s at
  -- and with any octets in sight, what is not cut stays
  pub stays : (f : Field) (s later : List ℕ) (at : ℕ) → Octets (s ++ later) → at ≤ length s → Final (read_at f s at)
      → read_at f (s ++ later) at ≡ read_at f s at
