-- Trusted. What a field of a trace is, what its values are, and how they are written (02, E3).
--   Field             one field, fields one behind the other, or a list of what a field says
--   Value f           the values of a field, before any is refused
--   fits f v          whether a value is small enough for its field; else it is refused with 22
--   octets f v        how it is written
--   in_order fs        a table of fields as one field
--
--   up_to m       number                          groups of seven bits, at most m
--   address      16 octets                       bare
--   string       length, octets                  at most 4,096 octets
--   list_of f     count, f, f, ...                at most 16 of them
use Rattle.std.specs.Prelude.{ℕ, ◌-◌, ◌^◌, Bool, true, ◌&&◌, List, [], ◌∷◌, ◌++◌, leb, eqb, length}
use Rattle.octets.specs.Limits.{address_octets}
use Rattle.octets.specs.Lists.{all}
use Rattle.leb128.specs.Leb128.{octets_of}

-- "octet strings by their length (at most 4,096)"
abbrev pub string_most : ℕ
string_most = 4096

-- "lists led by their count (at most 16)"
abbrev pub list_most : ℕ
list_most = 16

infixr 70 ◌then◌
pub data Field : Type 0 where
  -- a number of at most so much
  up_to : ℕ → Field
  address : Field
  string : Field
  none : Field
  ◌then◌ : Field → Field → Field
  list_of : Field → Field

-- a number of so many bits
abbrev pub bits : ℕ → Field
bits n = up_to (2 ^ n - 1)

abbrev pub in_order : List Field → Field
in_order [] = none
in_order (f ∷ fs) = f then in_order fs

abbrev pub Value : Field → Type 0
Value (up_to most) = ℕ
Value address = List ℕ
Value string = List ℕ
Value none = Unit {0}
Value (f then g) = Value f × Value g
Value (list_of f) = List (Value f)

-- "22 number, count or length too large for its field"
unfoldable pub fits : (f : Field) → Value f → Bool
fits (up_to most) v = leb v most
fits address v = eqb (length v) address_octets
fits string v = leb (length v) string_most
fits none v = true
fits (f then g) v = fits f v.0 && fits g v.1
fits (list_of f) v = leb (length v) list_most && all (fits f) v

-- what each of a list gives, one behind the other
abbrev pub each_of : {A : Type 0} → (A → List ℕ) → List A → List ℕ
each_of f [] = []
each_of f (x ∷ xs) = f x ++ each_of f xs

-- "its fields in document 01's order, lists led by their count ..., octet strings by their length ..., addresses bare"
unfoldable pub octets : (f : Field) → Value f → List ℕ
octets (up_to most) v = octets_of v
octets address v = v
octets string v = octets_of (length v) ++ v
octets none v = []
octets (f then g) v = octets f v.0 ++ octets g v.1
octets (list_of f) v = octets_of (length v) ++ each_of (octets f) v
