-- Trusted. What a reader tells of a field, and a writer is told, in numbers: a slot for a number, for the offset of an
-- address in the lent buffer, for the offset and the length of a string, for a list's count and then for each of its 16
-- places.
--   width f            how many slots a field has
--   value_in f s slots  the value that the slots tell, s being the lent buffer
--   fits_in f s slots   whether it fits its field, and lies within the lent buffer
use Rattle.std.specs.Prelude.{ℕ, zero, suc, ◌+◌, ◌*◌, Bool, true, ◌&&◌, List, [], ◌∷◌, leb, length, get_or, take, drop}
use Rattle.octets.specs.Limits.{address_octets}
use Rattle.fields.specs.Fields.{Field, up_to, address, string, none, ◌then◌, list_of, Value, string_most, list_most}

abbrev pub width : Field → ℕ
width (up_to most) = 1
width address = 1
width string = 2
width none = 0
width (f then g) = width f + width g
width (list_of f) = 1 + list_most * width f

-- of so many items, each with so many slots
abbrev pub items_in : {A : Type 0} → ℕ → ℕ → (List ℕ → A) → List ℕ → List A
items_in zero w item slots = []
items_in (suc n) w item slots = item slots ∷ items_in n w item (drop w slots)

abbrev pub all_in : ℕ → ℕ → (List ℕ → Bool) → List ℕ → Bool
all_in zero w item slots = true
all_in (suc n) w item slots = item slots && all_in n w item (drop w slots)

unfoldable pub value_in : (f : Field) → List ℕ → List ℕ → Value f
value_in (up_to most) s slots = get_or slots 0 0
value_in address s slots = take address_octets (drop (get_or slots 0 0) s)
value_in string s slots = take (get_or slots 1 0) (drop (get_or slots 0 0) s)
value_in none s slots = tt
value_in (f then g) s slots = (value_in f s slots, value_in g s (drop (width f) slots))
value_in (list_of f) s slots = items_in (get_or slots 0 0) (width f) (value_in f s) (drop 1 slots)

unfoldable pub fits_in : Field → List ℕ → List ℕ → Bool
fits_in (up_to most) s slots = leb (get_or slots 0 0) most
fits_in address s slots = leb (get_or slots 0 0 + address_octets) (length s)
fits_in string s slots = leb (get_or slots 1 0) string_most && leb (get_or slots 0 0 + get_or slots 1 0) (length s)
fits_in none s slots = true
fits_in (f then g) s slots = fits_in f s slots && fits_in g s (drop (width f) slots)
fits_in (list_of f) s slots =
    leb (get_or slots 0 0) list_most && all_in (get_or slots 0 0) (width f) (fits_in f s) (drop 1 slots)
