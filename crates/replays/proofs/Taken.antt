-- What is taken from the slots of an entry that was read is what its values say. Assumes nothing.
use Prim.Native.Nat.{ℕ, zero, suc, ◌+◌, ◌-◌, ◌%◌, ◌^◌, ◌≤◌, ◌<◌}
use mathlib.Core.Path.{◌≡◌, refl, sym, ◌∙◌, ap}
use mathlib.Core.Bool.{Bool, true, false}
use mathlib.Core.List.{List, ◌++◌}
use native.Mathlib.Omega.{arith}
use native.Mathlib.Nat.{mod-eq_of_lt}
use borrow.Author.Tests.{leb-true, le-leb, ltb-true, ltb-false}
use lib.Dec.{leb, ltb}
use lib.ListN.{length, get_or, take, drop, replicate, length-append, length-drop}
use lib.ListN.{get_or-append, get_or-eq_default}
use lib.Seq.{take-append-le, drop-append-le, get_or-append-add, get_or-drop}
use Rattle.octets.specs.Limits.{address_octets}
use Rattle.octets.proofs.Small.{both}
use Rattle.writing.specs.Notify.{placed}
use Rattle.writing.proofs.Placed.{placed_front}
use Rattle.fields.specs.Fields.{Field, up_to, address, string, ◌then◌, string_most}
use Rattle.fields.specs.Slots.{width, fits_in}
use Rattle.entries.specs.Slots.{entry_slots}
use Rattle.given.specs.Given.{address_in, string_in}
use Rattle.replaying.specs.Turns.{no_slots}

-- ---- the slots are behind one another, and zeros are behind them
zeros : (n i : ℕ) → ◌≡◌ {A = ℕ} (get_or (replicate n 0) i 0) 0
zeros zero i = refl
zeros (suc n) zero = refl
zeros (suc n) (suc i) = zeros n i

abbrev pub lent : List ℕ → List ℕ
lent slots = placed no_slots 0 slots

pub told : (slots : List ℕ) (i : ℕ) → get_or (lent slots) i 0 ≡ get_or slots i 0
told slots i = rw (placed_front no_slots slots) (go (ltb i (length slots)) refl)
  where
    go : (b : Bool) → ltb i (length slots) ≡ b → get_or (slots ++ drop (length slots) no_slots) i 0 ≡ get_or slots i 0
    go true e = get_or-append slots (drop (length slots) no_slots) 0 i (ltb-true i (length slots) e)
    go false e =
        let past : length slots ≤ i = ltb-false i (length slots) e in
        let split : i ≡ length slots + (i - length slots) = omega arith in
        ap (λ (k : ℕ). get_or (slots ++ drop (length slots) no_slots) k 0) split
        ∙ get_or-append-add slots (drop (length slots) no_slots) (i - length slots) 0
        ∙ get_or-drop (length slots) no_slots (i - length slots) 0 ∙ zeros entry_slots (length slots + (i - length slots))
        ∙ sym (get_or-eq_default slots 0 past)

pub then_fits : (f g : Field) (w slots : List ℕ) → fits_in (f then g) w slots ≡ true
    → (fits_in f w slots ≡ true) × (fits_in g w (drop (width f) slots) ≡ true)
unfolding fits_in
then_fits f g w slots h = both (fits_in f w slots) (fits_in g w (drop (width f) slots)) h

-- ---- one field: `there` is the slots from this field's on
module _ (w behind given there : List ℕ) (i : ℕ) (same : get_or given i 0 ≡ get_or there 0 0) where
  pub number_taken : (n most : ℕ) → fits_in (up_to most) w there ≡ true → most < 2 ^ n
      → get_or given i 0 % 2 ^ n ≡ get_or there 0 0
  unfolding fits_in
  number_taken n most h l =
      let few = leb-true (get_or there 0 0) most h in
      rw same (mod-eq_of_lt (omega arith))

  pub address_taken : fits_in address w there ≡ true
      → address_in (w ++ behind) (get_or given i 0) ≡ take address_octets (drop (get_or there 0 0) w)
  unfolding fits_in
  address_taken h =
      let at = get_or there 0 0 in
      let inside = leb-true (at + address_octets) (length w) h in
      let long = length-append w behind in
      let rest : address_octets ≤ length (drop at w) = rw (length-drop at w) (omega arith) in
      let from : at ≤ length w = omega arith in
      rw (
        same,
        le-leb (at + address_octets) (length (w ++ behind)) (omega arith),
        drop-append-le at w behind from,
        take-append-le address_octets (drop at w) behind rest,
      )

  pub string_taken : get_or given (i + 1) 0 ≡ get_or there 1 0 → fits_in string w there ≡ true
      → string_in (w ++ behind) (get_or given i 0) (get_or given (i + 1) 0)
      ≡ take (get_or there 1 0) (drop (get_or there 0 0) w)
  unfolding fits_in
  string_taken more h =
      let at = get_or there 0 0 in
      let size = get_or there 1 0 in
      let parts = both (leb size string_most) (leb (at + size) (length w)) h in
      let inside = leb-true (at + size) (length w) parts.1 in
      let long = length-append w behind in
      let rest : size ≤ length (drop at w) = rw (length-drop at w) (omega arith) in
      let from : at ≤ length w = omega arith in
      rw (
        same,
        more,
        le-leb (at + size) (length (w ++ behind)) (omega arith),
        drop-append-le at w behind from,
        take-append-le size (drop at w) behind rest,
      )
