-- Octets in hex, one by one, and how many digits there are. Assumes nothing.
use Prim.Native.Nat.{ℕ, ◌+◌, ◌*◌, ◌/◌, ◌%◌, ◌≤◌, ◌<◌}
use mathlib.Core.Path.{◌≡◌, refl, ◌∙◌}
use mathlib.Core.List.{List, [], ◌∷◌, ◌++◌, append_assoc}
use native.Mathlib.Omega.{arith}
use native.Mathlib.Numerals.{add-one}
use lib.ListN.{length, get_or, set, take, length-append}
use lib.Seq.{take-suc, length-take-le}
use Rattle.writing.specs.Notify.{placed}
use Rattle.wording.specs.Text.{hex, hex_digit}
use Rattle.wording.proofs.Placed.{placed_behind}

pub length-hex : (os : List ℕ) → length (hex os) ≡ 2 * length os
unfolding hex
length-hex [] = refl
length-hex (o ∷ os) = let ih = length-hex os in omega arith

pub hex_append : (a b : List ℕ) → hex (a ++ b) ≡ hex a ++ hex b
unfolding hex
hex_append [] b = refl
hex_append (o ∷ a) b = rw (hex_append a b)

hex_one : (o : ℕ) → hex (o ∷ []) ≡ hex_digit (o / 16) ∷ hex_digit (o % 16) ∷ []
unfolding hex
hex_one o = refl

pub hex_none : hex [] ≡ []
unfolding hex
hex_none = refl

-- one octet more: its two digits, stored behind those before them
pub hex_next : (out₀ : List ℕ) (at : ℕ) (octets : List ℕ) (i : ℕ) (out : List ℕ) (to x y : ℕ)
    → at + 2 * length octets ≤ length out₀ → i < length octets → to ≡ at + 2 * i
    → out ≡ placed out₀ at (hex (take i octets)) → x ≡ hex_digit (get_or octets i 0 / 16)
    → y ≡ hex_digit (get_or octets i 0 % 16) → set (set out to x) (to + 1) y ≡ placed out₀ at (hex (take (i + 1) octets))
hex_next out₀ at octets i out to x y fits h p e a b =
    let o = get_or octets i 0 in
    let s = hex (take i octets) in
    let l : length s ≡ 2 * i = length-hex (take i octets) ∙ rw (length-take-le i octets (omega arith)) in
    let m : length (s ++ (x ∷ [])) ≡ 2 * i + 1 = rw (length-append s (x ∷ [])) (omega arith) in
    let f = placed_behind out₀ out at to x s e (omega arith) (omega arith) in
    let g = placed_behind out₀ (set out to x) at (to + 1) y (s ++ (x ∷ [])) f (omega arith) (omega arith) in
    g ∙ rw (add-one i, take-suc octets i 0 h, hex_append (take i octets) (o ∷ []), a, b, append_assoc, hex_one)
