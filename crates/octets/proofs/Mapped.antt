-- Lists of what a function makes of each element: their length, and a loop that stores them.
use Prim.Native.Nat.{ℕ, ◌+◌, ◌<◌}
use mathlib.Core.Path.{◌≡◌, sym, ◌∙◌}
use mathlib.Core.List.{List, map}
use native.Mathlib.Omega.{arith}
use lib.ListN.{length, get_or, set, length-map, get_or-map}
use lib.Seq.{take_all}
use Rattle.octets.proofs.Pad.{copied, stored, copied_all}

-- what the prover says of an array of structs in a field
pub unmapped : {A B : Type 0} (f : A → B) (l : List A) (n : ℕ) → length (map f l) ≡ n → length l ≡ n
unmapped f l n e = sym (length-map l f) ∙ e

-- The loop's `out` begins as n times z, and holds the first i of what f makes of xs.
module _ {A C : Type 0} (f : A → C) (z : C) (xs : List A) (n : ℕ) where
  abbrev pub mapped : ℕ → List C
  mapped i = copied z (map f xs) n i

  module _ (long : length xs ≡ n) where
    pub maps_one : (out : List C) (i : ℕ) (a : A) → i < n → out ≡ mapped i
        → set out i (f (get_or xs i a)) ≡ mapped (i + 1)
    maps_one out i a h e =
        rw (e, ← get_or-map f xs i a) (stored z (map f xs) n i (omega (arith, long, length-map xs f)) h (f a))

    pub maps_all : (out : List C) (i : ℕ) → i ≡ n → out ≡ mapped i → out ≡ map f xs
    maps_all out i h e =
        e ∙ copied_all z (map f xs) n i h ∙ take_all n (map f xs) (omega (arith, long, length-map xs f))
