-- The addresses that are asked for, each by itself and as they stand in the draft.
use Prim.Native.Nat.{ℕ, zero, suc, ◌≤◌}
use mathlib.Core.Path.{◌≡◌, refl, ap, ◌∙◌}
use mathlib.Core.List.{List, [], ◌∷◌}
use mathlib.Core.Bool.{Bool, ◌&&◌}
use native.Mathlib.Omega.{arith}
use lib.ListN.{length, take}
use Rattle.octets.specs.Lists.{all, all_below}
use Rattle.octets.proofs.Same.{first_below}
use Rattle.address.specs.Address.{address_fits, families_of, octets_of}
use Rattle.address.specs.declared.address.Address.{Address}
use Rattle.asking.specs.Fits.{listed_fits}

abbrev pub entry_fits : Address → Bool
entry_fits a = address_fits a.family a.octets

pub listed_all : (n : ℕ) (xs : List Address) → n ≤ length xs
    → all_below (listed_fits (families_of xs) (octets_of xs)) n ≡ all entry_fits (take n xs)
listed_all zero xs h = refl
listed_all (suc n) [] h = absurd (omega arith)
listed_all (suc n) (x ∷ xs) h =
    first_below (listed_fits (families_of (x ∷ xs)) (octets_of (x ∷ xs))) n
    ∙ ap (λ (b : Bool). entry_fits x && b) (listed_all n xs (omega arith))
