-- The addresses that are asked for, as they stand in the draft.
use Prim.Native.Nat.{ℕ}
use mathlib.Core.Path.{◌≡◌, sym, ◌∙◌}
use mathlib.Core.List.{List}
use lib.ListN.{length, take}
use Rattle.std.proofs.lemmas.List.{take-map}
use Rattle.address.specs.Address.{families_of, octets_of}
use Rattle.address.specs.declared.address.Address.{Address}
use Rattle.asking.specs.Draft.{address_notifies}
use Rattle.putting.proofs.Addresses.{all_taken}

pub asked_taken : (n : ℕ) (xs : List Address)
    → address_notifies (take (length (take n xs)) (families_of (take n xs)))
    (take (length (take n xs)) (octets_of (take n xs)))
    ≡ address_notifies (take n (families_of xs)) (take n (octets_of xs))
asked_taken n xs =
    all_taken (take n xs)
    ∙ sym (rw (take-map (λ (a : Address). a.family) n xs, take-map (λ (a : Address). a.octets) n xs))
