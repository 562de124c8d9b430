-- What a lookup finds after an opening or a closing.
use Prim.Native.Nat.{ℕ, ◌<◌, ◌≤◌}
use mathlib.Core.Path.{◌≡◌, refl, sym, ◌∙◌}
use mathlib.Core.List.{List}
use native.Mathlib.Omega.{arith}
use lib.ListN.{length, set}
use Rattle.octets.specs.Lists.{place_of}
use Rattle.octets.proofs.Places.{place_has, store_other, store_found}

-- Of either table: the key tells an IKE record from an IPsec record.
module _ {A : Type 0} (key : A → ℕ) (d : A) (xs : List A) where
  -- a new key is found where it was stored
  pub finds_opened : (y : A) → place_of key 0 xs < length xs → length xs ≤ place_of key (key y) xs
      → place_of key (key y) (set xs (place_of key 0 xs) y) ≡ place_of key 0 xs
  finds_opened y room new = store_found key (key y) y xs (place_of key 0 xs) room (omega arith) refl

  -- opening changes no other lookup
  pub others_opened : (y : A) (k : ℕ) → place_of key 0 xs < length xs → (k ≡ 0 → ⊥) → (key y ≡ k → ⊥)
      → place_of key k (set xs (place_of key 0 xs) y) ≡ place_of key k xs
  others_opened y k room n m =
      store_other key k y xs (place_of key 0 xs) d room (λ e. n (sym e ∙ place_has key 0 xs d room)) m

  -- closing changes no other lookup
  pub others_closed : (k : ℕ) (y : A) → place_of key k xs < length xs → key y ≡ 0 → (l : ℕ) → (l ≡ 0 → ⊥)
      → (k ≡ l → ⊥) → place_of key l (set xs (place_of key k xs) y) ≡ place_of key l xs
  others_closed k y there closed l n m =
      store_other key l y xs (place_of key k xs) d there (λ e. m (sym (place_has key k xs d there) ∙ e))
      (λ e. n (sym e ∙ closed))
