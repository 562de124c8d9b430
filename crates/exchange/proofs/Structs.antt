-- The address structs that a reading hands out, taken apart as the writer takes them: their families, and their octets.
use Prim.Native.Nat.{ℕ, zero, suc, ◌-◌, ◌≤◌, min}
use mathlib.Core.Path.{◌≡◌, refl, sym, ap, ap₂, ◌∙◌}
use mathlib.Core.List.{List, [], ◌∷◌, ◌++◌, map, zip_with}
use native.Mathlib.Omega.{arith}
use lib.ListN.{length, get_or, take, drop, replicate}
use lib.Seq.{take_at, length-take-le}
use Rattle.octets.specs.Limits.{addresses_most, address_octets}
use Rattle.octets.specs.Lists.{first_only}
use Rattle.octets.proofs.Pad.{length-copied}
use Rattle.octets.proofs.Zip.{length-zip}
use Rattle.address.specs.Address.{address_of, no_address, families_of, octets_of}
use Rattle.address.specs.declared.address.Address.{Address}
use Rattle.findings.specs.declared.seen.Offsets.{Offsets}
use Rattle.values.specs.Values.{address_at, additional_of, addresses_in}

-- a list of sixteen offsets and families
abbrev pub Sixteen : Offsets → Type 0
Sixteen l = (length l.offsets ≡ addresses_most) × (length l.families ≡ addresses_most)

-- what a function makes of the first i elements and of k times z behind them
map-run : {A B : Type 0} (f : A → B) (z : A) (i k : ℕ) (xs : List A) → map f (take i xs ++ replicate k z)
    ≡ take i (map f xs) ++ replicate k (f z)
map-run f z zero zero xs = refl
map-run f z zero (suc k) xs = ap (λ l. f z ∷ l) (map-run f z zero k xs)
map-run f z (suc i) zero [] = refl
map-run f z (suc i) (suc k) [] = ap (λ l. f z ∷ l) (map-run f z (suc i) k [])
map-run f z (suc i) k (x ∷ xs) = ap (λ l. f x ∷ l) (map-run f z i k xs)

-- families and octets joined to structs come out again
families_back : (fs : List ℕ) (os : List (List ℕ)) → length fs ≡ length os → families_of (zip_with address_of fs os) ≡ fs
unfolding zip_with
families_back [] os e = refl
families_back (f ∷ fs) [] e = absurd (omega arith)
families_back (f ∷ fs) (o ∷ os) e = ap (λ l. f ∷ l) (families_back fs os (omega arith))

octets_back : (fs : List ℕ) (os : List (List ℕ)) → length fs ≡ length os → octets_of (zip_with address_of fs os) ≡ os
unfolding zip_with
octets_back [] [] e = refl
octets_back [] (o ∷ os) e = absurd (omega arith)
octets_back (f ∷ fs) [] e = absurd (omega arith)
octets_back (f ∷ fs) (o ∷ os) e = ap (λ l. o ∷ l) (octets_back fs os (omega arith))

-- and are all that a struct has
same_structs : (x y : List Address) → families_of x ≡ families_of y → octets_of x ≡ octets_of y → x ≡ y
same_structs [] [] f o = refl
same_structs [] (b ∷ y) f o = absurd (omega (arith, ap length f))
same_structs (a ∷ x) [] f o = absurd (omega (arith, ap length f))
same_structs (a ∷ x) (b ∷ y) f o =
    ap₂ ◌∷◌ (ap₂ address_of (ap (λ (l : List ℕ). get_or l 0 0) f) (ap (λ (l : List (List ℕ)). get_or l 0 []) o))
    (same_structs x y (ap (λ (l : List ℕ). drop 1 l) f) (ap (λ (l : List (List ℕ)). drop 1 l) o))

pub structs_back : (x l : List Address) (n : ℕ) → families_of x ≡ first_only 0 n (families_of l) → octets_of x
    ≡ first_only (replicate address_octets 0) n (octets_of l)
    → x ≡ first_only no_address n l
structs_back x l n f o =
    same_structs x (first_only no_address n l)
    (f ∙ sym (map-run (λ (a : Address). a.family) no_address n (addresses_most - n) l))
    (o ∙ sym (map-run (λ (a : Address). a.octets) no_address n (addresses_most - n) l))

-- what is cut off once stays as it is
cut_again : {A : Type 0} (z : A) (n : ℕ) (xs : List A) → n ≤ length xs → first_only z n (first_only z n xs)
    ≡ first_only z n xs
cut_again z n xs h = rw (take_at (take n xs) (replicate (addresses_most - n) z) n (length-take-le n xs h))

module _ (body : List ℕ) (l : Offsets) (sized : Sixteen l) where
  abbrev kept : ℕ
  kept = min l.count addresses_most

  abbrev octets : List (List ℕ)
  octets = zip_with (address_at body) l.offsets l.families

  long : length octets ≡ addresses_most
  long = length-zip (address_at body) l.offsets l.families (sized.0 ∙ sym sized.1) ∙ sized.0

  pub octets_sixteen : length (additional_of body l) ≡ addresses_most
  octets_sixteen = length-copied (replicate address_octets 0) octets addresses_most l.count long

  pub families_in : families_of (addresses_in body l) ≡ first_only 0 kept l.families
  families_in =
      rw (map-run, families_back l.families (additional_of body l) (sized.1 ∙ sym octets_sixteen))

  pub octets_in_lem : octets_of (addresses_in body l) ≡ additional_of body l
  octets_in_lem =
      rw (map-run, octets_back l.families (additional_of body l) (sized.1 ∙ sym octets_sixteen))
      (cut_again (replicate address_octets 0) kept octets (omega (arith, long)))
