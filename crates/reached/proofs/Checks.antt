-- A check that is made of any cookie is in its bounds, and so is none.
use Prim.Native.Nat.{ℕ, zero, suc, ◌+◌, ◌-◌, ◌<◌, ◌≤◌}
use mathlib.Core.Path.{◌≡◌, refl, ap, ◌∙◌}
use mathlib.Core.Logic.{inl, inr}
use mathlib.Core.List.{List, ◌++◌}
use mathlib.Core.Bool.{true}
use native.Mathlib.Omega.{arith}
use borrow.Author.Tests.{leb-true}
use lib.Dec.{leb}
use lib.ListN.{length, get_or, take, replicate, length-append, length-replicate}
use lib.Seq.{take_all, get_or-append-add}
use Rattle.octets.specs.Limits.{cookie_least, cookie_most}
use Rattle.octets.proofs.Small.{both, chosen}
use Rattle.records.specs.Pending.{cookie_sized, no_check, check_of}
use Rattle.reached.specs.WellFormed.{message_ids, CheckBounds}

-- one value in every place, and past them
module _ {A : Type 0} (z : A) where
  all_same : (n i : ℕ) → get_or (replicate n z) i z ≡ z
  all_same zero i = refl
  all_same (suc n) zero = refl
  all_same (suc n) (suc i) = all_same n i

  behind : (xs : List A) (n i : ℕ) → length xs ≤ i → get_or (xs ++ replicate n z) i z ≡ z
  behind xs n i l =
      let at : i ≡ length xs + (i - length xs) = omega arith in
      ap (λ (k : ℕ). get_or (xs ++ replicate n z) k z) at
      ∙ get_or-append-add xs (replicate n z) (i - length xs) z
      ∙ all_same n (i - length xs)

pub none_bounds : CheckBounds no_check
none_bounds =
    record {
      sized = inl refl;
      octets = refl;
      cleared = λ i l. all_same 0 cookie_most i;
      no_id = λ e. refl;
      id = omega arith;
    }

pub check_bounds : (cookie : List ℕ) (id : ℕ) → id < message_ids → CheckBounds (check_of cookie id)
unfolding check_of
check_bounds cookie id l = chosen CheckBounds (cookie_sized n) kept (λ e. none_bounds)
  where
    n : ℕ
    n = length cookie

    kept : cookie_sized n ≡ true
        → CheckBounds (record { length = n; octets = take n cookie ++ replicate (cookie_most - n) 0; id = id })
    kept e =
        let b = both (leb cookie_least n) (leb n cookie_most) e in
        let least = leb-true cookie_least n b.0 in
        let most = leb-true n cookie_most b.1 in
        let whole : take n cookie ≡ cookie = take_all n cookie (omega arith) in
        record {
          sized = inr e;
          octets = rw whole (simp (length-append, length-replicate) (omega arith));
          cleared = λ i h. rw whole (behind 0 cookie (cookie_most - n) i h);
          no_id = λ z. absurd (omega arith);
          id = l;
        }
