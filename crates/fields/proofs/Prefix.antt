-- Slots that fit tell the same with more behind them, and tell a value that fits. Assumes nothing.
use Prim.Native.Nat.{ℕ, zero, suc, ◌+◌, ◌*◌, ◌≤◌}
use mathlib.Core.Path.{◌≡◌, refl, ap}
use mathlib.Core.Bool.{Bool, true}
use mathlib.Core.List.{List, ◌++◌}
use native.Mathlib.Omega.{arith}
use native.Mathlib.Nat.{suc-mul, mul-le-mul_right}
use borrow.Author.Tests.{leb-true, eq-eqb}
use lib.Dec.{leb}
use lib.ListN.{length, get_or, take, drop, length-drop, get_or-append}
use lib.Seq.{drop-append-le, length-take-le}
use Rattle.octets.specs.Limits.{address_octets}
use Rattle.octets.specs.Lists.{all}
use Rattle.octets.proofs.Small.{both, and_true}
use Rattle.fields.specs.Fields.{Field, up_to, address, string, none, ◌then◌, list_of, fits, string_most}
use Rattle.fields.specs.Fields.{list_most}
use Rattle.fields.specs.Slots.{width, items_in, all_in, value_in, fits_in}

-- ---- more slots behind
pub record Same {A : Type 0} (value : List ℕ → A) (fit : List ℕ → Bool) (slots more : List ℕ) : Type 0 where
  pub value_same : value (slots ++ more) ≡ value slots
  pub fit_same : fit (slots ++ more) ≡ true

module _ {A : Type 0} (w : ℕ) (value : List ℕ → A) (fit : List ℕ → Bool) (more : List ℕ)
    (one : (slots : List ℕ) → fit slots ≡ true → w ≤ length slots → Same value fit slots more) where
  pub items_same : (n : ℕ) (slots : List ℕ) → all_in n w fit slots ≡ true → n * w ≤ length slots
      → Same (items_in n w value) (all_in n w fit) slots more
  items_same zero slots h l = record { value_same = refl; fit_same = refl }
  items_same (suc n) slots h l =
      let b = both (fit slots) (all_in n w fit (drop w slots)) h in
      let m = rw (suc-mul n w) at l in
      let p = one slots b.0 (omega arith) in
      let q = items_same n (drop w slots) b.1 (simp length-drop (omega arith)) in
      let d = drop-append-le w slots more (omega arith) in
      record {
        value_same = rw (d, p.value_same, q.value_same);
        fit_same = rw d (and_true p.fit_same q.fit_same);
      }

pub same : (f : Field) (s slots more : List ℕ) → fits_in f s slots ≡ true → width f ≤ length slots
    → Same (value_in f s) (fits_in f s) slots more
unfolding value_in fits_in
same (up_to most) s slots more h l =
    let e = get_or-append slots more 0 0 (omega arith) in
    record { value_same = rw e; fit_same = rw e h }
same address s slots more h l =
    let e = get_or-append slots more 0 0 (omega arith) in
    record { value_same = rw e; fit_same = rw e h }
same string s slots more h l =
    let e = get_or-append slots more 0 0 (omega arith) in
    let d = get_or-append slots more 0 1 (omega arith) in
    record { value_same = rw (e, d); fit_same = rw (e, d) h }
same none s slots more h l = record { value_same = refl; fit_same = refl }
same (f then g) s slots more h l =
    let b = both (fits_in f s slots) (fits_in g s (drop (width f) slots)) h in
    let p = same f s slots more b.0 (omega arith) in
    let q = same g s (drop (width f) slots) more b.1 (simp length-drop (omega arith)) in
    let d = drop-append-le (width f) slots more (omega arith) in
    record {
      value_same = rw (d, p.value_same, q.value_same);
      fit_same = rw d (and_true p.fit_same q.fit_same);
    }
same (list_of f) s slots more h l =
    let n = get_or slots 0 0 in
    let b = both (leb n list_most) (all_in n (width f) (fits_in f s) (drop 1 slots)) h in
    let e = get_or-append slots more 0 0 (omega arith) in
    let d = drop-append-le 1 slots more (omega arith) in
    let m = mul-le-mul_right (width f) (leb-true n list_most b.0) in
    let q = items_same (width f) (value_in f s) (fits_in f s) more (λ sl k j. same f s sl more k j) n (drop 1 slots)
    b.1 (simp length-drop (omega arith)) in
    record { value_same = rw (e, d, q.value_same); fit_same = rw (e, d) (and_true b.0 q.fit_same) }

-- ---- slots that fit tell a value that fits
items_fit : {A : Type 0} (w : ℕ) (value : List ℕ → A) (fit : List ℕ → Bool) (ok : A → Bool)
    → ((slots : List ℕ) → fit slots ≡ true → ok (value slots) ≡ true)
    → (n : ℕ) (slots : List ℕ) → all_in n w fit slots ≡ true
    → (all ok (items_in n w value slots) ≡ true) × (length (items_in n w value slots) ≡ n)
items_fit w value fit ok one zero slots h = (refl, refl)
items_fit w value fit ok one (suc n) slots h =
    let b = both (fit slots) (all_in n w fit (drop w slots)) h in
    let q = items_fit w value fit ok one n (drop w slots) b.1 in
    (and_true (one slots b.0) q.0, ap suc q.1)

-- a part that lies within the buffer has the length that is told
pub part_length : (s : List ℕ) (at n : ℕ) → at + n ≤ length s → length (take n (drop at s)) ≡ n
part_length s at n h = length-take-le n (drop at s) (simp length-drop (omega arith))

pub told_fits : (f : Field) (s slots : List ℕ) → fits_in f s slots ≡ true → fits f (value_in f s slots) ≡ true
unfolding value_in fits_in fits
told_fits (up_to most) s slots h = h
told_fits address s slots h =
    eq-eqb _ _ (part_length s (get_or slots 0 0) address_octets (leb-true (get_or slots 0 0 + address_octets) (length s) h))
told_fits string s slots h =
    let n = get_or slots 1 0 in
    let at = get_or slots 0 0 in
    let b = both (leb n string_most) (leb (at + n) (length s)) h in
    rw (part_length s at n (leb-true (at + n) (length s) b.1)) b.0
told_fits none s slots h = refl
told_fits (f then g) s slots h =
    let b = both (fits_in f s slots) (fits_in g s (drop (width f) slots)) h in
    and_true (told_fits f s slots b.0) (told_fits g s (drop (width f) slots) b.1)
told_fits (list_of f) s slots h =
    let n = get_or slots 0 0 in
    let b = both (leb n list_most) (all_in n (width f) (fits_in f s) (drop 1 slots)) h in
    let q = items_fit (width f) (value_in f s) (fits_in f s) (fits f) (λ sl k. told_fits f s sl k) n (drop 1 slots)
    b.1 in
    let c : leb (length (items_in n (width f) (value_in f s) (drop 1 slots))) list_most ≡ true = rw q.1 b.0 in
    and_true c q.0
