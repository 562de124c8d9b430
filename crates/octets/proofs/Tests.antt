-- A test over a list, one element at a time: what is left to test decides.
use Prim.Native.Nat.{ℕ, ◌+◌, ◌<◌, ◌≤◌, min}
use mathlib.Core.Path.{◌≡◌}
use mathlib.Core.List.{List}
use mathlib.Core.Bool.{Bool, true, false, ◌&&◌, ◌||◌}
use native.Mathlib.Omega.{arith}
use native.Mathlib.Numerals.{add-one}
use lib.ListN.{length, get_or, take, drop, drop_of_length-le, length-take}
use lib.Seq.{drop-cons, get_or-take}
use Rattle.octets.specs.Lists.{all, any}

module _ {A : Type 0} (f : A → Bool) (xs : List A) (i : ℕ) (d : A) (h : i < length xs) where
  pub all_step : all f (drop i xs) ≡ f (get_or xs i d) && all f (drop (i + 1) xs)
  all_step = rw (drop-cons xs i d h, add-one)

  pub any_step : any f (drop i xs) ≡ f (get_or xs i d) || any f (drop (i + 1) xs)
  any_step = rw (drop-cons xs i d h, add-one)

module _ {A : Type 0} (f : A → Bool) (xs : List A) (i : ℕ) (h : length xs ≤ i) where
  pub all_end : all f (drop i xs) ≡ true
  all_end = rw (drop_of_length-le xs h)

  pub any_end : any f (drop i xs) ≡ false
  any_end = rw (drop_of_length-le xs h)

-- The same over the first n elements.
module _ {A : Type 0} (f : A → Bool) (xs : List A) (n i : ℕ) (d : A) (below : i < n) (inside : i < length xs) where
  in_front : i < length (take n xs)
  in_front = simp length-take (omega arith)

  pub front_all_step : all f (drop i (take n xs)) ≡ f (get_or xs i d) && all f (drop (i + 1) (take n xs))
  front_all_step = rw (← get_or-take n xs i d below) (all_step f (take n xs) i d in_front)

  pub front_any_step : any f (drop i (take n xs)) ≡ f (get_or xs i d) || any f (drop (i + 1) (take n xs))
  front_any_step = rw (← get_or-take n xs i d below) (any_step f (take n xs) i d in_front)

module _ {A : Type 0} (f : A → Bool) (xs : List A) (n i : ℕ) (past : min n (length xs) ≤ i) where
  pub front_all_end : all f (drop i (take n xs)) ≡ true
  front_all_end = all_end f (take n xs) i (simp length-take past)

  pub front_any_end : any f (drop i (take n xs)) ≡ false
  front_any_end = any_end f (take n xs) i (simp length-take past)
