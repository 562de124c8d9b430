-- The last of the times that a record keeps.
use Prim.Native.Nat.{ℕ, ◌-◌, min}
use mathlib.Core.Path.{◌≡◌, sym}
use mathlib.Core.Bool.{false}
use borrow.Author.Tests.{le-ltb}
use native.Mathlib.Omega.{arith}
use lib.Dec.{ltb}
use lib.ListN.{length, get_or, length-take}
use lib.Seq.{get_or-take}
use Rattle.redirecting.specs.Limits.{redirects_most}
use Rattle.redirecting.specs.Times.{kept, before_last}
use Rattle.redirecting.specs.declared.times.Accepted.{Accepted}

module _ (r : Accepted) where
  -- the places are five
  pub kept_long : (n : ℕ) → length r.times ≡ redirects_most → n ≡ min r.count redirects_most → length (kept r) ≡ n
  kept_long n five e = simp length-take (omega arith)

  pub none_kept : (time : ℕ) → min r.count redirects_most ≡ 0 → false ≡ before_last (kept r) time
  unfolding before_last
  none_kept time e = rw e (sym (le-ltb time 0 (omega arith)))

  pub last_kept : (time n : ℕ) → length r.times ≡ redirects_most → n ≡ min r.count redirects_most → (n ≡ 0 → ⊥)
      → ltb time (get_or r.times (n - 1) 0) ≡ before_last (kept r) time
  unfolding before_last
  last_kept time n five e some =
      rw (kept_long n five e, ← e, get_or-take n r.times (n - 1) 0 (omega arith))
