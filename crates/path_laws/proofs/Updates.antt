-- What a round trip makes of a path whose numbers are from 0 to 60,000: again such a path. Assumes nothing.
use Prim.Native.Nat.{ℕ, ◌*◌, ◌≤◌}
use mathlib.Core.Path.{◌≡◌}
use mathlib.Core.Bool.{true, false}
use native.Mathlib.Nat.{le_of_lt, mul-one}
use borrow.Author.Tests.{ltb-true, le-ltb}
use lib.Dec.{lit<, lit≤}
use lib.IntN.{negsuc}
use lib.Pow.{pow_pos}
use lib.Ieee.{Float, binary64, lt, of_int, up, down}
use Rattle.octets.proofs.Small.{chosen}
use Rattle.paths.specs.Limits.{milliseconds_most}
use Rattle.paths.specs.Update.{millis, deviation_of, next_smoothed, next_spread, sampled_path, new_path}
use Rattle.paths.specs.declared.path.Path.{Path}
use Rattle.path_laws.proofs.Within.{Within, within, round_within}
use Rattle.path_laws.proofs.Operations.{sum_within, product_within, half_within, difference_within}

-- what a path's numbers are held to
abbrev pub Timed : Float → Type 0
Timed x = Within milliseconds_most x

pub record Kept (p : Path) : Type 0 where
  pub smoothed : Timed p.smoothed
  pub spread : Timed p.spread

millis_timed : (n : ℕ) → n ≤ milliseconds_most → Timed (millis n)
unfolding of_int
millis_timed n h = round_within binary64 milliseconds_most n 1 (lit< tt) (pow_pos 0) (rw mul-one h)

pub new_kept : Kept new_path
new_kept = record { smoothed = within (lit≤ tt); spread = within (lit≤ tt) }

-- of two, not each is below the other
not_above : {B C : ℕ} {x y : Float} → Within B x → Within C y → lt x y ≡ true → lt y x ≡ false
unfolding lt
not_above (within {m = m} {e = e} h) (within {m = n} {e = d} k) l =
    let a = m * up e * down d in
    let b = n * up d * down e in
    le-ltb b a (le_of_lt (ltb-true a b l))

module _ {x r : Float} (before : Timed x) (now : Timed r) where
  deviation_timed : Timed (deviation_of x r)
  deviation_timed =
      chosen Timed (lt r x) (λ l. difference_within binary64 (lit< tt) (not_above now before l) before now)
      (λ l. difference_within binary64 (lit< tt) l now before)

  -- 52,500 and 7,500
  smoothed_timed : Timed (next_smoothed x r)
  smoothed_timed =
      sum_within binary64 (lit< tt) (product_within binary64 7 (negsuc 2) 52500 (lit< tt) (lit≤ tt) before)
      (product_within binary64 1 (negsuc 2) 7500 (lit< tt) (lit≤ tt) now)

  -- 45,000 and 15,000
  spread_timed : {v : Float} → Timed v → Timed (next_spread x v r)
  spread_timed old =
      sum_within binary64 (lit< tt) (product_within binary64 3 (negsuc 1) 45000 (lit< tt) (lit≤ tt) old)
      (product_within binary64 1 (negsuc 1) 15000 (lit< tt) (lit≤ tt) deviation_timed)

pub sampled_kept : (p : Path) (n : ℕ) → n ≤ milliseconds_most → Kept p → Kept (sampled_path p n)
sampled_kept p n h k =
    let r = millis_timed n h in
    chosen Kept p.sampled
    (λ e. record { smoothed = smoothed_timed k.smoothed r; spread = spread_timed k.smoothed r k.spread })
    (λ e. record { smoothed = r; spread = half_within binary64 (lit< tt) r })
