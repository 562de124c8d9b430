-- Worked examples, computed from the definitions: numbers by their bits, and choices. Assumes nothing.
use Prim.Native.Nat.{ℕ, zero, suc}
use mathlib.Core.Path.{◌≡◌, refl}
use mathlib.Core.List.{List, [], ◌∷◌}
use lib.Ieee.{binary64, add, sub, mul, div, lt, of_int, to_bits, is_nan}
use Rattle.paths.specs.Update.{new_path, sampled_path, lost_path}
use Rattle.paths.specs.Choice.{best_of, told, choice}
use Rattle.paths.specs.declared.path.Path.{Path}

after : List ℕ → Path → Path
after [] p = p
after (r ∷ rs) p = after rs (sampled_path p r)

-- 7 and 33,333 in turn, so often
turns : ℕ → List ℕ
turns zero = []
turns (suc n) = 7 ∷ 33333 ∷ turns n

record Bits (p : Path) (smoothed spread : ℕ) : Type 0 where
  smoothed_bits : to_bits binary64 p.smoothed ≡ smoothed
  spread_bits : to_bits binary64 p.spread ≡ spread

-- 101 and 50.5, even after a loss
first : Bits (sampled_path (lost_path new_path 500) 101) 0x4059400000000000 0x4049400000000000
unfolding of_int add sub mul div lt to_bits
first = record { smoothed_bits = refl; spread_bits = refl }

-- 113.5 and 62.875, a loss between
second : Bits (sampled_path (lost_path (sampled_path new_path 101) 500) 201) 0x405C600000000000 0x404F700000000000
unfolding of_int add sub mul div lt to_bits
second = record { smoothed_bits = refl; spread_bits = refl }

-- up to about the 13th sample all is exact; at the 24th another last bit of the smoothed time would come of a product by
-- 0.875 that is fused with the sum, and of smoothed + (R - smoothed) / 8
many : Bits (after (turns 12) new_path) 0x40D0A8F3396E88E2 0x40D1720E83596695
unfolding after turns of_int add sub mul div lt to_bits
many = record { smoothed_bits = refl; spread_bits = refl }

-- a round trip of 50 hidden by a loss, and two of 80: the lower ordinal
three : ℕ → Path
three zero = lost_path (sampled_path new_path 50) 7
three (suc k) = sampled_path new_path 80

tie : choice (record { count = 3; path = three }) ≡ told 0 1
unfolding three best_of of_int is_nan lt
tie = refl

none : choice (record { count = 1; path = three }) ≡ told 52 0
unfolding three best_of of_int is_nan lt
none = refl
