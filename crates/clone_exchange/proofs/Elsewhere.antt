-- 01's reader tallies the two notify types of a clone, whatever their SPI or data.
use Prim.Native.Nat.{ℕ}
use mathlib.Core.Path.{◌≡◌, refl}
use mathlib.Core.Bool.{Bool, true, false, ◌||◌}
use lib.Dec.{eqb}
use Rattle.notify.specs.Notify.{kind_of}
use Rattle.clone_exchange.specs.Elsewhere.{TalliedByAll}

either : (b : Bool) → (b || true) ≡ true
either true = refl
either false = refl

pub tallied_by_all : TalliedByAll
unfolding kind_of
tallied_by_all =
    record {
      supported =
          record { unknown = refl; any_spi = λ (size : ℕ). either (eqb size 0); any_data = λ (size : ℕ). refl };
      clone = record { unknown = refl; any_spi = λ (size : ℕ). either (eqb size 0); any_data = λ (size : ℕ). refl };
    }
