-- A chain knows none of the three notify types.
use mathlib.Core.Path.{refl}
use Rattle.notify.specs.Notify.{kind_of}
use Rattle.redirect_laws.specs.Tallied.{Tallied}

pub tallied : Tallied
unfolding kind_of
tallied =
    record {
      supported = record { unknown = refl; any_data = λ size. refl };
      moved = record { unknown = refl; any_data = λ size. refl };
      moved_from = record { unknown = refl; any_data = λ size. refl };
    }
