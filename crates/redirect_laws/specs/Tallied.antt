-- Trusted. "chains still tally them" (02, E7): a chain knows none of the three notify types, and takes them with any
-- data. `tallied` in `proofs/Tallied.antt` proves it.
use Rattle.std.specs.Prelude.{ℕ, ◌≡◌, true}
use Rattle.notify.specs.Notify.{kind_of, is_unknown, data_fits}
use Rattle.redirect.specs.Wire.{redirect_supported, redirect, redirected_from}

pub record Counted (notify_type : ℕ) : Type 0 where
  pub unknown : is_unknown (kind_of notify_type) ≡ true
  pub any_data : (size : ℕ) → data_fits (kind_of notify_type) size ≡ true

pub record Tallied : Type 0 where
  pub supported : Counted redirect_supported
  pub moved : Counted redirect
  pub moved_from : Counted redirected_from
