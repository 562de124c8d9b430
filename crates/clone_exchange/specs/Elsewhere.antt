-- Trusted. The two notify types of a clone are "known and decided only in a CREATE_CHILD_SA request given as an IKE
-- rekey" (02, E8): 01's reader, which reads every other chain, tallies both, "whatever [their] SPI or data".
--   OnlyTallied        a notify type that it knows nothing of
--   TalliedByAll       both are such; `tallied_by_all` in `proofs/Elsewhere.antt` proves it
use Rattle.std.specs.Prelude.{ℕ, ◌≡◌, true}
use Rattle.octets.specs.Wire.{clone_ike_sa_supported, clone_ike_sa}
use Rattle.notify.specs.Notify.{kind_of, is_unknown, data_fits}
use Rattle.payload.specs.Payload.{spi_fits}

pub record OnlyTallied (notify_type : ℕ) : Type 0 where
  pub unknown : is_unknown (kind_of notify_type) ≡ true
  pub any_spi : (size : ℕ) → spi_fits (kind_of notify_type) size ≡ true
  pub any_data : (size : ℕ) → data_fits (kind_of notify_type) size ≡ true

pub record TalliedByAll : Type 0 where
  pub supported : OnlyTallied clone_ike_sa_supported
  pub clone : OnlyTallied clone_ike_sa
