-- Inner. Both that the code asks of an SPI in one: that it is not past the payload's length, and that its type may have
-- it. `notify_at` (Payload.antt) asks one after the other; `proofs/payload/notify_at` ties the two.
use Rattle.std.specs.Prelude.{ℕ, ◌-◌, Bool, ◌&&◌, not, ltb}
use Rattle.octets.specs.Limits.{notify_header}
use Rattle.payload.specs.Payload.{spi_fits}
use Rattle.notify.specs.declared.notify.NotifyKind.{NotifyKind}

abbrev pub spi_inside : NotifyKind → ℕ → ℕ → Bool
spi_inside kind spi_size size = not (ltb (size - notify_header) spi_size) && spi_fits kind spi_size
