-- Trusted. 02's figure for what the sizes add up to: a statement, which `rooms` in `proofs/Rooms.antt` proves.
use Rattle.std.specs.Prelude.{◌≡◌}
use Rattle.redirect.specs.Wire.{redirect_room}

pub record Rooms : Type 0 where
  -- "2 output under 513 octets"
  pub redirect : redirect_room ≡ 513
