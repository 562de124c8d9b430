-- Trusted. 01's figures for what the limits add up to: a statement, which `rooms` in `proofs/Rooms.antt` proves.
use Rattle.std.specs.Prelude.{◌≡◌}
use Rattle.octets.specs.Limits.{notify_header, no_nats_least, no_nats_most, response_room, request_room}

pub record Rooms : Type 0 where
  -- "a Notify under 8"
  pub header : notify_header ≡ 8
  -- "NO_NATS_ALLOWED: 12 or 36"
  pub no_nats_least_lem : no_nats_least ≡ 12
  pub no_nats_most_lem : no_nats_most ≡ 36
  -- "output under 128 octets (writer: 564)"
  pub response : response_room ≡ 128
  pub request : request_room ≡ 564
