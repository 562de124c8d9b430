-- The limits add up to 01's figures.
use mathlib.Core.Path.{refl}
use Rattle.octets.specs.Rooms.{Rooms}

pub rooms : Rooms
rooms = record { header = refl; no_nats_least_lem = refl; no_nats_most_lem = refl; response = refl; request = refl }
