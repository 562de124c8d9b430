-- The sizes add up to 02's figure.
use mathlib.Core.Path.{refl}
use Rattle.redirect.specs.Rooms.{Rooms}

pub rooms : Rooms
rooms = record { redirect = refl }
