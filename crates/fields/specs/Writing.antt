-- Trusted. What writing a field into an output comes to (02, E3): "Writing gives 22 alike, then 2 (output too short)".
--   octets_in f s slots      the octets of the value that the slots tell, s being the lent buffer
--   room_in f s slots room   what is left of the room of an output behind it
--   Ok n                     so many octets are left
--   Err                      it is TooShort (2), or a value is TooLarge for its field (22)
--   unfit_number why         the number that is told
use Rattle.std.specs.Prelude.{ℕ, ◌-◌, cond, List, ltb, length, Result, Ok, Err}
use Rattle.fields.specs.declared.room.Unfit.{Unfit}
use Rattle.fields.specs.declared.room.Unfit.TheVariants.{TooShort, TooLarge}
use Rattle.fields.specs.Fields.{Field, octets}
use Rattle.fields.specs.Slots.{value_in, fits_in}

abbrev pub octets_in : Field → List ℕ → List ℕ → List ℕ
octets_in f s slots = octets f (value_in f s slots)

abbrev pub unfit_number : Unfit → ℕ
unfit_number TooShort = 2
unfit_number TooLarge = 22

-- so many octets more
abbrev pub less_by : ℕ → Result ℕ Unfit → Result ℕ Unfit
less_by n (Ok room) = cond (ltb room n) (Err TooShort) (Ok (room - n))
less_by n (Err why) = Err why

abbrev pub room_in : Field → List ℕ → List ℕ → Result ℕ Unfit → Result ℕ Unfit
room_in f s slots room = cond (fits_in f s slots) (less_by (length (octets_in f s slots)) room) (Err TooLarge)
