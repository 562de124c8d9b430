-- Trusted. The numbers of a trace's refusals (02, E3): "20 cut entry, or number not shortest or past 64 bits, 21
-- unknown kind, 22 number, count or length too large for its field".
--   refusal_number why   the number that is told
use Rattle.std.specs.Prelude.{ℕ}
use Rattle.fields.specs.declared.refusal.Refusal.{Refusal}
use Rattle.fields.specs.declared.refusal.Refusal.TheVariants.{Cut, UnknownKind, TooLarge}

abbrev pub refusal_number : Refusal → ℕ
refusal_number Cut = 20
refusal_number UnknownKind = 21
refusal_number TooLarge = 22
