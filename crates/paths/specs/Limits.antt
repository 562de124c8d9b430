-- Trusted. The limits of what is kept of paths (02, E10); `paths/src/limits.rt` has the same for the code.
--
--   paths_most          how many paths there are at most
--   milliseconds_most   the longest round trip or wait
use Rattle.std.specs.Prelude.{ℕ}

-- "For up to 8 roads, or address pairs"
abbrev pub paths_most : ℕ
paths_most = 8

-- "R and waits are whole numbers from 0 to 60,000"
abbrev pub milliseconds_most : ℕ
milliseconds_most = 60000
