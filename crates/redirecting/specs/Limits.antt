-- Trusted. How often a client is redirected (02, E7; RFC 5685, 7: MAX_REDIRECTS, REDIRECT_LOOP_DETECT_PERIOD);
-- `redirecting/src/limits.rt` has the same for the code.
--
--   redirects_most    how many may be accepted in a period, and how many times are kept
--   period_seconds    the period
use Rattle.std.specs.Prelude.{ℕ}

-- "five accepted ones"
abbrev pub redirects_most : ℕ
redirects_most = 5

-- "less than 300 seconds before it"
abbrev pub period_seconds : ℕ
period_seconds = 300
