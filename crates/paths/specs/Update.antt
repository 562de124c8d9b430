-- Trusted. What a round trip and a loss make of one path (02, E10), "bit for bit": each `add`, `sub`, `mul` and `div` is
-- that of IEEE 754's binary64, rounded once to the nearest, and nothing is fused or put in another order.
--
--   millis        whole milliseconds as an f64, exactly
--   new_path       nothing heard yet
--   deviation_of   how far a round trip is from the smoothed one
--   first_path     after its first round trip; later_path: after a later one, with `next_spread` and `next_smoothed`
--   sampled_path   after a round trip of so many milliseconds
--   lost_path      after a loss, noticed after so many
use Rattle.std.specs.Prelude.{ℕ, true, false, cond, pos, negsuc, Float}
use Rattle.std.specs.Float.{fin, binary64}
use Rattle.std.specs.Float.Ieee.{add, sub, mul, div, lt, of_int}
use Rattle.paths.specs.declared.path.LastEvent.TheVariants.{Nothing, RoundTrip, Loss}
use Rattle.paths.specs.declared.path.Path.{Path}

-- A number is its sign, a whole number that is odd or 0, and the power of two that this is taken times: `negsuc 1` is -2.
abbrev pub zero64 : Float
zero64 = fin false 0 (pos 0)

abbrev pub two : Float
two = fin false 1 (pos 1)

-- 0.75 = 3 * 2 ^ -2
abbrev pub three_quarters : Float
three_quarters = fin false 3 (negsuc 1)

abbrev pub quarter : Float
quarter = fin false 1 (negsuc 1)

-- 0.875 = 7 * 2 ^ -3
abbrev pub seven_eighths : Float
seven_eighths = fin false 7 (negsuc 2)

abbrev pub eighth : Float
eighth = fin false 1 (negsuc 2)

-- "R and waits are whole numbers": each that can be passed is below 2 ^ 53, so nothing is rounded here
abbrev pub millis : ℕ → Float
millis n = of_int binary64 (pos n)

-- "nothing" was heard; told to nobody as a choice, both numbers are 0
abbrev pub new_path : Path
new_path = record { smoothed = zero64; spread = zero64; sampled = false; last = Nothing }

-- "d is smoothed - R if smoothed > R, else R - smoothed"
abbrev pub deviation_of : Float → Float → Float
deviation_of smoothed r = cond (lt r smoothed) (sub binary64 smoothed r) (sub binary64 r smoothed)

-- "spread 0.75 * spread + 0.25 * d", with the smoothed time from before
abbrev pub next_spread : Float → Float → Float → Float
next_spread smoothed spread r =
    add binary64 (mul binary64 three_quarters spread) (mul binary64 quarter (deviation_of smoothed r))

-- "then smoothed 0.875 * smoothed + 0.125 * R"
abbrev pub next_smoothed : Float → Float → Float
next_smoothed smoothed r = add binary64 (mul binary64 seven_eighths smoothed) (mul binary64 eighth r)

-- "the first sample R, even after losses, gives R and R/2"
abbrev pub first_path : Float → Path
first_path r = record { smoothed = r; spread = div binary64 r two; sampled = true; last = RoundTrip r }

-- "later ones give ..."
abbrev pub later_path : Path → Float → Path
later_path p r =
    record {
      smoothed = next_smoothed p.smoothed r;
      spread = next_spread p.smoothed p.spread r;
      sampled = true;
      last = RoundTrip r;
    }

abbrev pub sampled_path : Path → ℕ → Path
sampled_path p n = cond p.sampled (later_path p (millis n)) (first_path (millis n))

-- "a loss with the milliseconds waited"; "a loss changes neither number"
abbrev pub lost_path : Path → ℕ → Path
lost_path p n = record { smoothed = p.smoothed; spread = p.spread; sampled = p.sampled; last = Loss (millis n) }
