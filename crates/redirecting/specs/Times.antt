-- Trusted. The times of accepted redirects, and what they refuse (02, E7).
--
--   heard                    times of accepted ones, oldest first: those that a record keeps, or all of them
--   accepted                 a record, by its count and its five places; `fresh` is one of no times
--   kept                     the times that it keeps
--   before_last, five_recent   what 33 and 34 tell
--   time_checks               both, in their order
--   last_of                   the last n elements of a list
--   keeping                  the record that keeps one time more
use Rattle.std.specs.Prelude.{ℕ, suc, ◌+◌, ◌-◌, min, List, [], ◌∷◌, ◌++◌, Bool, cond, leb, ltb, length, get_or, take, drop, replicate}
use Rattle.octets.specs.declared.number.Number.TheVariants.{TimeBeforeLast, TooManyRedirects}
use Rattle.octets.specs.Checks.{Check, ◌gives◌}
use Rattle.octets.specs.Lists.{first_of}
use Rattle.redirecting.specs.Limits.{redirects_most, period_seconds}
use Rattle.redirecting.specs.declared.times.Accepted.{Accepted}

-- The places in count; a count over five, which no decision leaves, reads as five.
abbrev pub kept : Accepted → List ℕ
kept r = take (min r.count redirects_most) r.times

abbrev pub accepted : ℕ → List ℕ → Accepted
accepted count times = record { count = count; times = times }

abbrev pub fresh : Accepted
fresh = accepted 0 (replicate redirects_most 0)

-- "33 time in seconds before the last accepted one's". Where there is none this is 0, which no time is before.
abbrev pub latest : List ℕ → ℕ
latest heard = get_or heard (length heard - 1) 0

unfoldable pub before_last : List ℕ → ℕ → Bool
before_last heard time = ltb time (latest heard)

-- "less than 300 seconds before it": time - t < 300, as whole numbers, so that a later t counts too.
unfoldable pub is_recent : ℕ → ℕ → Bool
is_recent time t = ltb time (t + period_seconds)

-- how many elements pass a test
abbrev pub how_many : {A : Type 0} → (A → Bool) → List A → ℕ
how_many f [] = 0
how_many f (x ∷ xs) = cond (f x) (suc (how_many f xs)) (how_many f xs)

-- "34 five accepted ones less than 300 seconds before it"
unfoldable pub five_recent : List ℕ → ℕ → Bool
five_recent heard time = leb redirects_most (how_many (is_recent time) heard)

abbrev pub time_checks : List ℕ → ℕ → List Check
time_checks heard time =
    before_last heard time gives TimeBeforeLast
    ∷ five_recent heard time gives TooManyRedirects
    ∷ []

abbrev pub last_of : {A : Type 0} → ℕ → List A → List A
last_of n xs = drop (length xs - n) xs

-- "the display's record keeps its time": the last five, oldest first, and 0 in the places after them. Five suffice:
-- `Sufficient` in `redirect_laws/specs/Sequences.antt`.
unfoldable pub keeping : Accepted → ℕ → Accepted
keeping r time =
    let times = last_of redirects_most (kept r ++ time ∷ []) in
    accepted (length times) (first_of redirects_most 0 (length times) times)
