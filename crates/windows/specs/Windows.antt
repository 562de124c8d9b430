-- Trusted. What a window tells of the next entry of a trace that comes in pieces, and what that says of the whole trace
-- (02, E3: "20 cut entry" is a trace's end, never a window's). Shown in proofs/Windows.antt.
--   next_in w at ended   what stands at `at` of the window w; `ended` says that nothing comes after it
--   Within w at r       an entry has an octet at least, and ends within the window
--   Tells               what is told holds of the trace from the window on; `More` is told only of a short window
use Rattle.std.specs.Prelude.{ℕ, ◌-◌, ◌≤◌, ◌<◌, ◌≡◌, Bool, true, false, cond, List, [], ◌++◌, ltb, leb, length, Result, Ok, Err}
use Rattle.leb128.specs.RoundTrips.{Octets}
use Rattle.fields.specs.declared.refusal.Refusal.{Refusal}
use Rattle.fields.specs.declared.refusal.Refusal.TheVariants.{Cut, UnknownKind, TooLarge}
use Rattle.entries.specs.Entries.{entry_at, entry_step}
use Rattle.entry_laws.specs.Sight.{entry_sight}
use Rattle.entries.specs.declared.kind.Kind.{Kind}
use Rattle.windows.specs.declared.Next.{Next}
use Rattle.windows.specs.declared.Next.TheVariants.{Entry, More, End}

-- a refusal in the window, with so many octets in sight: a cut entry may come of the window's end
abbrev pub refused_in : Bool → ℕ → Refusal → Result Next Refusal
refused_in ended seen Cut = cond ended (Err Cut) (cond (ltb seen entry_sight) (Ok More) (Err Cut))
refused_in ended seen UnknownKind = Err UnknownKind
refused_in ended seen TooLarge = Err TooLarge

abbrev pub step_in : Bool → ℕ → Result (Kind × ℕ) Refusal → Result Next Refusal
step_in ended seen (Ok (k, next)) = Ok (Entry k next)
step_in ended seen (Err why) = refused_in ended seen why

unfoldable pub next_in : List ℕ → ℕ → Bool → Result Next Refusal
next_in w at ended =
    cond (leb (length w) at) (cond ended (Ok End) (Ok More)) (step_in ended (length w - at) (entry_step (entry_at w at)))

abbrev pub Within : List ℕ → ℕ → Result Next Refusal → Type 0
Within w at (Ok (Entry k next)) = (at < next) × (next ≤ length w)
Within w at (Err why) = Unit {0}
Within w at (Ok More) = Unit {0}
Within w at (Ok End) = Unit {0}

-- the trace from the window on is `w ++ rest`
pub record Tells (w rest : List ℕ) (at : ℕ) (ended : Bool) : Type 0 where
  -- what was read in the window, its values too, is what the whole trace has there
  pub entry : (k : Kind) (next : ℕ) → next_in w at ended ≡ Ok (Entry k next)
      → (entry_step (entry_at (w ++ rest) at) ≡ Ok (k, next)) × (entry_at (w ++ rest) at ≡ entry_at w at)
      × (at < next) × (next ≤ length w)
  pub refused : (why : Refusal) → next_in w at ended ≡ Err why
      → (entry_step (entry_at (w ++ rest) at) ≡ Err why) × (at < length w)
  pub end : next_in w at ended ≡ Ok End → length (w ++ rest) ≤ at
  -- so a window of entry_sight octets never asks for more when it is full
  pub more : next_in w at ended ≡ Ok More → (ended ≡ false) × (length w - at < entry_sight)

-- where the trace has ended, nothing is left
abbrev pub Windows : Type 0
Windows =
    (w rest : List ℕ) (at : ℕ) (ended : Bool) → Octets (w ++ rest) → at ≤ length w → (ended ≡ true → rest ≡ [])
    → Tells w rest at ended
