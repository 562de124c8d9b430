-- Trusted. What the window of the program `replay` holds, and what a turn first does with it: reads, and looks at what
-- stands next.
--   Read, Window       what one read brings; what the window holds, what stands behind that, and the state
--   held buffer s      the window in its buffer
--   advanced_by t r w   by what the turn t is for; only one for more reads, which brings r
--   Advances           one read at most, whatever it brings, and the look
--   KeepsUnused        what is left of the window where a read fails
use Rattle.std.specs.Prelude.{ℕ, ◌-◌, ◌≡◌, List, ◌++◌, length, take, drop}
use Rattle.replaying.specs.Turns.{refilled, looked}
use Rattle.replaying.specs.declared.state.State.{State}
use Rattle.replaying.specs.declared.state.Turn.{Turn}
use Rattle.replaying.specs.declared.state.Turn.TheVariants.{More, Call, Refuse, Show}

-- the octets, and what the window has behind them
pub record Read : Type 0 where
  pub octets : List ℕ
  pub behind : List ℕ

pub record Window : Type 0 where
  pub held : List ℕ
  pub behind : List ℕ
  pub state : State

abbrev pub window : List ℕ → List ℕ → State → Window
window held behind s = record { held = held; behind = behind; state = s }

abbrev pub held : List ℕ → State → Window
held buffer s = window (take s.len buffer) (drop s.len buffer) s

-- one read: what was not used comes to the front, and what is read stands behind it
abbrev pub read_more : Read → Window → Window
read_more r w =
    let kept = drop w.state.at w.held in
    let held = kept ++ r.octets in
    window held r.behind (refilled w.state (length kept) (length held))

abbrev pub looked_at : Window → Window
looked_at w = window w.held w.behind (looked w.held w.state)

abbrev pub advanced_by : Turn → Read → Window → Window
advanced_by More r w = looked_at (read_more r w)
advanced_by Call r w = looked_at w
advanced_by (Refuse number) r w = w
advanced_by Show r w = w

-- from the buffer and the state before to those after
pub record Reads (before : List ℕ) (s : State) (after : List ℕ) (r : State) : Type 0 where
  pub read : Read
  pub same : held after r ≡ read_more read (held before s)

pub record Advances (before : List ℕ) (s : State) (after : List ℕ) (r : State) : Type 0 where
  pub read : Read
  pub same : held after r ≡ advanced_by s.turn read (held before s)

-- what the window held and did not use stands at its front
abbrev pub KeepsUnused : List ℕ → State → List ℕ → Type 0
KeepsUnused before s after = take (s.len - s.at) after ≡ take (s.len - s.at) (drop s.at before)
