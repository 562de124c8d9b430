-- Inner. Where a replay stands lies within what the window holds: what keeps the program's offsets in range.
use Rattle.std.specs.Prelude.{◌≤◌, ◌≡◌}
use Rattle.replaying.specs.declared.state.State.{State}
use Rattle.replaying.specs.declared.state.Turn.TheVariants.{Call}

pub record Standing (s : State) : Type 0 where
  pub at_len : s.at ≤ s.len
  pub at_next : s.at ≤ s.next
  -- an entry that was read ends within the window
  pub next_len : s.turn ≡ Call → s.next ≤ s.len
