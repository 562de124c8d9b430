-- Trusted. The program `replay` turn by turn, by the definitions that its functions' contracts cite: `advanced_by`,
-- `performed`, `printed` and `after`. What one read brings is whatever standard input gives.
--   run n reads w g  n turns: all that is printed, and the gateway after them
use Rattle.std.specs.Prelude.{ℕ, zero, suc, cond, List, [], ◌∷◌, ◌++◌}
use Rattle.octets.specs.Limits.{response_room}
use Rattle.acts.specs.Performed.{Gateway, performed}
use Rattle.replaying.specs.Turns.{printed, after}
use Rattle.replaying.specs.declared.state.Turn.{Turn}
use Rattle.replaying.specs.declared.state.Turn.TheVariants.{More, Call, Refuse, Show}
pub use Rattle.replaying.specs.Held.{Read, Window, window, read_more, looked_at, advanced_by}

-- once all is read, a read brings nothing
abbrev pub next_read : List Read → Read
next_read [] = record { octets = []; behind = [] }
next_read (r ∷ rs) = r

abbrev pub reads_after : Turn → List Read → List Read
reads_after More [] = []
reads_after More (r ∷ rs) = rs
reads_after Call rs = rs
reads_after (Refuse number) rs = rs
reads_after Show rs = rs

pub record Ran : Type 0 where
  pub printed : List ℕ
  pub gateway : Gateway

abbrev pub ran : List ℕ → Gateway → Ran
ran printed g = record { printed = printed; gateway = g }

abbrev pub behind_line : List ℕ → Ran → Ran
behind_line line r = ran (line ++ r.printed) r.gateway

unfoldable pub run : ℕ → List Read → Window → Gateway → Ran
run zero rs w g = ran [] g
run (suc n) rs w g =
    let turn = w.state.turn in
    let v = advanced_by turn (next_read rs) w in
    let s = v.state in
    let p = performed s.entry.asked (v.held ++ v.behind) s.entry.slots response_room g in
    let rest = run n (reads_after turn rs) (window v.held v.behind (after s)) p.after in
    cond w.state.going (behind_line (printed s p.outcome) rest) (ran [] g)
