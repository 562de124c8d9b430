-- One turn of the program: how the window is advanced, and what is then made of it. Assumes nothing.
use Prim.Native.Nat.{ℕ, zero, suc}
use mathlib.Core.Path.{◌≡◌, refl}
use mathlib.Core.Bool.{true, false}
use mathlib.Core.List.{List, [], ◌++◌}
use Rattle.octets.specs.Limits.{response_room}
use Rattle.acts.specs.Performed.{Gateway, performed}
use Rattle.replaying.specs.Turns.{printed, after}
use Rattle.replays.specs.Runs.{Read, next_read, reads_after, Window, window, advanced_by, Ran, ran, behind_line, run}

-- what is made of a window, and n turns behind it
abbrev pub acted : ℕ → List Read → Window → Gateway → Ran
acted n rs v g =
    let s = v.state in
    let p = performed s.entry.asked (v.held ++ v.behind) s.entry.slots response_room g in
    behind_line (printed s p.outcome) (run n rs (window v.held v.behind (after s)) p.after)

pub goes : (n : ℕ) (rs : List Read) (w : Window) (g : Gateway) → w.state.going ≡ true
    → run (suc n) rs w g ≡ acted n (reads_after w.state.turn rs) (advanced_by w.state.turn (next_read rs) w) g
unfolding run
goes n rs w g e = rw e

pub stops : (n : ℕ) (rs : List Read) (w : Window) (g : Gateway) → w.state.going ≡ false → run n rs w g ≡ ran [] g
unfolding run
stops zero rs w g e = refl
stops (suc n) rs w g e = rw e
