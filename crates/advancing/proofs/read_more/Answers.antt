-- What was not used is at the window's front, and what is read stands behind it.
use Rattle.std.proofs.Common.{arith}
use Rattle.advancing.proofs.Held.{reads_behind}
use Rattle.advancing.proofs.read_more.Goals as goal

pub returns-clause-reads : goal.returns-clause-reads
returns-clause-reads g c =
    let a = c.args in
    let e = c.keep-kept.ensures in
    rw c.refilled.ensures
    (reads_behind a.window.now c.keep-kept.new.window c.read.new.buf _ a.s c.keep-kept.result c.in_ok-n.n
    c.requires.standing.at_len c.requires.len_in_bounds e.value e.window_after c.keep-kept.auto.window
    (omega (arith, c.in_ok-n.ensures.bound)))
