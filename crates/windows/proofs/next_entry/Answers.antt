-- `windows::next_entry` meets its contract.
use Rattle.std.proofs.Common.{sym, arith}
use borrow.Author.Tests.{le-leb, lt-leb}
use Rattle.leb128.specs.RoundTrips.{Octets}
use Rattle.windows.specs.Windows.{next_in}
use Rattle.windows.proofs.Windows.{within, none_there}
use Rattle.windows.proofs.next_entry.Goals as goal

pub returns-then-ended-clause-value : goal.returns-then-ended-clause-value
unfolding next_in
returns-then-ended-clause-value c = rw (le-leb _ _ c.if-at-window.true, c.if-ended.true)

pub returns-then-ended-clause-slots : goal.returns-then-ended-clause-slots
returns-then-ended-clause-slots c =
    let a = c.args in
    none_there a.window.now a.slots.now a.at c.if-at-window.true

pub returns-else-ended-clause-value : goal.returns-else-ended-clause-value
unfolding next_in
returns-else-ended-clause-value c = rw (le-leb _ _ c.if-at-window.true, c.if-ended.false)

pub returns-else-ended-clause-slots : goal.returns-else-ended-clause-slots
returns-else-ended-clause-slots c =
    let a = c.args in
    none_there a.window.now a.slots.now a.at c.if-at-window.true

pub returns-in-Ok-clause-value : goal.returns-in-Ok-clause-value
unfolding next_in
returns-in-Ok-clause-value c = rw (lt-leb _ _ c.if-at-window.false, ← c.in-Ok.ensures.0)

pub returns-in-Ok-clause-within : goal.returns-in-Ok-clause-within
returns-in-Ok-clause-within c =
    let a = c.args in
    let o : Octets a.window.now = λ k. omega (arith, c.type_inv.window k) in
    within a.window.now a.at o (omega arith) _ _ (sym c.in-Ok.ensures.0)

pub returns-in-Err-clause-value : goal.returns-in-Err-clause-value
unfolding next_in
returns-in-Err-clause-value c = rw (lt-leb _ _ c.if-at-window.false, ← c.in-Err.ensures.0) c.refused_in.ensures
