-- `clone_requests::write::write_any` meets its contract, by the ways out.
-- Assumes nothing.
use Rattle.std.proofs.Common.{refl, sym, ◌∙◌}
use Rattle.asking.specs.Wanted.{draft_of}
use Rattle.clone_requests.proofs.Ways.{as_ever, not_alone, no_room, done}
use Rattle.clone_requests.proofs.write.write_any.Goals as goal

pub returns-then-not-asks_clone-clause-value : goal.returns-then-not-asks_clone-clause-value
returns-then-not-asks_clone-clause-value c =
    let a = c.args in
    as_ever a.asked (draft_of a.wanted) a.out.now _ (sym c.asks_clone.ensures ∙ c.if-not-asks_clone.true) _
    c.write.ensures.value

pub returns-then-not-clone_alone-clause-value : goal.returns-then-not-clone_alone-clause-value
returns-then-not-clone_alone-clause-value c =
    let a = c.args in
    not_alone a.asked (draft_of a.wanted) a.out.now _ (sym c.asks_clone.ensures ∙ c.if-not-asks_clone.false)
    (sym c.clone_alone.ensures ∙ c.if-not-clone_alone.true) refl

pub returns-then-out-lt-REQUEST_ROOM-clause-value : goal.returns-then-out-lt-REQUEST_ROOM-clause-value
returns-then-out-lt-REQUEST_ROOM-clause-value c =
    let a = c.args in
    no_room a.asked (draft_of a.wanted) a.out.now _ (sym c.asks_clone.ensures ∙ c.if-not-asks_clone.false)
    (sym c.clone_alone.ensures ∙ c.if-not-clone_alone.false) c.if-out-lt-REQUEST_ROOM.true refl

pub returns-clause-value : goal.returns-clause-value
returns-clause-value c =
    let a = c.args in
    let p = c.put_clone.ensures in
    done a.asked (draft_of a.wanted) a.out.now _ (sym c.asks_clone.ensures ∙ c.if-not-asks_clone.false)
    (sym c.clone_alone.ensures ∙ c.if-not-clone_alone.false) c.if-out-lt-REQUEST_ROOM.false _ p.0 p.1
