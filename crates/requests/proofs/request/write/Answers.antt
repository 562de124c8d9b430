-- `requests::request::write` meets its contract, by the three ways out.
-- Assumes nothing.
use Rattle.std.proofs.Common.{refl, sym, ◌∙◌}
use Rattle.asking.specs.Wanted.{draft_of}
use Rattle.requests.proofs.Ways.{unfit, no_room, done}
use Rattle.requests.proofs.request.write.Goals as goal

pub returns-then-not-fits-clause-value : goal.returns-then-not-fits-clause-value
returns-then-not-fits-clause-value c =
    unfit (draft_of c.args.wanted) c.args.out.now _ (sym c.fits.ensures ∙ c.if-not-fits.true) refl

pub returns-then-out-lt-ROOM-clause-value : goal.returns-then-out-lt-ROOM-clause-value
returns-then-out-lt-ROOM-clause-value c =
    no_room (draft_of c.args.wanted) c.args.out.now _ (sym c.fits.ensures ∙ c.if-not-fits.false) c.if-out-lt-ROOM.true
    refl

pub returns-clause-value : goal.returns-clause-value
returns-clause-value c =
    let p = c.put_request.ensures in
    done (draft_of c.args.wanted) c.args.out.now _ (sym c.fits.ensures ∙ c.if-not-fits.false) c.if-out-lt-ROOM.false _
    p.0 p.1
