-- By what the turn is for: only where more is wanted is anything read.
use Rattle.std.proofs.Common.{refl}
use Rattle.advancing.proofs.Held.{advances_call, advances_none}
use Rattle.advancing.proofs.advance.Goals as goal

pub returns-in-Call-clause-advances : goal.returns-in-Call-clause-advances
returns-in-Call-clause-advances g c =
    let e = c.look-in-Call.ensures in
    advances_call c.args.window.now c.args.s c.look-in-Call.result c.in-Call.is e.value e.size

pub returns-in-Refuse-clause-advances : goal.returns-in-Refuse-clause-advances
returns-in-Refuse-clause-advances g c = advances_none c.args.window.now c.args.s _ c.in-Refuse.is (λ r w. refl)

pub returns-in-Show-clause-advances : goal.returns-in-Show-clause-advances
returns-in-Show-clause-advances g c = advances_none c.args.window.now c.args.s _ c.in-Show.is (λ r w. refl)
