-- The last four that are kept, and the new one behind them.
use Rattle.std.proofs.Common.{refl}
use Rattle.redirecting.proofs.Keep.{keeps}
use Rattle.redirecting.proofs.times.Accepted.with.Goals as goal

pub returns : goal.returns
returns c =
    keeps c.args.self.now c.kept-kept.result.now c.args.time c.saturating_sub.result c.copy_from_slice.new.self _
    c.kept-kept.ensures.times c.kept-kept.ensures.few c.saturating_sub.ensures refl c.copy_from_slice.ensures.after
