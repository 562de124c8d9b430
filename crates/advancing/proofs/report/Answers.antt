-- What is written is what was put in the line.
use Rattle.std.proofs.Common.{◌≡◌, ◌∙◌, ℕ, List, take, subst, ap}
use Rattle.std.specs.Io.KnownBytes.{Appends}
use Rattle.replaying.specs.Turns.{printed}
use Rattle.advancing.proofs.Line.{put_in_front}
use Rattle.advancing.proofs.report.Goals as goal

pub returns-clause-line : goal.returns-clause-line
returns-clause-line g c =
    let p = c.put_line-n.ensures in
    let n = c.put_line-n.result in
    let line : take n c.put_line-n.new.line ≡ printed c.args.s c.args.o =
    ap (take n) p.octets ∙ put_in_front _ (printed c.args.s c.args.o) n p.size in
    subst
    (λ (written : List ℕ). Appends (g.W.Write.contents c.args.output.now) (g.W.Write.contents c.write_all.new.self) written)
    line c.in_ok-write_all.ensures.bytes
