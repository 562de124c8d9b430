-- Where the type is 0 the chain ends, or octets are left over.
use Rattle.std.proofs.Common.{length, eq-eqb, ne_eqb}
use Rattle.reader.proofs.Scan.{at_end}
use Rattle.reader.proofs.read.+scan_from.Goals as goal

pub returns-else-at-body : goal.returns-else-at-body
returns-else-at-body t c =
    let a = c.args in
    rw (
      at_end a.reading.now.seen a.payload_type a.body.now a.at c.requires.inside c.if-payload_type-eq0.true,
      ne_eqb a.at (length a.body.now) c.if-at-body.false,
    )
    c.stop.ensures

pub returns-then-at-body : goal.returns-then-at-body
returns-then-at-body t c =
    let a = c.args in
    rw (
      at_end a.reading.now.seen a.payload_type a.body.now a.at c.requires.inside c.if-payload_type-eq0.true,
      eq-eqb a.at (length a.body.now) c.if-at-body.true,
    )
    c.end.ensures
