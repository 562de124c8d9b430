-- `leb128::read_number` meets its contract: nine octets behind the first are enough.
use Rattle.std.proofs.Common.{sym, ◌∙◌, arith}
use Rattle.leb128.specs.RoundTrips.{Octets}
use Rattle.leb128.proofs.Within.{enough}
use Rattle.leb128.proofs.Stable.{within}
use Rattle.leb128.proofs.read_number.Goals as goal

pub returns-clause-value : goal.returns-clause-value
returns-clause-value c =
    let a = c.args in
    let o : Octets a.s.now = λ i. omega (arith, c.type_inv.s i) in
    c.read_within.ensures ∙ enough a.s.now a.at (o a.at)

pub returns-clause-within : goal.returns-clause-within
returns-clause-within c =
    let a = c.args in
    let o : Octets a.s.now = λ i. omega (arith, c.type_inv.s i) in
    within a.s.now a.at o _ (sym (c.read_within.ensures ∙ enough a.s.now a.at (o a.at)))
