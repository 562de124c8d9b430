-- `printing::lines::put_pair_line` meets its contract: its words, from the last to the first. Assumes nothing.
use Rattle.std.proofs.Common.{arith}
use Rattle.wording.proofs.Puts.{puts_then}
use Rattle.printing.proofs.lines.put_pair_line.Goals as goal

pub returns-clause-size : goal.returns-clause-size
returns-clause-size c =
    let w = puts_then (omega arith) c.put_table-a.ensures.puts
    (puts_then (omega arith) c.put_number-b.ensures.puts c.put_pair.ensures.puts) in
    omega (arith, w.place)

pub returns-clause-octets : goal.returns-clause-octets
returns-clause-octets c =
    let w = puts_then (omega arith) c.put_table-a.ensures.puts
    (puts_then (omega arith) c.put_number-b.ensures.puts c.put_pair.ensures.puts) in
    w.written
