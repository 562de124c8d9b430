-- `printing::lines::put_pair` meets its contract: its words, from the last to the first. Assumes nothing.
use Rattle.std.proofs.Common.{arith}
use Rattle.wording.proofs.Puts.{puts_then}
use Rattle.printing.proofs.lines.put_pair.Goals as goal

pub returns-clause-puts : goal.returns-clause-puts
returns-clause-puts c =
    let d = puts_then (omega arith) c.put_short-d.ensures.puts c.put_short.ensures.puts in
    let e = puts_then (omega arith) c.put_address-c.ensures.puts d in
    let f = puts_then (omega arith) c.put_address-b.ensures.puts e in
    puts_then (omega arith) c.put_short-a.ensures.puts f
