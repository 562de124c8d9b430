-- `wording::hex::put_octets` meets its contract. Assumes nothing.
use Rattle.std.proofs.Common.{◌≡◌, length, refl, sym, arith, rules}
use Rattle.std.proofs.Math.Seq.{take-length}
use Rattle.std.proofs.Math.ListN.{length-set}
use Rattle.writing.specs.Notify.{placed}
use Rattle.writing.proofs.Placed.{placed_none}
use Rattle.wording.specs.Text.{hex}
use Rattle.wording.proofs.HexDigits.{length-hex, hex_none, hex_next}
use Rattle.wording.proofs.Puts.{puts_one}
use Rattle.wording.proofs.hex.put_octets.Goals as goal

pub loop-octet-init : goal.loop-octet-init
loop-octet-init c =
    let a = c.args in
    (search rules, refl, search rules, sym (rw hex_none (placed_none a.out.now a.at)))

pub loop-octet-preserved : goal.loop-octet-preserved
loop-octet-preserved c =
    let a = c.args in
    let l = c.loop-octet in (
      omega arith,
      search (rules, length-set),
      omega arith,
      hex_next a.out.now a.at a.octets.now l.octet-index l.out l.to c.hex_digit.result c.hex_digit-in-loop-octet.result
          (omega arith) (omega arith) (omega arith) l.invariant.3 c.hex_digit.ensures
          c.hex_digit-in-loop-octet.ensures,
    )

pub returns-clause-puts : goal.returns-clause-puts
returns-clause-puts c =
    let a = c.args in
    let l = c.loop-octet in
    let os = a.octets.now in
    let all : l.octet-index ≡ length os = omega arith in
    let e : l.out ≡ placed a.out.now a.at (hex os) = rw (l.invariant.3, all, take-length os) in
    puts_one (hex os) a.out.now l.out a.at l.to a.after e (omega (arith, length-hex os)) (omega arith)
