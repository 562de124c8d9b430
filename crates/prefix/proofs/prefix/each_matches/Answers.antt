-- An octet that differs leaves the prefix, and one that is the same is eight bits more.
use Rattle.std.proofs.Common.{rules, arith, ◌*◌, refl, sym, get_or, Fits, w8}
use Rattle.prefix.specs.Prefix.{prefix_matches}
use Rattle.prefix.proofs.Bits.{same_octet, octet_other}
use Rattle.prefix.proofs.prefix.each_matches.Goals as goal

pub loop-i-init : goal.loop-i-init
unfolding prefix_matches
loop-i-init c = refl

pub returns-then-prefix-i : goal.returns-then-prefix-i
returns-then-prefix-i c =
    let a = c.args in
    let i = c.loop-i.i in
    let s : Fits w8 (get_or a.prefix i 0) = search rules in
    let t : Fits w8 (get_or a.octets i 0) = search rules in
    sym (octet_other a.prefix a.octets i s.fits t.fits (a.n * 8) (omega arith) c.if-prefix-i.true)

pub loop-i-preserved : goal.loop-i-preserved
loop-i-preserved c =
    same_octet c.args.prefix c.args.octets c.loop-i.i c.loop-i.invariant c.if-prefix-i.false
