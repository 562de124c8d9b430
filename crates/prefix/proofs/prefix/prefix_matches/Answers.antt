-- Where whole octets differ, so do the first n bits.
use Rattle.std.proofs.Common.{arith, ◌*◌, ◌/◌, sym, ◌∙◌}
use Rattle.prefix.proofs.Bits.{longer_other}
use Rattle.prefix.proofs.prefix.prefix_matches.Goals as goal

pub returns-else-octets_match : goal.returns-else-octets_match
returns-else-octets_match c =
    let a = c.args in
    c.if-octets_match.false
    ∙ sym (longer_other a.prefix a.octets (a.n / 8 * 8) a.n (omega arith)
    (sym c.octets_match.ensures ∙ c.if-octets_match.false))
