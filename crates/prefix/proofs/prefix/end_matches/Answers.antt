-- The upper bits of an octet are what is left of it when the lower ones are shifted out.
use Rattle.std.proofs.Common.{rules, arith, ◌≡◌, ◌+◌, ◌*◌, ◌/◌, ◌%◌, get_or, Fits, w8}
use Rattle.prefix.proofs.Bits.{end_told}
use Rattle.prefix.proofs.prefix.end_matches.Goals as goal

pub returns : goal.returns
returns c =
    let a = c.args in
    let s : Fits w8 (get_or a.prefix (a.n / 8) 0) = search rules in
    let t : Fits w8 (get_or a.octets (a.n / 8) 0) = search rules in
    let parts : a.n / 8 * 8 + a.n % 8 ≡ a.n = omega arith in
    rw parts at (end_told a.prefix a.octets (a.n / 8) s.fits t.fits (a.n % 8) (omega arith) c.requires.1)
