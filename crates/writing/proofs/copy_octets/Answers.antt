-- `writing::copy_octets` meets its contract: the part that was copied by fours, and the rest behind it.
use Rattle.writing.proofs.Placed.{placed_rest}
use Rattle.writing.proofs.copy_octets.Goals as goal

pub returns : goal.returns
returns c =
    let a = c.args in
    let f = c.copy_fours-n in
    let e = c.copy_each in
    placed_rest a.out.now f.new.out e.new.out a.at a.octets.now f.result c.requires f.ensures.upper_bound
    f.ensures.out_after
    e.ensures
