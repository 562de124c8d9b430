-- `leb128::put_number` meets its contract: the first octet, and the others placed behind it.
use Rattle.std.proofs.Common.{length, ap, ◌∙◌, arith}
use Rattle.std.proofs.Math.ListN.{length-set}
use Rattle.leb128.proofs.Octets.{octets_small, octets_large}
use Rattle.leb128.proofs.Placed.{placed_one, placed_cons}
use Rattle.leb128.proofs.+put_number.Goals as goal

pub bounds-out-at : goal.bounds-out-at
bounds-out-at t c = let l = ap length (octets_small _ c.if-n-lt128.true) in omega (arith, l)

pub returns-then-n-lt128-clause-value : goal.returns-then-n-lt128-clause-value
returns-then-n-lt128-clause-value t c = let l = ap length (octets_small _ c.if-n-lt128.true) in omega (arith, l)

pub returns-then-n-lt128-clause-out_after : goal.returns-then-n-lt128-clause-out_after
returns-then-n-lt128-clause-out_after t c =
    let a = c.args in
    let l = octets_small a.n c.if-n-lt128.true in
    let f = ap length l in
    rw l (placed_one a.out.now a.at a.n (omega (arith, f)))

pub bounds-out-at-2 : goal.bounds-out-at-2
bounds-out-at-2 t c = let l = ap length (octets_large _ c.ranges.n.fits c.if-n-lt128.false) in omega (arith, l)

pub put_number-requires : goal.put_number-requires
put_number-requires t c =
    let l = ap length (octets_large _ c.ranges.n.fits c.if-n-lt128.false) in
    (omega arith, simp length-set (omega (arith, l)))

pub returns-clause-value : goal.returns-clause-value
returns-clause-value t c =
    let l = ap length (octets_large _ c.ranges.n.fits c.if-n-lt128.false) in
    omega (arith, l, c.put_number.ensures.value)

pub returns-clause-out_after : goal.returns-clause-out_after
returns-clause-out_after t c =
    let a = c.args in
    let l = octets_large a.n c.ranges.n.fits c.if-n-lt128.false in
    let f = ap length l in
    rw l (c.put_number.ensures.out_after ∙ placed_cons a.out.now a.at _ _ (omega (arith, f)))
