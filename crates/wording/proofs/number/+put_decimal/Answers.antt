-- `wording::number::put_decimal` meets its contract: the digit goes behind those that the call wrote. Assumes nothing.
use Rattle.std.proofs.Common.{◌+◌, ◌/◌, ◌%◌, ◌<◌, length, ap, arith, length-append}
use Rattle.wording.specs.Text.{decimal}
use Rattle.wording.proofs.Digits.{decimal_small, decimal_large}
use Rattle.wording.proofs.Placed.{placed_one, placed_behind}
use Rattle.wording.proofs.number.+put_decimal.Goals as goal

pub bounds-out-at : goal.bounds-out-at
bounds-out-at t c = let l = ap length (decimal_small c.args.n c.if-n-lt-TWO_DIGITS.true) in omega arith

pub returns-then-n-lt-TWO_DIGITS-clause-value : goal.returns-then-n-lt-TWO_DIGITS-clause-value
returns-then-n-lt-TWO_DIGITS-clause-value t c =
    let l = ap length (decimal_small c.args.n c.if-n-lt-TWO_DIGITS.true) in
    omega arith

pub returns-then-n-lt-TWO_DIGITS-clause-out_after : goal.returns-then-n-lt-TWO_DIGITS-clause-out_after
returns-then-n-lt-TWO_DIGITS-clause-out_after t c =
    let a = c.args in
    let l = decimal_small a.n c.if-n-lt-TWO_DIGITS.true in
    let f = ap length l in
    rw l (placed_one a.out.now a.at (48 + a.n) (omega arith))

pub put_decimal-next-requires : goal.put_decimal-next-requires
put_decimal-next-requires t c =
    let d = ap length (decimal_large c.args.n c.ranges.n.fits c.if-n-lt-TWO_DIGITS.false) in
    (omega arith, omega (arith, simp length-append at d))

pub bounds-out-next : goal.bounds-out-next
bounds-out-next t c =
    let d = ap length (decimal_large c.args.n c.ranges.n.fits c.if-n-lt-TWO_DIGITS.false) in
    omega (arith, simp length-append at d)

pub overflow_add-result-2 : goal.overflow_add-result-2
overflow_add-result-2 t c =
    let d = ap length (decimal_large c.args.n c.ranges.n.fits c.if-n-lt-TWO_DIGITS.false) in
    omega (arith, simp length-append at d)

pub returns-clause-value : goal.returns-clause-value
returns-clause-value t c =
    let d = ap length (decimal_large c.args.n c.ranges.n.fits c.if-n-lt-TWO_DIGITS.false) in
    omega (arith, simp length-append at d)

pub returns-clause-out_after : goal.returns-clause-out_after
returns-clause-out_after t c =
    let a = c.args in
    let d = c.put_decimal-next in
    let l = decimal_large a.n c.ranges.n.fits c.if-n-lt-TWO_DIGITS.false in
    let room : d.result < length a.out.now = omega (arith, simp length-append at (ap length l)) in
    rw l
    (placed_behind a.out.now d.new.out a.at d.result (48 + a.n % 10) (decimal (a.n / 10)) d.ensures.out_after
    d.ensures.value
    room)
