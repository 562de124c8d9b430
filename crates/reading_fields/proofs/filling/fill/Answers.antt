-- `reading_fields::filling::fill` meets its contract: what stands before and behind the part is as it was.
use Rattle.std.proofs.Common.{◌≡◌, ℕ, ◌-◌, length, take, drop, arith}
use Rattle.std.proofs.Math.ListN.{length-take, length-drop, length-replicate}
use Rattle.std.proofs.Math.Seq.{drop-drop}
use Rattle.writing.specs.Notify.{placed}
use Rattle.reading_fields.proofs.filling.fill.Goals as goal

pub returns : goal.returns
unfolding placed
returns c =
    let a = c.args in
    let n = a.end - a.from in
    let l : length (take n (drop a.from a.slots.now)) ≡ n = simp (length-take, length-drop) (omega arith) in
    rw (c.fill.ensures.after (λ y e. e), l, length-replicate {A = ℕ} n 0, drop-drop n a.from a.slots.now)
