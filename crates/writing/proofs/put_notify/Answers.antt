-- `writing::put_notify` meets its contract: the header and the data, placed one after the other, are the payload.
use Rattle.std.proofs.Common.{◌≡◌, ℕ, ◌+◌, ◌/◌, ◌%◌, ◌<◌, length, take, arith}
use Rattle.octets.specs.Limits.{notify_header}
use Rattle.writing.specs.Notify.{notify_octets}
use Rattle.writing.proofs.Placed.{placed_more}
use Rattle.writing.proofs.put_notify.Goals as goal

pub returns-clause-out_after : goal.returns-clause-out_after
unfolding notify_octets
returns-clause-out_after c =
    let a = c.args in
    let size = notify_header + length a.octets.now in
    let header = take notify_header (notify_octets a.next a.notify_type a.octets.now) in
    let high : (n : ℕ) → n < 65536 → (n / 256) % 256 ≡ n / 256 = λ n h. omega arith in
    rw (
      c.copy_octets-2.ensures,
      c.copy_octets.ensures,
      c.to_be_bytes-length.ensures,
      c.to_be_bytes-kind.ensures,
      high size (omega arith),
      high a.notify_type (omega arith),
    )
    (placed_more a.out.now a.at header a.octets.now (omega arith))
