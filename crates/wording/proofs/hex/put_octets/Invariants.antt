-- The loop of `wording::hex::put_octets`: `out` is what it was with the digits of the first octets placed at `at`, and as
-- long as it was, and `to` is the place after them.
use Rattle.std.proofs.Common.{◌≡◌, ◌+◌, ◌*◌, ◌≤◌, length, take}
use Rattle.writing.specs.Notify.{placed}
use Rattle.wording.specs.Text.{hex}
use Rattle.wording.proofs.hex.put_octets.Given as goal

abbrev pub invariant-loop-octet : goal.invariant-loop-octet
invariant-loop-octet l =
    (l.octet-index ≤ length l.octets) × (length l.out ≡ length l.initial.out) × (l.to ≡ l.at + 2 * l.octet-index)
    × (l.out ≡ placed l.initial.out l.at (hex (take l.octet-index l.octets)))
