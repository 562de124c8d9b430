-- `asking::no_nats::no_nats_octets` meets its contract: three parts copied one behind the other.
-- Assumes nothing.
use Rattle.std.proofs.Common.{◌≡◌, ℕ, ◌≤◌, ◌<◌, ◌/◌, ◌%◌, length, arith, rules}
use Rattle.octets.specs.Limits.{address_octets}
use Rattle.octets.proofs.Mapped.{unmapped}
use Rattle.address.proofs.Width.{width_small}
use Rattle.asking.proofs.NoNats.{copied}
use Rattle.asking.proofs.no_nats.no_nats_octets.Goals as goal

pub returns : goal.returns
returns c =
    let p = c.args.pair in
    let width = c.width_of-width.result in
    let s : length p.source ≡ address_octets = search (rules, unmapped) in
    let d : length p.destination ≡ address_octets = search (rules, unmapped) in
    let w : width ≤ address_octets = omega (arith, width_small p.family) in
    let high : (n : ℕ) → n < 65536 → (n / 256) % 256 ≡ n / 256 = λ n h. omega arith in
    let ports = rw (
      c.to_be_bytes-source_port.ensures,
      c.to_be_bytes-destination_port.ensures,
      high p.source_port (omega arith),
      high p.destination_port (omega arith),
    ) at c.copy_octets-3.ensures in
    rw (← c.width_of-width.ensures)
    (copied width p.source p.destination s d w c.copy_octets.ensures c.copy_octets-2.ensures p.source_port
    p.destination_port c.copy_octets-3.new.out ports)
