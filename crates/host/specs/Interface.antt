-- Trusted. The number of the interface: the layout of the structs and the calls of the crates `host` and `host_*`, which
-- `unmavreth_c` exports. A landing that changes one of them raises it.
use Rattle.std.specs.Prelude.{ℕ}

abbrev pub interface_number : ℕ
interface_number = 5
