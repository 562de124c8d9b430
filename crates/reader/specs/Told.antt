-- Trusted. Each number of a refused chain comes in its own case only: 02, E4.
--
--   fault_of    the fault that a number tells, with the type of a critical payload
--   EachTold   a chain that is refused stops at the fault that its number tells, at the offset that is told. That the
--              fault where it stops gives its number is what `answer` in Chain.antt says.
use Rattle.std.specs.Prelude.{ℕ, ◌≤◌, ◌≡◌, List, cond, eqb, length}
use Rattle.octets.specs.Limits.{body_most}
use Rattle.octets.specs.Numbers.{number_of}
use Rattle.octets.specs.declared.number.Number.TheVariants.{Done, BadChainLength, BadNotify, BadDataSize}
use Rattle.octets.specs.declared.number.Number.TheVariants.{Repeated, OctetsAfterEnd}
use Rattle.payload.specs.declared.payload.Fault.{Fault}
use Rattle.payload.specs.declared.payload.Fault.TheVariants.{ChainLength, NotifyShape, DataSize}
use Rattle.payload.specs.declared.payload.Fault.TheVariants.{Conflict, Leftover, Critical}
use Rattle.findings.specs.Seen.{nothing_seen}
use Rattle.reader.specs.Chain.{chain_at, scanned, Broken, reading}

abbrev pub fault_of : ℕ → ℕ → Fault
fault_of number payload_type =
    cond (eqb number (number_of BadChainLength)) ChainLength
    (cond (eqb number (number_of BadNotify)) NotifyShape
    (cond (eqb number (number_of BadDataSize)) DataSize
    (cond (eqb number (number_of Repeated)) Conflict
    (cond (eqb number (number_of OctetsAfterEnd)) Leftover
    (Critical payload_type)))))

abbrev pub EachTold : Type 0
EachTold =
    (first : ℕ) (body : List ℕ) → length body ≤ body_most
    → let r = reading first body in
    (r.number ≡ number_of Done → ⊥)
    → (scanned nothing_seen (chain_at body first 0)).outcome ≡ Broken (fault_of r.number r.critical) r.offset
