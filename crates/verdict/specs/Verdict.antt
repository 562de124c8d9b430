-- Trusted. What an update that is not stale comes to: 01's "One request, step by step", step 2, the checks of 8 and 9.
--
--   Verdict         accepted, altered on the way, or not acceptable
--   unaltered       NO_NATS_ALLOWED is not there, or equals the packet's addresses and ports
--   verdict         the first of the two checks that fails, or accepted, by whether the policy accepts the pair
--   verdict_number   the verdict as it is told
use Rattle.std.specs.Prelude.{ℕ, Bool, true, false, cond, ◌&&◌, ◌||◌, not, eqb}
use Rattle.octets.specs.Limits.{address_octets}
use Rattle.octets.specs.Lists.{same_octets}
use Rattle.octets.specs.Numbers.{number_of}
use Rattle.octets.specs.declared.number.Number.{Number}
use Rattle.octets.specs.declared.number.Number.TheVariants.{Done, AddressesAltered, NotAcceptable}
use Rattle.address.specs.declared.pair.Pair.{Pair}
use Rattle.values.specs.declared.NoNats.{NoNats}
use Rattle.verdict.specs.declared.update.Verdict.{Verdict}
use Rattle.verdict.specs.declared.update.Verdict.TheVariants.{Accepted, Altered, Unacceptable}

-- 01: "NO_NATS_ALLOWED, if present, must equal the packet's addresses and ports, else 8; a wrong length for the family
-- is unequal." Family 0 is that of a NO_NATS_ALLOWED that is not there.
unfoldable pub unaltered : NoNats → Pair → Bool
unaltered n p =
    eqb n.family 0
    || (eqb n.family p.family
    && (eqb n.source_port p.source_port
    && (eqb n.destination_port p.destination_port
    && (same_octets address_octets n.source p.source
    && same_octets address_octets n.destination p.destination))))

-- 01: "Then NO_NATS_ALLOWED ..., else 8 ... Then the pair must be acceptable, else 9." A line for each check, in this
-- order; `accepted` says whether the pair is acceptable.
unfoldable pub verdict : Bool → NoNats → Pair → Verdict
verdict accepted n p =
    cond (not (unaltered n p)) Altered
    (cond (not accepted) Unacceptable
    Accepted)

abbrev pub is_accepted : Verdict → Bool
is_accepted Accepted = true
is_accepted Altered = false
is_accepted Unacceptable = false

-- 01: "8: addresses altered on the way", "9: pair not acceptable", else 0.
abbrev pub verdict_told : Verdict → Number
verdict_told Accepted = Done
verdict_told Altered = AddressesAltered
verdict_told Unacceptable = NotAcceptable

abbrev pub verdict_number : Verdict → ℕ
verdict_number v = number_of (verdict_told v)
