-- The numbers of a chain that is refused: what holds of 61 to 65 and of 7 holds of its number.
use Prim.Native.Nat.{ℕ, ◌≤◌}
use mathlib.Core.Path.{◌≡◌, refl}
use mathlib.Core.List.{List}
use borrow.Author.Tests.{le-ltb}
use lib.ListN.{length}
use Rattle.octets.specs.Limits.{body_most}
use Rattle.octets.specs.Numbers.{number_of}
use Rattle.octets.specs.declared.number.Number.TheVariants.{Done, UnknownCritical}
use Rattle.octets.specs.declared.number.Number.TheVariants.{BadChainLength, BadNotify, BadDataSize}
use Rattle.octets.specs.declared.number.Number.TheVariants.{Repeated, OctetsAfterEnd}
use Rattle.payload.specs.declared.payload.Fault.{Fault}
use Rattle.payload.specs.declared.payload.Fault.TheVariants.{ChainLength, NotifyShape, DataSize}
use Rattle.payload.specs.declared.payload.Fault.TheVariants.{Conflict, Leftover, Critical}
use Rattle.findings.specs.Seen.{nothing_seen}
use Rattle.findings.specs.declared.seen.Seen.{Seen}
use Rattle.reader.specs.Chain.{Scan, Chain, Outcome, Whole, Broken, chain_at, scanned}
use Rattle.reader.specs.Chain.{fault_number, answer, reading}

-- what is to be shown of each
pub record OfEach (P : ℕ → Type 0) : Type 0 where
  pub chain_length : P (number_of BadChainLength)
  pub notify : P (number_of BadNotify)
  pub data_size_lem : P (number_of BadDataSize)
  pub repeated : P (number_of Repeated)
  pub octets_after_end : P (number_of OctetsAfterEnd)
  pub critical : P (number_of UnknownCritical)

module _ (P : ℕ → Type 0) (each : OfEach P) where
  pub fault_of_lem : (f : Fault) → P (number_of (fault_number f))
  fault_of_lem ChainLength = each.chain_length
  fault_of_lem NotifyShape = each.notify
  fault_of_lem DataSize = each.data_size_lem
  fault_of_lem Conflict = each.repeated
  fault_of_lem Leftover = each.octets_after_end
  fault_of_lem (Critical payload_type) = each.critical

  pub broken_of : (first : ℕ) (body : List ℕ) → length body ≤ body_most
      → ((reading first body).number ≡ number_of Done → ⊥) → P (reading first body).number
  unfolding reading
  broken_of first body short = rw (le-ltb body_most (length body) short) (told found.outcome found.seen)
    where
      ch : Chain
      ch = chain_at body first 0

      found : Scan
      found = scanned nothing_seen ch

      told : (o : Outcome) (s : Seen) → ((answer ch o s).number ≡ number_of Done → ⊥) → P (answer ch o s).number
      told Whole s n = absurd (n refl)
      told (Broken f at) s n = fault_of_lem f
