-- A reading that is answered with 0 scanned its chain whole, and hands out what was seen.
use Prim.Native.Nat.{ℕ, ◌≤◌}
use mathlib.Core.Path.{◌≡◌, refl}
use mathlib.Core.List.{List}
use mathlib.Core.Bool.{Bool, true, false, cond}
use native.Mathlib.Omega.{arith}
use lib.Dec.{ltb}
use lib.ListN.{length}
use Rattle.octets.specs.Limits.{body_most}
use Rattle.octets.specs.Numbers.{number_of}
use Rattle.octets.specs.declared.number.Number.TheVariants.{Done, BodyTooLong}
use Rattle.reader.specs.declared.read.Reading.{Reading}
use Rattle.payload.specs.declared.payload.Fault.{Fault}
use Rattle.payload.specs.declared.payload.Fault.TheVariants.{ChainLength, NotifyShape, DataSize}
use Rattle.payload.specs.declared.payload.Fault.TheVariants.{Conflict, Leftover, Critical}
use Rattle.findings.specs.Seen.{nothing_seen}
use Rattle.findings.specs.declared.seen.Seen.{Seen}
use Rattle.reader.specs.Chain.{Scan, Chain, Outcome, Whole, Broken, chain_at, stopped, scanned, fault_number}
use Rattle.reader.specs.Chain.{answer, refused, reading}

-- no fault has the number 0
pub faults_told : (f : Fault) → 1 ≤ number_of (fault_number f)
faults_told ChainLength = omega arith
faults_told NotifyShape = omega arith
faults_told DataSize = omega arith
faults_told Conflict = omega arith
faults_told Leftover = omega arith
faults_told (Critical t) = omega arith

pub told_whole : (ch : Chain) (o : Outcome) (s : Seen) → (answer ch o s).number ≡ number_of Done
    → stopped o s ≡ stopped Whole (answer ch o s).seen
told_whole ch Whole s e = refl
told_whole ch (Broken f at) s e = absurd (omega (arith, faults_told f))

pub read_whole : (first : ℕ) (body : List ℕ) → (reading first body).number ≡ number_of Done
    → scanned nothing_seen (chain_at body first 0) ≡ stopped Whole (reading first body).seen
unfolding reading
read_whole first body = go (ltb body_most (length body))
  where
    ch : Chain
    ch = chain_at body first 0

    found : Scan
    found = scanned nothing_seen ch

    told : Bool → Reading
    told long = cond long (refused (number_of BodyTooLong) 0 0 0) (answer ch found.outcome found.seen)

    go : (long : Bool) → (told long).number ≡ number_of Done → found ≡ stopped Whole (told long).seen
    go true e = absurd (omega arith)
    go false e = told_whole ch found.outcome found.seen e
