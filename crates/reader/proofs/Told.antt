-- The fault at which a refused chain stops is told by its number, and but for that number nothing is told otherwise
-- than before 6 was split.
use mathlib.Core.Path.{◌≡◌, refl, sym, ap}
use mathlib.Core.Bool.{Bool, true, false, cond}
use borrow.Author.Tests.{le-ltb}
use lib.Dec.{ltb}
use lib.ListN.{length}
use Rattle.octets.specs.Limits.{body_most}
use Rattle.octets.specs.Numbers.{number_of}
use Rattle.octets.specs.declared.number.Number.TheVariants.{Done, BodyTooLong}
use Rattle.payload.specs.declared.payload.Fault.{Fault}
use Rattle.payload.specs.declared.payload.Fault.TheVariants.{ChainLength, NotifyShape, DataSize}
use Rattle.payload.specs.declared.payload.Fault.TheVariants.{Conflict, Leftover, Critical}
use Rattle.findings.specs.Seen.{nothing_seen}
use Rattle.findings.specs.declared.seen.Seen.{Seen}
use Rattle.reader.specs.Chain.{Scan, Chain, Outcome, Whole, Broken, chain_at, scanned, fault_number, fault_type}
use Rattle.reader.specs.Chain.{answer, refused, reading}
use Rattle.reader.specs.Told.{fault_of, EachTold}
use Rattle.reader.specs.Six.{old_refused, old_answer, read_six, OnlySplit}

fault_told : (f : Fault) → fault_of (number_of (fault_number f)) (fault_type f) ≡ f
fault_told ChainLength = refl
fault_told NotifyShape = refl
fault_told DataSize = refl
fault_told Conflict = refl
fault_told Leftover = refl
fault_told (Critical payload_type) = refl

pub each_told : EachTold
unfolding reading
each_told first body short = rw (le-ltb body_most (length body) short) (told found.outcome found.seen)
  where
    ch : Chain
    ch = chain_at body first 0

    found : Scan
    found = scanned nothing_seen ch

    told : (o : Outcome) (s : Seen)
        → let r = answer ch o s in
        (r.number ≡ number_of Done → ⊥) → o ≡ Broken (fault_of r.number r.critical) r.offset
    told Whole s n = absurd (n refl)
    told (Broken f at) s n = ap (λ (g : Fault). Broken g at) (sym (fault_told f))

answer_split : (ch : Chain) (o : Outcome) (s : Seen) → read_six (answer ch o s) ≡ old_answer o s
answer_split ch Whole s = refl
answer_split ch (Broken ChainLength at) s = refl
answer_split ch (Broken NotifyShape at) s = refl
answer_split ch (Broken DataSize at) s = refl
answer_split ch (Broken Conflict at) s = refl
answer_split ch (Broken Leftover at) s = refl
answer_split ch (Broken (Critical payload_type) at) s = refl

pub only_split : OnlySplit
unfolding reading
only_split first body = go (ltb body_most (length body))
  where
    ch : Chain
    ch = chain_at body first 0

    found : Scan
    found = scanned nothing_seen ch

    go : (b : Bool)
        → read_six (cond b (refused (number_of BodyTooLong) 0 0 0) (answer ch found.outcome found.seen))
        ≡ cond b (old_refused 3 0 0) (old_answer found.outcome found.seen)
    go true = refl
    go false = answer_split ch found.outcome found.seen
