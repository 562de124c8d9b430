-- Inner. What the reader gave before 6 was split, by 01 alone, kept to show that nothing else moved.
--
--   old_number    01's number of a fault
--   OldReading   what a reading gave; `old_reading` of a first type and a body
--   read_six      a reading with 61 to 65 read as 6, and without its ordinal
--   OnlySplit    every reading, read so, is what it was
use Rattle.std.specs.Prelude.{ℕ, ◌≡◌, List, cond, ◌&&◌, leb, ltb, length}
use Rattle.octets.specs.Limits.{body_most}
use Rattle.payload.specs.declared.payload.Fault.{Fault}
use Rattle.payload.specs.declared.payload.Fault.TheVariants.{ChainLength, NotifyShape, DataSize}
use Rattle.payload.specs.declared.payload.Fault.TheVariants.{Conflict, Leftover, Critical}
use Rattle.findings.specs.Seen.{nothing_seen}
use Rattle.findings.specs.declared.seen.Seen.{Seen}
use Rattle.reader.specs.Chain.{chain_at, scanned, Outcome, Whole, Broken, fault_type, reading}
use Rattle.reader.specs.declared.read.Reading.{Reading}

pub record OldReading : Type 0 where
  pub number : ℕ
  pub critical : ℕ
  pub offset : ℕ
  pub seen : Seen

abbrev pub old_number : Fault → ℕ
old_number ChainLength = 6
old_number NotifyShape = 6
old_number DataSize = 6
old_number Conflict = 6
old_number Leftover = 6
old_number (Critical payload_type) = 7

abbrev pub old_refused : ℕ → ℕ → ℕ → OldReading
old_refused number critical offset = record { number = number; critical = critical; offset = offset; seen = nothing_seen }

abbrev pub old_answer : Outcome → Seen → OldReading
old_answer Whole s = record { number = 0; critical = 0; offset = 0; seen = s }
old_answer (Broken f at) s = old_refused (old_number f) (fault_type f) at

abbrev pub old_reading : ℕ → List ℕ → OldReading
old_reading first body =
    let scan = scanned nothing_seen (chain_at body first 0) in
    cond (ltb body_most (length body)) (old_refused 3 0 0) (old_answer scan.outcome scan.seen)

abbrev pub read_six : Reading → OldReading
read_six r =
    record {
      number = cond (leb 61 r.number && leb r.number 65) 6 r.number;
      critical = r.critical;
      offset = r.offset;
      seen = r.seen;
    }

abbrev pub OnlySplit : Type 0
OnlySplit = (first : ℕ) (body : List ℕ) → read_six (reading first body) ≡ old_reading first body
