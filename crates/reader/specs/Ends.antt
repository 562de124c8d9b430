-- Inner. What a scan is given and what it comes to; that the payloads counted up to there are those before the fault
-- in the trusted sense is shown in proofs/Ordinal.antt.
use Rattle.std.specs.Prelude.{ℕ, ◌+◌, ◌≤◌, ◌≡◌, List, cond, eqb, length, get_or}
use Rattle.octets.specs.Limits.{body_most, payload_header}
use Rattle.octets.specs.Numbers.{number_of}
use Rattle.payload.specs.declared.payload.Fault.TheVariants.{Leftover}
use Rattle.findings.specs.Counted.{Counted}
use Rattle.findings.specs.declared.seen.Seen.{Seen}
use Rattle.reader.specs.Chain.{ends, chain_at, scanned, Outcome, Whole, Broken, fault_number, fault_type, answer, refused}
use Rattle.reader.specs.declared.read.Reading.{Reading}

-- What holds at each step of the reader: the offset is in the body, and the counts are no more than the octets passed.
pub record Scanning (body : List ℕ) (at : ℕ) (s : Seen) : Type 0 where
  pub inside : at ≤ length body
  pub short : length body ≤ body_most
  pub counts : Counted at s

-- A payload of so many octets was read behind what was seen, s, with which t was seen: the chain goes on where it ends.
pub record GoesOn (payload_type : ℕ) (body : List ℕ) (at size : ℕ) (s t : Seen) : Type 0 where
  pub header : payload_header ≤ size
  pub scanning : Scanning body (at + size) t
  pub rest : scanned s (chain_at body payload_type at) ≡ scanned t (chain_at body (get_or body at 0) (at + size))

-- the end of a chain, as the outcome of its scan
abbrev pub end_of : List ℕ → ℕ → Outcome
end_of body at = cond (eqb at (length body)) Whole (Broken Leftover at)

-- the reading that a scan comes to, with the payloads that it counted for the ordinal
abbrev pub ends_as : Outcome → Seen → Reading
ends_as Whole s = answer ends Whole s
ends_as (Broken f at) s = refused (number_of (fault_number f)) (fault_type f) at s.tally.payloads
