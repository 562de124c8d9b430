-- Trusted. The chain of a clone request: 02, E8, and RFC 7791. It is 01's payload chain, in which
-- CLONE_IKE_SA_SUPPORTED and CLONE_IKE_SA are "known and decided only in a CREATE_CHILD_SA request given as an IKE
-- rekey"; every other chain tallies both.
--
--   isClone          a notify type is one of the two
--   clone_fault       what is wrong with a payload as one of the two: nothing (`Whole`), or a fault at its offset
--   clone_outcome     the first such fault of a chain
--   earlier          of two outcomes of one chain the one at the smaller offset
--   holds            a notification of a type stands in a chain
--   is_whole          a chain is not refused
--   clone_reading     what reading a clone request of at most 4,096 octets gives
use Rattle.std.specs.Prelude.{ℕ, ◌+◌, List, Bool, true, false, cond, ◌&&◌, ◌||◌, not, eqb, ltb, get_or}
use Rattle.octets.specs.Wire.{clone_ike_sa_supported, clone_ike_sa}
use Rattle.payload.specs.Payload.{spi_size_at}
use Rattle.payload.specs.declared.payload.Content.{Content}
use Rattle.payload.specs.declared.payload.Content.TheVariants.{Skipped, Unknown, Notify}
use Rattle.payload.specs.declared.payload.Fault.TheVariants.{NotifyShape, DataSize}
use Rattle.findings.specs.Seen.{nothing_seen}
use Rattle.reader.specs.Chain.{Chain, ends, faulty, payload, chain_at, Outcome, Whole, Broken, scanned, answer}
use Rattle.clone_chain.specs.declared.read.CloneReading.{CloneReading}

abbrev pub is_clone : ℕ → Bool
is_clone notify_type = eqb notify_type clone_ike_sa_supported || eqb notify_type clone_ike_sa

-- E8: "no data"; 01, of the types that it knows: "an SPI size there other than 0" is malformed. 02, E4: "62 (Notify
-- lengths or SPI), 63 (data size)"; "at one payload the lowest of them is told". A second one is no fault.
abbrev pub clone_fault : List ℕ → ℕ → Content → Outcome
clone_fault body at Skipped = Whole
clone_fault body at Unknown = Whole
clone_fault body at (Notify kind notify_type size) =
    cond (not (is_clone notify_type)) Whole
    (cond (not (eqb (get_or body (at + spi_size_at) 0) 0)) (Broken NotifyShape at)
    (cond (not (eqb size 0)) (Broken DataSize at) Whole))

abbrev pub or_else : Outcome → Outcome → Outcome
or_else Whole o = o
or_else (Broken f at) o = Broken f at

abbrev pub clone_outcome : List ℕ → Chain → Outcome
clone_outcome body ends = Whole
clone_outcome body (faulty f at) = Whole
clone_outcome body (payload at content rest) = or_else (clone_fault body at content) (clone_outcome body rest)

-- 01: "The fault at the smallest offset is told". No payload is faulty in both ways.
abbrev pub earlier : Outcome → Outcome → Outcome
earlier Whole o = o
earlier (Broken f at) Whole = Broken f at
earlier (Broken f at) (Broken g to) = cond (ltb to at) (Broken g to) (Broken f at)

abbrev pub is_of_type : ℕ → Content → Bool
is_of_type wanted Skipped = false
is_of_type wanted Unknown = false
is_of_type wanted (Notify kind notify_type size) = eqb notify_type wanted

abbrev pub holds : ℕ → Chain → Bool
holds wanted ends = false
holds wanted (faulty f at) = false
holds wanted (payload at content rest) = is_of_type wanted content || holds wanted rest

abbrev pub is_whole : Outcome → Bool
is_whole Whole = true
is_whole (Broken f at) = false

-- The reading of 01's chain, which stops at its own faults or at those of the two, whichever comes first; and which of
-- the two stand in the chain. As of everything else that was seen, nothing is told of them if the chain is refused.
unfoldable pub clone_reading : ℕ → List ℕ → CloneReading
clone_reading first body =
    let ch = chain_at body first 0 in
    let scan = scanned nothing_seen ch in
    let outcome = earlier scan.outcome (clone_outcome body ch) in
    record {
      reading = answer ch outcome scan.seen;
      supported = is_whole outcome && holds clone_ike_sa_supported ch;
      clone = is_whole outcome && holds clone_ike_sa ch;
    }
