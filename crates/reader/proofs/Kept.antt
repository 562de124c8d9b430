-- What every payload that fits keeps true of what was seen is true of what a reading hands out.
use Prim.Native.Nat.{ℕ, suc, ◌+◌}
use mathlib.Core.List.{List}
use mathlib.Core.Bool.{Bool, true, false, cond}
use native.Mathlib.Omega.{arith}
use lib.Dec.{ltb}
use lib.ListN.{length}
use Rattle.octets.specs.Limits.{body_most, notify_header}
use Rattle.octets.specs.Numbers.{number_of}
use Rattle.octets.specs.declared.number.Number.TheVariants.{BodyTooLong}
use Rattle.payload.specs.declared.payload.Fault.TheVariants.{Conflict}
use Rattle.payload.specs.declared.payload.Content.{Content}
use Rattle.findings.specs.Seen.{nothing_seen, content_noted, conflicts}
use Rattle.findings.specs.declared.seen.Seen.{Seen}
use Rattle.reader.specs.Chain.{Scan, Chain, ends, faulty, payload, chain_at, Outcome, Whole, Broken}
use Rattle.reader.specs.Chain.{stopped, scanned, answer, refused, reading}
use Rattle.reader.specs.declared.read.Reading.{Reading}
use Rattle.reader.proofs.Chain.{DataFits, Formed, chain_formed}

module _ (P : Seen → Type 0) (start : P nothing_seen)
    (step : (s : Seen) (content : Content) (at : ℕ) → P s → DataFits content → P (content_noted s content at)) where
  scan_kept : (s : Seen) (ch : Chain) (least : ℕ) → P s → Formed least ch → P (scanned s ch).seen
  unfolding scanned
  scan_kept s ends least h f = h
  scan_kept s (faulty e at) least h f = h
  scan_kept s (payload at content rest) least h f =
      go (conflicts s content) (scan_kept more rest (suc at) (step s content (at + notify_header) h f.1) f.2)
    where
      more : Seen
      more = content_noted s content (at + notify_header)

      next : Scan
      next = scanned more rest

      go : (b : Bool) → P next.seen → P (cond b (stopped (Broken Conflict at) s) next).seen
      go true r = h
      go false r = r

  answer_kept : (ch : Chain) (o : Outcome) (s : Seen) → P s → P (answer ch o s).seen
  answer_kept ch Whole s h = h
  answer_kept ch (Broken f at) s h = start

  pub kept : (first : ℕ) (body : List ℕ) → P (reading first body).seen
  unfolding reading
  kept first body = go (ltb body_most (length body))
    where
      ch : Chain
      ch = chain_at body first 0

      found : Scan
      found = scanned nothing_seen ch

      told : Reading
      told = answer ch found.outcome found.seen

      go : (b : Bool) → P (cond b (refused (number_of BodyTooLong) 0 0 0) told).seen
      go true = start
      go false =
          answer_kept ch found.outcome found.seen
          (scan_kept nothing_seen ch 0 start (chain_formed body first 0 (omega arith)))
