-- The payload count that a reading tells is the length of the chain that was read.
use Prim.Native.Nat.{ℕ, suc, ◌+◌}
use mathlib.Core.Path.{◌≡◌, sym, ap, ◌∙◌}
use mathlib.Core.List.{List}
use mathlib.Core.Bool.{Bool, true, false, cond}
use native.Mathlib.Omega.{arith}
use Rattle.octets.specs.Limits.{notify_header}
use Rattle.octets.specs.Numbers.{number_of}
use Rattle.octets.specs.declared.number.Number.TheVariants.{Done}
use Rattle.findings.specs.Seen.{nothing_seen, content_noted, conflicts}
use Rattle.reader.specs.Chain.{Scan, Chain, ends, faulty, payload, count, chain_at, Whole, Broken}
use Rattle.reader.specs.Chain.{stopped, scanned, reading, ReadAs}
use Rattle.payload.specs.declared.payload.Fault.TheVariants.{Conflict}
use Rattle.findings.specs.declared.seen.Seen.{Seen}
use Rattle.findings.proofs.Counts.{one}
use Rattle.reader.specs.declared.read.Reading.{Reading}
use Rattle.reader.proofs.Whole.{read_whole}

pub whole_scan : (s : Seen) (ch : Chain) → (scanned s ch).outcome ≡ Whole
    → (scanned s ch).seen.tally.payloads ≡ s.tally.payloads + count ch
unfolding scanned
whole_scan s ends e = omega arith
whole_scan s (faulty f at) e = let z : ◌≡◌ {A = ℕ} 0 1 = cc in absurd (omega arith)
whole_scan s (payload at content rest) e = go (conflicts s content) e (whole_scan more rest)
  where
    more : Seen
    more = content_noted s content (at + notify_header)

    next : Scan
    next = scanned more rest

    go : (b : Bool) → (cond b (stopped (Broken Conflict at) s) next).outcome ≡ Whole
        → (next.outcome ≡ Whole → next.seen.tally.payloads ≡ more.tally.payloads + count rest)
        → (cond b (stopped (Broken Conflict at) s) next).seen.tally.payloads ≡ s.tally.payloads + suc (count rest)
    go true e h = let z : ◌≡◌ {A = ℕ} 0 1 = cc in absurd (omega arith)
    go false e h = h e ∙ omega (arith, one s content (at + notify_header))

counts : (first : ℕ) (body : List ℕ) → (reading first body).number ≡ number_of Done
    → (reading first body).seen.tally.payloads ≡ count (chain_at body first 0)
counts first body e =
    let w = read_whole first body e in
    ap (λ (x : Scan). x.seen.tally.payloads) (sym w)
    ∙ whole_scan nothing_seen (chain_at body first 0) (ap (λ (x : Scan). x.outcome) w) ∙ omega arith

-- what is read as defined is counted as promised
pub promised : (first : ℕ) (body : List ℕ) (r : Reading) → r ≡ reading first body → ReadAs first body r
promised first body r e = record { is = e; counts = rw e (counts first body) }
