-- The payloads that a scan has counted where it stops at a fault are those of the chain that begin before the fault.
use Prim.Native.Nat.{ℕ, suc, ◌+◌, ◌≤◌}
use mathlib.Core.Path.{◌≡◌, refl, ◌∙◌}
use mathlib.Core.List.{List}
use mathlib.Core.Bool.{Bool, true, false, cond}
use native.Mathlib.Omega.{arith}
use borrow.Author.Tests.{lt-ltb, le-ltb}
use Rattle.octets.specs.Limits.{notify_header}
use Rattle.payload.specs.declared.payload.Fault.TheVariants.{Conflict}
use Rattle.findings.specs.Seen.{nothing_seen, content_noted, conflicts}
use Rattle.findings.specs.declared.seen.Seen.{Seen}
use Rattle.findings.proofs.Counts.{one}
use Rattle.reader.specs.Chain.{Scan, Chain, ends, faulty, payload, payloads_before, chain_at}
use Rattle.reader.specs.Chain.{Outcome, Whole, Broken, stopped, scanned, answer}
use Rattle.reader.specs.Ends.{ends_as}
use Rattle.reader.proofs.Chain.{Formed, chain_formed}

-- where a scan of this chain, begun with so many payloads counted, stops: not before `least`, and with those before it
-- counted
abbrev pub Stops : ℕ → ℕ → Chain → Outcome → Seen → Type 0
Stops least start ch Whole s = Unit {0}
Stops least start ch (Broken f at) s = (least ≤ at) × (s.tally.payloads ≡ start + payloads_before ch at)

pub scan_stops : (s : Seen) (ch : Chain) (least : ℕ) → Formed least ch
    → Stops least s.tally.payloads ch (scanned s ch).outcome (scanned s ch).seen
unfolding scanned
scan_stops s ends least h = tt
scan_stops s (faulty f at) least h = (h, omega arith)
scan_stops s (payload at content rest) least h = go (conflicts s content) (scan_stops more rest (suc at) h.2)
  where
    more : Seen
    more = content_noted s content (at + notify_header)

    next : Scan
    next = scanned more rest

    further : (o : Outcome) (t : Seen) → Stops (suc at) more.tally.payloads rest o t
        → Stops least s.tally.payloads (payload at content rest) o t
    further Whole t r = tt
    further (Broken f to) t r = (
      omega (arith, h.0, r.0),
      rw (lt-ltb at to r.0) (r.1 ∙ omega (arith, one s content (at + notify_header))),
    )

    go : (b : Bool) → Stops (suc at) more.tally.payloads rest next.outcome next.seen
        → let x = cond b (stopped (Broken Conflict at) s) next in
        Stops least s.tally.payloads (payload at content rest) x.outcome x.seen
    go true r = (h.0, rw (le-ltb at at (omega arith)) (omega arith))
    go false r = further next.outcome next.seen r

-- what is told of a scan of a whole body, by what it counted, is what is told of it by the chain
pub ordinal_told_lem : (first : ℕ) (body : List ℕ)
    → let ch = chain_at body first 0 in
    let x = scanned nothing_seen ch in
    ends_as x.outcome x.seen ≡ answer ch x.outcome x.seen
ordinal_told_lem first body =
    go found.outcome found.seen (scan_stops nothing_seen ch 0 (chain_formed body first 0 (omega arith)))
  where
    ch : Chain
    ch = chain_at body first 0

    found : Scan
    found = scanned nothing_seen ch

    go : (o : Outcome) (s : Seen) → Stops 0 0 ch o s → ends_as o s ≡ answer ch o s
    go Whole s h = refl
    go (Broken f at) s h = let e : s.tally.payloads ≡ payloads_before ch at = omega (arith, h.1) in rw e
