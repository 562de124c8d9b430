-- One call of the scan: what is told of the payload that it reads.
use Prim.Native.Nat.{ℕ, ◌+◌}
use mathlib.Core.Path.{◌≡◌}
use mathlib.Core.List.{List}
use mathlib.Core.Bool.{true, false}
use native.Mathlib.Omega.{arith}
use Rattle.octets.specs.Limits.{notify_header}
use Rattle.payload.specs.Payload.{Payload, payload_at}
use Rattle.payload.specs.declared.payload.Fault.TheVariants.{Conflict}
use Rattle.payload.specs.declared.payload.Content.{Content}
use Rattle.findings.specs.Seen.{content_noted, conflicts}
use Rattle.findings.specs.declared.seen.Seen.{Seen}
use Rattle.findings.proofs.Counts.{counted_more}
use Rattle.reader.specs.Chain.{chain_at, Broken, scanned, stopped}
use Rattle.reader.specs.Ends.{Scanning, GoesOn}
use Rattle.reader.proofs.Chain.{takes}
use Rattle.reader.proofs.Scan.{at_conflict, at_payload}

module _ (s : Seen) (payload_type : ℕ) (body : List ℕ) (at : ℕ) (p : Scanning body at s)
    (more : payload_type ≡ 0 → ⊥) (size : ℕ) (content : Content) (t : Seen) where
  pub conflicted : payload_at payload_type body at ≡ Payload size content → conflicts s content ≡ true → t ≡ s
      → scanned s (chain_at body payload_type at) ≡ stopped (Broken Conflict at) t
  conflicted e c n = rw n (at_conflict s payload_type body at p.inside more size content e c)

  pub goes_on : payload_at payload_type body at ≡ Payload size content → conflicts s content ≡ false
      → t ≡ content_noted s content (at + notify_header) → GoesOn payload_type body at size s t
  goes_on e c n =
      let w = takes payload_type body at p.inside size content e in
      rw n
      (record {
        header = w.0;
        scanning =
            record {
              inside = w.1;
              short = p.short;
              counts = counted_more s content (at + notify_header) at (at + size) p.counts (omega (arith, w.0));
            };
        rest = at_payload s payload_type body at p.inside more size content e c;
      })
