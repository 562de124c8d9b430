-- Laws of scanning: one for each way that a step can end.
use Prim.Native.Nat.{ℕ, ◌+◌, ◌≤◌}
use mathlib.Core.Path.{◌≡◌, refl}
use mathlib.Core.List.{List}
use mathlib.Core.Bool.{Bool, true, false, cond}
use borrow.Author.Tests.{eq-eqb, ne_eqb}
use lib.Dec.{eqb}
use lib.ListN.{length, get_or}
use Rattle.octets.specs.Limits.{notify_header}
use Rattle.payload.specs.Payload.{payload_at}
use Rattle.findings.specs.Seen.{content_noted, conflicts}
use Rattle.reader.specs.Chain.{ends, faulty, chain_at, Whole, Broken, scanned, stopped}
use Rattle.reader.specs.Ends.{end_of}
use Rattle.payload.specs.declared.payload.Fault.{Fault}
use Rattle.payload.specs.declared.payload.Fault.TheVariants.{Leftover, Conflict}
use Rattle.payload.specs.declared.payload.Content.{Content}
use Rattle.payload.specs.Payload.{Payload, Faulty}
use Rattle.findings.specs.declared.seen.Seen.{Seen}
use Rattle.reader.proofs.Chain.{chain_step}

module _ (s : Seen) (payload_type : ℕ) (body : List ℕ) (at : ℕ) (inside : at ≤ length body) where
  pub at_end : payload_type ≡ 0 → scanned s (chain_at body payload_type at) ≡ stopped (end_of body at) s
  unfolding scanned
  at_end z = rw (chain_step payload_type body at inside, eq-eqb payload_type 0 z) (either (eqb at (length body)))
    where
      either : (b : Bool) → scanned s (cond b ends (faulty Leftover at)) ≡ stopped (cond b Whole (Broken Leftover at)) s
      either true = refl
      either false = refl

  module _ (more : payload_type ≡ 0 → ⊥) where
    pub at_fault : (f : Fault) → payload_at payload_type body at ≡ Faulty f
        → scanned s (chain_at body payload_type at) ≡ stopped (Broken f at) s
    unfolding scanned
    at_fault f e = rw (chain_step payload_type body at inside, ne_eqb payload_type 0 more, e)

    module _ (n : ℕ) (content : Content) (e : payload_at payload_type body at ≡ Payload n content) where
      pub at_conflict : conflicts s content ≡ true
          → scanned s (chain_at body payload_type at) ≡ stopped (Broken Conflict at) s
      unfolding scanned
      at_conflict c = rw (chain_step payload_type body at inside, ne_eqb payload_type 0 more, e, c)

      pub at_payload : conflicts s content ≡ false
          → scanned s (chain_at body payload_type at)
          ≡ scanned (content_noted s content (at + notify_header)) (chain_at body (get_or body at 0) (at + n))
      unfolding scanned
      at_payload c = rw (chain_step payload_type body at inside, ne_eqb payload_type 0 more, e, c)
