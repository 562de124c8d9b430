-- What a clone request can come to: refused before its chain is read, refused by its chain or behind it, or done.
use Prim.Native.Nat.{ℕ}
use mathlib.Core.Path.{◌≡◌}
use mathlib.Core.List.{List, []}
use borrow.Author.Tests.{eq-eqb, ne_eqb}
use lib.ListN.{length, set}
use Rattle.writing.specs.Notify.{Notification, first_type, chained}
use Rattle.records.specs.declared.ike.IkeRecord.{IkeRecord}
use Rattle.cloning.specs.Clone.{CloneRequest, clone_notifies, clone_told, cloned}
use Rattle.cloning.proofs.Cloned.{free, new, read, early, late}

module _ (ike : List IkeRecord) (q : CloneRequest) where
  -- number, response with what is told of it, payloads, and the IKE table
  pub record ComesTo (n : ℕ) (response : List Notification) (counted : ℕ) (after : List IkeRecord) : Type 0 where
    pub number : (cloned ike q).reply.number ≡ n
    pub octets : (cloned ike q).octets ≡ chained response 0
    pub first : (cloned ike q).reply.first ≡ first_type response 0
    pub long : (cloned ike q).reply.length ≡ length (chained response 0)
    pub payloads : (cloned ike q).reply.payloads ≡ counted
    pub left : (cloned ike q).ike ≡ after

  pub refused_early : (early ike q ≡ 0 → ⊥) → ComesTo (early ike q) [] 0 ike
  unfolding cloned chained
  refused_early n =
      let f = ne_eqb (early ike q) 0 n in
      record { number = rw f; octets = rw f; first = rw f; long = rw f; payloads = rw f; left = rw f }

  -- by its number: what is written and counted goes by the reading
  abbrev pub Answered : ℕ → List IkeRecord → Type 0
  Answered n after =
      let r = (read ike q).reading in
      ComesTo n (clone_notifies n r) r.seen.tally.payloads after

  module _ (passes : early ike q ≡ 0) where
    pub refused_late : (late ike q ≡ 0 → ⊥) → Answered (late ike q) ike
    unfolding cloned clone_told
    refused_late n =
        let f = eq-eqb (early ike q) 0 passes in
        let g = ne_eqb (late ike q) 0 n in
        record {
          number = rw (f, g);
          octets = rw (f, g);
          first = rw (f, g);
          long = rw (f, g);
          payloads = rw (f, g);
          left = rw (f, g);
        }

    pub done : late ike q ≡ 0 → Answered 0 (set ike (free ike q) (new ike q))
    unfolding cloned clone_told
    done z =
        let f = eq-eqb (early ike q) 0 passes in
        record {
          number = rw (f, z);
          octets = rw (f, z);
          first = rw (f, z);
          long = rw (f, z);
          payloads = rw (f, z);
          left = rw (f, z);
        }
