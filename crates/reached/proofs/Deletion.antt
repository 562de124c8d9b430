-- What was agreed for an IKE record in use stays, and so does its deletion mark but for the call that sets it, call by
-- call.
use Prim.Native.Nat.{ℕ, ◌<◌}
use mathlib.Core.Path.{◌≡◌, refl, sym, ap, ◌∙◌}
use mathlib.Core.Logic.{⊎_elim}
use mathlib.Core.List.{List}
use native.Mathlib.Decide.{ℕ_discrete}
use borrow.Author.Tests.{ltb-true}
use lib.ListN.{length, get_or, set}
use lib.Seq.{get_or-set_same, get_or-set_other}
use Rattle.octets.specs.Lists.{place_of}
use Rattle.octets.proofs.Places.{place_has}
use Rattle.records.specs.Records.{ike_spi, no_ike, clone_of, deletion_marked, unchecked}
use Rattle.records.specs.declared.ike.IkeRecord.{IkeRecord}
use Rattle.tables.specs.Opening.{ike_of}
use Rattle.tables.specs.Tables.{Tables, meant}
use Rattle.tables.proofs.Cases.{Own, both_or_neither, close_ike_cases, mark_deletion_cases}
use Rattle.checking.specs.Checks.{Request}
use Rattle.checking.proofs.Checks.{passed}
use Rattle.policy.specs.declared.rules.Policy.{Policy}
use Rattle.responder.specs.Handle.{after_request}
use Rattle.numbers.proofs.Cores.{entry_by}
use Rattle.numbers.proofs.Ways as ways
use Rattle.routability.specs.Routability.{CheckResponse, after_response}
use Rattle.routability.proofs.Laws as laws
use Rattle.cloning.proofs.Cloned.{clone_cases}
use Rattle.reached.specs.Reached.{Call, opens_both, opens_ipsec, closes_ike, closes_ipsec, requests, checks}
use Rattle.reached.specs.Reached.{clones, marks_deletion, after_call}
use Rattle.reached.specs.Deletion.{kept, marked, Kept, DeletionKept}

module _ (t : Tables) (i : ℕ) (used : (get_or t.ike i no_ike).spi ≡ 0 → ⊥) where
  abbrev old : IkeRecord
  old = get_or t.ike i no_ike

  -- what a call keeps of the record, with this table after it
  abbrev Is : Call → List IkeRecord → Type 0
  Is c ike = ((get_or ike i no_ike).spi ≡ 0 → ⊥) → Kept old (get_or ike i no_ike) c

  same : (c : Call) → Is c t.ike
  same c n = record { spi = refl; agreed = refl; deleting = kept refl }

  -- a record stored at a place: this one, or another
  stored : (c : Call) (p : ℕ) (y : IkeRecord) → p < length t.ike
      → (old ≡ get_or t.ike p no_ike → (y.spi ≡ 0 → ⊥) → Kept old y c) → Is c (set t.ike p y)
  stored c p y there here = go (ℕ_discrete i p)
    where
      go : Dec (i ≡ p) → Is c (set t.ike p y)
      go (yes e) =
          let now : get_or (set t.ike p y) i no_ike ≡ y = rw e (get_or-set_same t.ike p y no_ike there) in
          rw now (here (ap (λ (j : ℕ). get_or t.ike j no_ike) e))
      go (no n) = rw (get_or-set_other t.ike p i y no_ike n) (same c)

  -- a record is opened or cloned in a free place
  beside : (c : Call) (y : IkeRecord) → place_of ike_spi 0 t.ike < length t.ike
      → Is c (set t.ike (place_of ike_spi 0 t.ike) y)
  beside c y room =
      stored c (place_of ike_spi 0 t.ike) y room
      (λ e n. absurd (used (ap ike_spi e ∙ place_has ike_spi 0 t.ike no_ike room)))

  closed : (c : Call) (spi : ℕ) → place_of ike_spi spi t.ike < length t.ike
      → Is c (set t.ike (place_of ike_spi spi t.ike) no_ike)
  closed c spi there = stored c (place_of ike_spi spi t.ike) no_ike there (λ e n. absurd (n refl))

  of_request : (policies : List Policy) (q : Request) → ways.Way policies t q
      → Is (requests policies q) (after_request policies q t).ike
  of_request policies q (ways.stays e) = rw e (same (requests policies q))
  of_request policies q (ways.changes u l m c) =
      rw c.is
      (stored (requests policies q) (ways.place t q) (entry_by q (ways.entry t q) u l m)
      (ltb-true _ _ (passed _ _ _ q c.passes).found)
      (λ e n. rw e (record { spi = refl; agreed = refl; deleting = kept refl })))

  -- a check that has ended
  ended : (q : CheckResponse) → laws.place t q < length t.ike → Is (checks q) (laws.ended t q)
  ended q there =
      stored (checks q) (laws.place t q) (unchecked (laws.entry t q)) there
      (λ e n. rw e (record { spi = refl; agreed = refl; deleting = kept refl }))

  of_response : (q : CheckResponse) → laws.Way t q → Is (checks q) (after_response q t).ike
  of_response q (laws.refused e) = rw e (same (checks q))
  of_response q (laws.closed o c) = rw c.is (closed (checks q) q.spi c.there)
  of_response q (laws.accepted o c) = rw c.is (ended q c.there)
  of_response q (laws.failed c) = rw c.is (ended q c.there)

  marks : (spi operator : ℕ) → Own operator spi t.ike
      → Is (marks_deletion spi operator)
      (set t.ike (place_of ike_spi spi t.ike) (deletion_marked (meant t.ike spi)))
  marks spi operator own =
      let p = place_of ike_spi spi t.ike in
      let y = deletion_marked (meant t.ike spi) in
      stored (marks_deletion spi operator) p y own.there
      (λ e n.
      let has : old.spi ≡ spi = ap ike_spi e ∙ place_has ike_spi spi t.ike no_ike own.there in
      let names : old.agreed.operator ≡ operator = ap (λ (r : IkeRecord). r.agreed.operator) e ∙ own.own in
      record {
        spi = ap ike_spi (sym e);
        agreed = ap (λ (r : IkeRecord). r.agreed) (sym e);
        deleting = rw (← has, ← names) (marked refl);
      })

  keeps : (c : Call) → Is c (after_call t c).ike
  unfolding after_call
  keeps (opens_both o) =
      ⊎_elim (λ b. rw b.is (beside (opens_both o) (ike_of o) b.room)) (λ e. rw e.same (same (opens_both o)))
      (both_or_neither t.ike t.ipsec o)
  keeps (opens_ipsec spi owner operator) = same (opens_ipsec spi owner operator)
  keeps (closes_ike spi operator) =
      ⊎_elim (λ e. rw e.0 (same (closes_ike spi operator)))
      (λ o. rw o.is (closed (closes_ike spi operator) spi o.own.there))
      (close_ike_cases t.ike t.ipsec spi operator)
  keeps (closes_ipsec spi operator) = same (closes_ipsec spi operator)
  keeps (requests policies q) = of_request policies q (ways.way policies t q)
  keeps (checks q) = of_response q (laws.way t q)
  keeps (clones q) =
      ⊎_elim (λ n. rw n.same (same (clones q)))
      (λ c. rw c.is (beside (clones q) (clone_of q.new_spi (meant t.ike q.spi)) c.room))
      (clone_cases t.ike q)
  keeps (marks_deletion spi operator) =
      ⊎_elim (λ e. rw e (same (marks_deletion spi operator))) (λ d. rw d.is (marks spi operator d.own))
      (mark_deletion_cases t.ike spi operator)

pub deletion_kept : DeletionKept
deletion_kept t c i used = keeps t i used c
