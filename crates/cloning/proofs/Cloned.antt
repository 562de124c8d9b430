-- A clone request as the code decides it, with the table's change around it, is the one that is defined; and what it can
-- come to: the table as it was, or one record more under what its checks have shown.
use Prim.Native.Nat.{ℕ, ◌<◌, ◌≤◌}
use mathlib.Core.Path.{◌≡◌, refl}
use Rattle.std.specs.Prelude.{Option, Some, None}
use mathlib.Core.Logic.{◌⊎◌, inl, inr}
use mathlib.Core.List.{List, []}
use mathlib.Core.Bool.{Bool, true, false, cond, ◌&&◌, not}
use borrow.Author.Tests.{eqb-true, eqb-false, ltb-true, ltb-false, leb-false, not-false}
use lib.Dec.{eqb, leb, ltb}
use lib.ListN.{length, set}
use Rattle.octets.specs.Limits.{ike_places, peer_records_most, ike_share}
use Rattle.octets.specs.Lists.{place_of}
use Rattle.octets.specs.Flags.{is_yes}
use Rattle.octets.specs.Checks.{Check, first_failed}
use Rattle.octets.proofs.Checks.{AllPassed, all_passed}
use Rattle.octets.proofs.Small.{neither}
use Rattle.writing.specs.Notify.{chained}
use Rattle.records.specs.Records.{ike_spi, clone_of}
use Rattle.records.specs.declared.ike.IkeRecord.{IkeRecord}
use Rattle.tables.specs.Calls.{has_ike, ikes_of}
use Rattle.tables.specs.Tables.{meant}
use Rattle.reader.specs.Chain.{count, chain_at}
use Rattle.clone_chain.specs.CloneChain.{clone_reading}
use Rattle.clone_chain.specs.declared.read.CloneReading.{CloneReading}
use Rattle.clone_chain.proofs.Counted.{clone_counts}
use Rattle.cloning.specs.Clone.{CloneRequest, records_of, early_clone, whole_clone_checks, late_clone}
use Rattle.cloning.specs.Clone.{clone_notifies, not_cloned, clone_told, Cloned, cloned_as, cloned}
use Rattle.cloning.specs.Looked.{clone_at, octets_at}
use Rattle.cloning.specs.declared.clone.CloneAnswer.{CloneAnswer}
use Rattle.cloning.specs.declared.clone.CloneLooked.{CloneLooked}
use Rattle.cloning.proofs.Passed.{Passed, passed}

module _ (ike : List IkeRecord) (q : CloneRequest) where
  abbrev pub place : ℕ
  place = place_of ike_spi q.spi ike

  abbrev pub free : ℕ
  free = place_of ike_spi 0 ike

  abbrev pub taken : ℕ
  taken = place_of ike_spi q.new_spi ike

  abbrev pub original : IkeRecord
  original = meant ike q.spi

  abbrev pub records : ℕ
  records = records_of q.operator original.agreed.peer ike

  abbrev pub own : ℕ
  own = ikes_of q.operator ike

  abbrev pub looked : CloneLooked
  looked =
      record { place = place; entry = original; free = free; taken = taken; records = records; own = own }

  -- what the code decides by what it looked up
  abbrev pub decided : CloneAnswer
  decided = clone_at looked q

  -- the table after what it stores
  abbrev pub stored : Option IkeRecord → List IkeRecord
  stored None = ike
  stored (Some e) = set ike free e

  abbrev pub read : CloneReading
  read = clone_reading q.first q.body

  abbrev pub new : IkeRecord
  new = clone_of q.new_spi original

  -- what a request comes to, by the numbers of its checks and whether each is 0
  abbrev comes : ℕ → ℕ → Bool → Bool → Cloned
  comes early late passes done =
      let told = clone_told late read.reading in
      let octets = chained (clone_notifies late read.reading) 0 in
      cond (not passes) (cloned_as (not_cloned early) [] ike)
      (cond done (cloned_as told octets (set ike free new)) (cloned_as told octets ike))

  pub clones : length ike ≡ ike_places
      → (decided.reply ≡ (cloned ike q).reply) × (stored decided.clone ≡ (cloned ike q).ike)
      × (octets_at looked q ≡ (cloned ike q).octets)
  unfolding cloned clone_at octets_at
  clones long = rw long (go (eqb before 0) (eqb behind 0))
    where
      before : ℕ
      before = early_clone (ltb place ike_places) original q

      behind : ℕ
      behind = late_clone read original (ltb free ike_places) records (ltb taken ike_places) own

      go : (b d : Bool)
          → let c = comes before behind b d in
          (cond (not b) (not_cloned before) (clone_told behind read.reading) ≡ c.reply)
          × (stored (cond (b && d) (Some new) None) ≡ c.ike)
          × (cond (not b) [] (chained (clone_notifies behind read.reading) 0) ≡ c.octets)
      go true true = (refl, refl, refl)
      go true false = (refl, refl, refl)
      go false d = (refl, refl, refl)

  -- the numbers of the checks before the chain, and of those by it and behind it
  abbrev pub early : ℕ
  early = early_clone (has_ike q.spi ike) original q

  abbrev whole_checks : List Check
  whole_checks =
      let limited = leb peer_records_most records in
      let taken-so = has_ike q.new_spi ike in
      whole_clone_checks read.clone (is_yes original.deleting) (has_ike 0 ike) limited taken-so (leb ike_share own)

  abbrev pub late : ℕ
  late = late_clone read original (has_ike 0 ike) records (has_ike q.new_spi ike) own

  -- a reading that is refused has its own number, which is not 0
  late_passed : late ≡ 0 → (read.reading.number ≡ 0) × AllPassed whole_checks
  unfolding late_clone
  late_passed = go (eqb read.reading.number 0) refl
    where
      go : (b : Bool) → eqb read.reading.number 0 ≡ b
          → cond (not b) read.reading.number (first_failed whole_checks) ≡ 0
          → (read.reading.number ≡ 0) × AllPassed whole_checks
      go true g z = (eqb-true _ 0 g, all_passed whole_checks refl z)
      go false g z = absurd (eqb-false _ 0 g z)

  -- the checks that a done clone passed, and the table after it
  pub record OneMore : Type 0 where
    pub early_passed : Passed (has_ike q.spi ike) original q
    pub there : place < length ike
    pub whole : read.reading.number ≡ 0
    pub asked : read.clone ≡ true
    pub kept : is_yes original.deleting ≡ false
    pub room : free < length ike
    pub few : records < peer_records_most
    pub fresh : length ike ≤ taken
    pub share : own < ike_share
    pub is : (cloned ike q).ike ≡ set ike free new

  -- a refusal, and the table as it was
  pub record NoMore : Type 0 where
    pub refused : (cloned ike q).reply.number ≡ 0 → ⊥
    pub same : (cloned ike q).ike ≡ ike

  pub clone_cases : NoMore ⊎ OneMore
  unfolding cloned clone_told
  clone_cases = go (eqb early 0) refl (eqb late 0) refl
    where
      go : (b : Bool) → eqb early 0 ≡ b → (d : Bool) → eqb late 0 ≡ d → NoMore ⊎ OneMore
      go false e d f = inl (record { refused = rw e (eqb-false early 0 e); same = rw e })
      go true e false f = inl (record { refused = rw (e, f) (eqb-false late 0 f); same = rw (e, f) })
      go true e true f =
          let p = passed (has_ike q.spi ike) original q (eqb-true early 0 e) in
          let h = late_passed (eqb-true late 0 f) in
          let now = neither (is_yes original.deleting) _ h.1.1.0 in
          inr (record {
            early_passed = p;
            there = ltb-true _ _ p.found;
            whole = h.0;
            asked = not-false _ h.1.0;
            kept = now.0;
            room = ltb-true _ _ (not-false _ now.1);
            few = leb-false _ _ h.1.1.1.0;
            fresh = ltb-false _ _ h.1.1.1.1.0;
            share = leb-false _ _ h.1.1.1.1.1.0;
            is = rw (e, f);
          })

  -- 01: "that count equals the number of payloads in the chain"
  pub clone_told_counts : (cloned ike q).reply.number ≡ 0
      → (cloned ike q).reply.payloads ≡ count (chain_at q.body q.first 0)
  unfolding cloned clone_told
  clone_told_counts = go (eqb early 0) refl (eqb late 0)
    where
      go : (b : Bool) → eqb early 0 ≡ b → (d : Bool) → (comes early late b d).reply.number ≡ 0
          → (comes early late b d).reply.payloads ≡ count (chain_at q.body q.first 0)
      go false e d z = absurd (eqb-false early 0 e z)
      go true e true z = clone_counts q.first q.body (late_passed z).0
      go true e false z = clone_counts q.first q.body (late_passed z).0
