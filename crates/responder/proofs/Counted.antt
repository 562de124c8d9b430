-- The payload count that a reply tells is the chain's, or 0 with the numbers 1 to 5, 61 to 65 and 7.
use Rattle.std.specs.Prelude.{◌≡◌, ℕ, true, ◌||◌, eqb, List}
use mathlib.Core.Path.{refl}
use native.Mathlib.Decide.{ℕ_discrete}
use borrow.Author.Tests.{eq-eqb, ne_eqb}
use Rattle.policy.specs.declared.rules.Policy.{Policy}
use Rattle.reader.specs.Chain.{reading, one_to_seven, count_told}
use Rattle.reader.proofs.Count.{promised}
use Rattle.reader.proofs.Refused.{OfEach, broken_of}
use Rattle.records.specs.Records.{marks_in}
use Rattle.records.specs.declared.ike.IkeRecord.{IkeRecord}
use Rattle.records.specs.declared.ipsec.IpsecRecord.{IpsecRecord}
use Rattle.verdict.proofs.Numbers.{verdict_of}
use Rattle.answering.specs.Core.{decision_on, core_answer}
use Rattle.checking.proofs.Checks.{passed, early_passes}
use Rattle.checking.specs.Checks.{Request}
use Rattle.responder.specs.Handle.{accepts, early_number, handled}
use Rattle.tables.specs.Tables.{meant}

-- a refusal counts nothing
refused_none : (n first : ℕ) (body : List ℕ) → one_to_seven n ≡ true → 0 ≡ count_told n first body
refused_none n first body e = rw e

module _ (policies : List Policy) (ike : List IkeRecord) (ipsec : List IpsecRecord) (q : Request) where
  abbrev Counted : Type 0
  Counted =
      let r = (handled policies ike ipsec q).reply in
      r.payloads ≡ count_told r.number q.asks.first q.asks.body

  pub payloads_counted : Counted
  unfolding handled core_answer
  payloads_counted =
      go (ℕ_discrete (early_number ike ipsec q) 0) (ℕ_discrete (reading q.asks.first q.asks.body).number 0)
    where
      each : OfEach (λ (k : ℕ). one_to_seven k ≡ true)
      each =
          record {
            chain_length = refl;
            notify = refl;
            data_size_lem = refl;
            repeated = refl;
            octets_after_end = refl;
            critical = refl;
          }

      go : Dec (early_number ike ipsec q ≡ 0) → Dec ((reading q.asks.first q.asks.body).number ≡ 0) → Counted
      go (no n) d =
          let early = early_number ike ipsec q in
          let p : eqb early 0 || one_to_seven early ≡ true =
          early_passes _ _ _ q (λ (k : ℕ). eqb k 0 || one_to_seven k) refl refl in
          rw (ne_eqb _ 0 n) (refused_none early q.asks.first q.asks.body (rw (ne_eqb early 0 n) at p))
      go (yes e) (no n) =
          rw (eq-eqb _ 0 e, ne_eqb _ 0 n)
          (refused_none (reading q.asks.first q.asks.body).number q.asks.first q.asks.body
          (broken_of (λ (k : ℕ). one_to_seven k ≡ true) each q.asks.first q.asks.body
          (passed _ _ _ q e).short n))
      go (yes e) (yes w) =
          let c = (promised q.asks.first q.asks.body _ refl).counts w in
          rw (eq-eqb _ 0 e, eq-eqb _ 0 w)
          (verdict_of
          (λ n. (reading q.asks.first q.asks.body).seen.tally.payloads ≡ count_told n q.asks.first
          q.asks.body) c c c
          (decision_on (accepts policies q) q.asks (marks_in (meant ike q.spi))).verdict)
