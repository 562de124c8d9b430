-- What a clone request's reading counts: the payloads of its chain if it was read whole, and none if it is refused.
use Prim.Native.Nat.{ℕ}
use mathlib.Core.Path.{◌≡◌, refl, sym, ap, ◌∙◌}
use mathlib.Core.List.{List}
use mathlib.Core.Bool.{Bool, true, false, cond}
use native.Mathlib.Omega.{arith}
use lib.Dec.{ltb}
use Rattle.octets.specs.Numbers.{number_of}
use Rattle.octets.specs.declared.number.Number.TheVariants.{Done}
use Rattle.findings.specs.Seen.{nothing_seen}
use Rattle.reader.specs.Chain.{Chain, count, chain_at, Scan, scanned, Outcome, Whole, Broken, answer}
use Rattle.reader.proofs.Whole.{told_whole}
use Rattle.reader.proofs.Count.{whole_scan}
use Rattle.reader.proofs.Refused.{OfEach, fault_of_lem}
use Rattle.clone_chain.specs.CloneChain.{clone_outcome, earlier, clone_reading}

-- no fault in one way or the other, so none in the first
earlier_whole : (o p : Outcome) → earlier o p ≡ Whole → o ≡ Whole
earlier_whole Whole p e = refl
earlier_whole (Broken f at) Whole e = e
earlier_whole (Broken f at) (Broken g to) e = absurd (never (ltb to at) e)
  where
    never : (b : Bool) → cond b (Broken g to) (Broken f at) ≡ Whole → ⊥
    never true e = let z : ◌≡◌ {A = ℕ} 0 1 = cc in omega arith
    never false e = let z : ◌≡◌ {A = ℕ} 0 1 = cc in omega arith

module _ (first : ℕ) (body : List ℕ) where
  abbrev ch : Chain
  ch = chain_at body first 0

  abbrev scan : Scan
  scan = scanned nothing_seen ch

  abbrev outcome : Outcome
  outcome = earlier scan.outcome (clone_outcome body ch)

  -- 01: "that count equals the number of payloads in the chain"
  pub clone_counts : (clone_reading first body).reading.number ≡ number_of Done
      → (clone_reading first body).reading.seen.tally.payloads ≡ count (chain_at body first 0)
  unfolding clone_reading
  clone_counts e =
      let w = told_whole ch outcome scan.seen e in
      let o = earlier_whole scan.outcome (clone_outcome body ch) (ap (λ (x : Scan). x.outcome) w) in
      ap (λ (x : Scan). x.seen.tally.payloads) (sym w) ∙ whole_scan nothing_seen ch o ∙ omega arith

  -- 01: "it is 0 with answers 1 to 7", and nothing else is kept of a chain that is refused
  pub clone_refused : ((clone_reading first body).reading.number ≡ number_of Done → ⊥)
      → (clone_reading first body).reading.seen ≡ nothing_seen
  unfolding clone_reading
  clone_refused = go outcome
    where
      go : (o : Outcome) → ((answer ch o scan.seen).number ≡ number_of Done → ⊥)
          → (answer ch o scan.seen).seen ≡ nothing_seen
      go Whole n = absurd (n refl)
      go (Broken f at) n = refl

  -- its number is one of 61 to 65, or 7
  pub clone_broken_of : (P : ℕ → Type 0) → OfEach P
      → ((clone_reading first body).reading.number ≡ number_of Done → ⊥) → P (clone_reading first body).reading.number
  unfolding clone_reading
  clone_broken_of P each = go outcome
    where
      go : (o : Outcome) → ((answer ch o scan.seen).number ≡ number_of Done → ⊥)
          → P (answer ch o scan.seen).number
      go Whole n = absurd (n refl)
      go (Broken f at) n = fault_of_lem P each f
