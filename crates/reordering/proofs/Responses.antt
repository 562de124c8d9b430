-- A check response as a call by its SPI: what it does to the record that it sees, and what it answers.
use Prim.Native.Nat.{ℕ}
use mathlib.Core.Path.{◌≡◌, refl, sym, ap, ◌∙◌}
use mathlib.Core.Bool.{Bool, true, false, cond, ◌||◌, not, or-true}
use mathlib.Core.Option.{Option, none, some, get_or}
use native.Mathlib.Decide.{ℕ_discrete}
use borrow.Author.Tests.{eq-eqb, ne_eqb}
use lib.Dec.{eqb, ltb}
use lib.ListN.{length}
use Rattle.octets.specs.Limits.{body_most, ipsec_places}
use Rattle.octets.specs.Operators.{is_operator}
use Rattle.octets.proofs.Small.{chosen}
use Rattle.values.specs.Values.{part_of}
use Rattle.records.specs.Records.{no_ike, unchecked}
use Rattle.records.specs.declared.ike.IkeRecord.{IkeRecord}
use Rattle.tables.specs.Calls.{has_ike}
use Rattle.tables.specs.Tables.{Tables}
use Rattle.tables.specs.View.{View, view, Change, stays, becomes, closes, applied, Proper}
use Rattle.views.proofs.View.{applied_stays, applied_alone}
use Rattle.initiator.specs.Response.{outcome_number, no_outcome}
use Rattle.initiator.specs.declared.response.Assessment.{Assessment}
use Rattle.initiator.specs.declared.response.Outcome.TheVariants.{Close, Accepted}
use Rattle.routability.specs.Routability.{CheckResponse, early_response, check_told, checked, after_response}
use Rattle.routability.proofs.Laws as laws
use Rattle.reordering.specs.Events.{ResponseAnswer, response_answer}
use Rattle.reordering.proofs.Steps.{is_there}

module _ (q : CheckResponse) where
  -- what is told, by what is seen
  abbrev told_by : View → Assessment
  told_by v = check_told v.lent (is_there v.entry) (get_or v.entry no_ike) q

  -- an SPI of 0 is refused first; and where no record is meant, none is looked at
  unnamed : (lent : ℕ) (a b : Bool) (e f : IkeRecord) → eqb q.spi 0 ≡ true
      → check_told lent a e q ≡ check_told lent b f q
  unfolding check_told early_response
  unnamed lent a b e f z = rw (z, or-true (not (eqb lent ipsec_places)))

  nobody : (lent : ℕ) (e f : IkeRecord) → check_told lent false e q ≡ check_told lent false f q
  unfolding check_told early_response
  nobody lent e f =
      go (not (eqb lent ipsec_places) || eqb q.spi 0) refl (is_operator q.operator) refl
      (ltb body_most (length q.body)) refl
    where
      go : (a : Bool) → not (eqb lent ipsec_places) || eqb q.spi 0 ≡ a
          → (o : Bool) → is_operator q.operator ≡ o
          → (b : Bool) → ltb body_most (length q.body) ≡ b
          → check_told lent false e q ≡ check_told lent false f q
      go true x o w b y = rw x
      go false x false w b y = rw (x, w)
      go false x true w true y = rw (x, w, y)
      go false x true w false y = rw (x, w, y)

  told_is : (t : Tables) → laws.told t q ≡ told_by (view q.spi t)
  told_is t = go (eqb q.spi 0) refl (has_ike q.spi t.ike) refl
    where
      go : (a : Bool) → eqb q.spi 0 ≡ a → (b : Bool) → has_ike q.spi t.ike ≡ b
          → laws.told t q ≡ told_by (view q.spi t)
      go true e b f = rw e (unnamed (length t.ipsec) (has_ike q.spi t.ike) false (laws.entry t q) no_ike e)
      go false e true f = rw (e, f)
      go false e false f = rw (e, f) (nobody (length t.ipsec) (laws.entry t q) no_ike)

  -- what an outcome does to the record
  abbrev ending : ℕ → IkeRecord → Change
  ending n e =
      cond (eqb n no_outcome) stays
      (cond (eqb n (outcome_number Close)) closes
      (cond (eqb n (outcome_number Accepted)) (becomes (unchecked e) (some e.pair))
      (becomes (unchecked e) none)))

  abbrev altered : ℕ → Option IkeRecord → Change
  altered n none = stays
  altered n (some e) = ending n e

  abbrev pub does : View → Change
  does v = altered (told_by v).outcome v.entry

  abbrev answer_by : Assessment → ResponseAnswer
  answer_by a = record { told = a; cookie = part_of q.body a.cookie a.cookie_len }

  abbrev pub says : View → ResponseAnswer
  says v = answer_by (told_by v)

  pub proper : (v : View) → Proper v.entry (does v)
  proper v = go v.entry (told_by v).outcome
    where
      go : (o : Option IkeRecord) (n : ℕ) → Proper o (altered n o)
      go none n = refl
      go (some e) n =
          chosen (Proper (some e)) (eqb n no_outcome) (λ f. tt)
          (λ f. chosen (Proper (some e)) (eqb n (outcome_number Close)) (λ g. tt)
          (λ g. chosen (Proper (some e)) (eqb n (outcome_number Accepted)) (λ h. refl) (λ h. refl)))

  module _ (t : Tables) where
    abbrev outcome : ℕ
    outcome = (laws.told t q).outcome

    -- where no record is seen, no outcome is told
    does_is : does (view q.spi t) ≡ ending outcome (laws.entry t q)
    does_is = rw (← told_is t) (go (ℕ_discrete outcome no_outcome))
      where
        quiet : (n : ℕ) (o : Option IkeRecord) → n ≡ no_outcome → altered n o ≡ stays
        quiet n none e = refl
        quiet n (some r) e = rw (eq-eqb n no_outcome e)

        go : Dec (outcome ≡ no_outcome) → altered outcome (view q.spi t).entry ≡ ending outcome (laws.entry t q)
        go (yes e) = quiet outcome (view q.spi t).entry e ∙ sym (quiet outcome (some (laws.entry t q)) e)
        go (no n) =
            let k = laws.told_passed (length t.ipsec) (has_ike q.spi t.ike) (laws.entry t q) q n in
            rw (ne_eqb q.spi 0 k.named, k.found)

    ends : after_response q t ≡ applied q.spi (ending outcome (laws.entry t q)) t
    unfolding after_response checked applied
    ends = go (eqb outcome no_outcome) refl (eqb outcome (outcome_number Close)) refl
        (eqb outcome (outcome_number Accepted)) refl
      where
        go : (a : Bool) → eqb outcome no_outcome ≡ a → (b : Bool) → eqb outcome (outcome_number Close) ≡ b
            → (c : Bool) → eqb outcome (outcome_number Accepted) ≡ c
            → after_response q t ≡ applied q.spi (ending outcome (laws.entry t q)) t
        go true e b f c g = rw e (sym (applied_stays q.spi t))
        go false e true f c g = rw (e, f)
        go false e false f true g = rw (e, f, g)
        go false e false f false g = rw (e, f, g) (sym (applied_alone q.spi t (unchecked (laws.entry t q))))

    pub step_is : after_response q t ≡ applied q.spi (does (view q.spi t)) t
    step_is = ends ∙ ap (λ (c : Change). applied q.spi c t) (sym does_is)

    pub answer_is : response_answer q t ≡ says (view q.spi t)
    unfolding response_answer
    answer_is = ap answer_by (laws.told_is t q ∙ told_is t)
