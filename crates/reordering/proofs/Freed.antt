-- Sound requests of one IKE SA: what each makes of the record, and that two with different IDs end the same in either
-- order.
use Prim.Native.Nat.{ℕ, ◌+◌, min}
use mathlib.Core.Path.{◌≡◌, refl, sym, ap, ◌∙◌}
use mathlib.Core.List.{List}
use mathlib.Core.Option.{none, some, or_else}
use native.Mathlib.Omega.{arith}
use Rattle.octets.specs.Limits.{addresses_most}
use Rattle.policy.specs.declared.rules.Policy.{Policy}
use Rattle.records.specs.Records.{rewritten}
use Rattle.tables.specs.Tables.{Tables}
use Rattle.tables.specs.View.{View, view, becomes, applied}
use Rattle.records.specs.declared.ike.IkeRecord.{IkeRecord}
use Rattle.views.proofs.View.{place}
use Rattle.views.proofs.Own.{stays_in_place, view_own, applied_twice}
use Rattle.deciding.specs.Decide.{tallied, has_list}
use Rattle.values.specs.Values.{addresses_in}
use Rattle.checking.specs.Checks.{Request}
use Rattle.responder.specs.Handle.{seen_in, after_request}
use Rattle.numbers.specs.Numbers.{stepped}
use Rattle.reordering.proofs.Steps.{Terms, terms, early_by, does, does_taken, step_is}
use Rattle.reordering.proofs.Winner.{winner, agree}
use Rattle.reordering.proofs.Sound.{id_in, Sound, core_sound}

-- the two records after both
advanced_agree : (q r : Request) → (id_in q ≡ id_in r → ⊥) → (e : IkeRecord)
    → stepped r (stepped q e) ≡ stepped q (stepped r e)
advanced_agree q r d e =
    let u = winner (id_in q) (id_in r) e.update_mark d (seen_in q).update (seen_in r).update in
    let l = winner (id_in q) (id_in r) e.list_mark d (has_list (seen_in q)) (has_list (seen_in r)) in
    λ i.
    rewritten (agree u q.asks.pair r.asks.pair e.pair i)
    (agree u (id_in q + 1) (id_in r + 1) e.update_mark i)
    (agree l (id_in q + 1) (id_in r + 1) e.list_mark i)
    (agree l (min (seen_in q).list.count addresses_most) (min (seen_in r).list.count addresses_most) e.count i)
    (agree l (addresses_in q.asks.body (seen_in q).list) (addresses_in r.asks.body (seen_in r).list)
    e.addresses i) (tally i) (agree u q.asks.check r.asks.check e.check i) e
  where
    amount : Request → ℕ
    amount x = (seen_in x).tally.unknown_payloads + (seen_in x).tally.unknown_notifies

    tally : tallied (tallied e.unknown (amount q)) (amount r) ≡ tallied (tallied e.unknown (amount r)) (amount q)
    tally = omega arith

-- an SPI's view with this record in it
abbrev pub seeing : IkeRecord → ℕ → View
seeing e n = record { entry = some e; lent = n }

module _ (policies : List Policy) where
  -- a sound request for k
  pub record Taken (k : ℕ) (w : Terms) (q : Request) : Type 0 where
    pub spi : q.spi ≡ k
    pub passes : early_by q w ≡ 0
    pub fine : Sound policies q

  module _ (k : ℕ) (s : Tables) {e : IkeRecord} {n : ℕ} (seen : view k s ≡ seeing e n) (q : Request)
      (w : Taken k (terms (seeing e n)) q) where
    step_sound : after_request policies q s ≡ applied k (becomes (stepped q e) none) s
    step_sound =
        step_is policies q s
        ∙ ap (λ (i : ℕ). applied i (does policies q (view i s)) s) w.spi
        ∙ ap (λ (v : View). applied k (does policies q v) s) seen
        ∙ (rw (does_taken policies q (seeing e n) w.passes refl, core_sound policies q w.fine e))

    pub view_sound : view k (after_request policies q s) ≡ seeing (stepped q e) n
    view_sound =
        ap (view k) step_sound
        ∙ view_own k s (ap (λ (v : View). v.entry) seen) (stepped q e) refl none
        ∙ ap (λ (v : View). seeing (stepped q e) v.lent) seen

    pub place_sound : place k (after_request policies q s) ≡ place k s
    place_sound =
        ap (place k) step_sound
        ∙ stays_in_place k s (ap (λ (v : View). v.entry) seen) (stepped q e) refl none

  module _ (k : ℕ) (s : Tables) {e : IkeRecord} {n : ℕ} (seen : view k s ≡ seeing e n) where
    abbrev Fits : Request → Type 0
    Fits q = Taken k (terms (seeing e n)) q

    two_sound : (q r : Request) → Fits q → Fits r
        → after_request policies r (after_request policies q s) ≡ applied k (becomes (stepped r (stepped q e)) none) s
    unfolding or_else
    two_sound q r v w =
        step_sound k (after_request policies q s) (view_sound k s seen q v) r w
        ∙ ap (applied k (becomes (stepped r (stepped q e)) none)) (step_sound k s seen q v)
        ∙ applied_twice k s (ap (λ (v : View). v.entry) seen) (stepped q e) refl none _ none

    pub swap_sound : (q r : Request) → Fits q → Fits r → (id_in q ≡ id_in r → ⊥)
        → after_request policies r (after_request policies q s) ≡ after_request policies q (after_request policies r s)
    swap_sound q r v w d = two_sound q r v w ∙ (rw (advanced_agree q r d e) (sym (two_sound r q w v)))
