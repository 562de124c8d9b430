-- An IPsec record's pair changes only by a check that came back right, call by call.
use Prim.Native.Nat.{ℕ, ◌<◌}
use mathlib.Core.Path.{◌≡◌, refl, ap, subst, ◌∙◌}
use mathlib.Core.Logic.{⊎_elim}
use mathlib.Core.List.{List, map}
use mathlib.Core.Bool.{Bool, true, false, cond}
use native.Mathlib.Omega.{arith}
use native.Mathlib.Decide.{dec_lt, ℕ_discrete}
use borrow.Author.Tests.{eqb-true, eq-eqb, ne_eqb, lt-ltb}
use lib.Dec.{eqb}
use lib.ListN.{length, get_or, set, get_or-map, get_or-eq_default}
use lib.Seq.{get_or-set_same, get_or-set_other}
use Rattle.octets.specs.Lists.{place_of}
use Rattle.octets.proofs.Places.{place_has}
use Rattle.records.specs.Records.{ike_spi, ipsec_spi, new_ipsec, no_ipsec, released, follows}
use Rattle.records.specs.declared.ipsec.IpsecRecord.{IpsecRecord}
use Rattle.tables.specs.Calls.{owns_ipsec}
use Rattle.tables.specs.Opening.{child_of}
use Rattle.tables.specs.Tables.{Tables, meant}
use Rattle.tables.proofs.Cases.{Own, IpsecClosed}
use Rattle.tables.proofs.Cases.{both_or_neither, open_ipsec_cases, close_ike_cases, close_ipsec_cases}
use Rattle.responder.specs.Handle.{after_request}
use Rattle.routability.specs.Routability.{CheckResponse, checked, after_response}
use Rattle.routability.proofs.Laws as laws
use Rattle.initiator.specs.Response.{outcome_number}
use Rattle.initiator.specs.declared.response.Assessment.{Assessment}
use Rattle.initiator.specs.declared.response.Outcome.TheVariants.{Accepted}
use Rattle.reached.specs.Reached.{Call, opens_both, opens_ipsec, closes_ike, closes_ipsec, requests, checks}
use Rattle.reached.specs.Reached.{clones, marks_deletion, after_call}
use Rattle.reached.specs.PairMoves.{Closes, itself, owner, check, Becomes, kept, closed, moved}
use Rattle.reached.specs.PairMoves.{PairsMoveByChecks, RequestsMoveNone}

pub requests_move_none : RequestsMoveNone
unfolding after_call after_request
requests_move_none t policies q = refl

module _ (t : Tables) (j : ℕ) (used : (get_or t.ipsec j no_ipsec).spi ≡ 0 → ⊥) where
  abbrev old : IpsecRecord
  old = get_or t.ipsec j no_ipsec

  -- its operator is that of its owner
  through_owner : (operator spi : ℕ) → Own operator spi t.ike → old.owner ≡ spi
      → owns_ipsec operator t.ike old ≡ true
  through_owner operator spi o e =
      rw (
        ne_eqb old.spi 0 used,
        e,
        ne_eqb spi 0 o.named,
        lt-ltb (place_of ike_spi spi t.ike) (length t.ike) o.there,
        eq-eqb _ operator o.own,
      )

  -- what a call makes of the record, with this list after it
  abbrev Is : Call → List IpsecRecord → Type 0
  Is c ipsec = Becomes t old (get_or ipsec j no_ipsec) c

  -- a record is opened in a free place
  beside : (c : Call) (y : IpsecRecord) → place_of ipsec_spi 0 t.ipsec < length t.ipsec
      → Is c (set t.ipsec (place_of ipsec_spi 0 t.ipsec) y)
  beside c y room =
      let p = place_of ipsec_spi 0 t.ipsec in
      kept (get_or-set_other t.ipsec p j y no_ipsec
      (λ e. used (ap (λ (i : ℕ). (get_or t.ipsec i no_ipsec).spi) e ∙ place_has ipsec_spi 0 t.ipsec no_ipsec room)))

  -- what its owner's closing, and its owner's check, make of a record in use
  freed : (c : Call) (spi : ℕ) → (old.owner ≡ spi → Closes t old c) → Is c (map (released spi) t.ipsec)
  freed c spi closes =
      rw (get_or-map (released spi) t.ipsec j no_ipsec) (go (eqb old.spi 0) refl (eqb old.owner spi) refl)
    where
      go : (a : Bool) → eqb old.spi 0 ≡ a → (b : Bool) → eqb old.owner spi ≡ b
          → Becomes t old (cond a old (cond b no_ipsec old)) c
      go true e b f = kept refl
      go false e true f = closed (closes (eqb-true old.owner spi f)) refl
      go false e false f = kept refl

  followed : (q : CheckResponse) → Own q.operator q.spi t.ike
      → (checked t.ike t.ipsec q).told.outcome ≡ outcome_number Accepted
      → Is (checks q) (map (follows q.spi (meant t.ike q.spi).pair) t.ipsec)
  followed q own o =
      rw (get_or-map (follows q.spi (meant t.ike q.spi).pair) t.ipsec j no_ipsec)
      (go (eqb old.spi 0) refl (eqb old.owner q.spi) refl)
    where
      go : (a : Bool) → eqb old.spi 0 ≡ a → (b : Bool) → eqb old.owner q.spi ≡ b
          → Becomes t old
          (cond a old (cond b (new_ipsec old.spi old.owner (meant t.ike q.spi).pair) old)) (checks q)
      go true e b f = kept refl
      go false e true f =
          let names = eqb-true old.owner q.spi f in
          moved q (through_owner q.operator q.spi own names) names o refl
      go false e false f = kept refl

  -- a closing of one record: this one, or another
  dropped : (spi operator : ℕ) → IpsecClosed t.ike t.ipsec spi operator
      → Is (closes_ipsec spi operator) (set t.ipsec (place_of ipsec_spi spi t.ipsec) no_ipsec)
  dropped spi operator o = go (ℕ_discrete j p)
    where
      p : ℕ
      p = place_of ipsec_spi spi t.ipsec

      inside : Dec (j < length t.ipsec) → j < length t.ipsec
      inside (yes l) = l
      inside (no l) = absurd (used (ap ipsec_spi (get_or-eq_default t.ipsec no_ipsec (omega arith))))

      go : Dec (j ≡ p) → Is (closes_ipsec spi operator) (set t.ipsec p no_ipsec)
      go (no n) = kept (get_or-set_other t.ipsec p j no_ipsec no_ipsec n)
      go (yes e) =
          let here = inside (dec_lt j (length t.ipsec)) in
          let there : p < length t.ipsec = rw e at here in
          let own : owns_ipsec operator t.ike old ≡ true = rw e o.own in
          let has : old.spi ≡ spi =
          ap (λ (i : ℕ). (get_or t.ipsec i no_ipsec).spi) e ∙ place_has ipsec_spi spi t.ipsec no_ipsec there in
          let gone : get_or (set t.ipsec p no_ipsec) j no_ipsec ≡ no_ipsec =
          rw e (get_or-set_same t.ipsec p no_ipsec no_ipsec there) in
          closed (subst (λ (k : ℕ). Closes t old (closes_ipsec k operator)) has (itself operator own)) gone

  told : (q : CheckResponse) → (checked t.ike t.ipsec q).told.outcome ≡ (laws.told t q).outcome
  told q = ap (λ (a : Assessment). a.outcome) (laws.told_is t q)

  owned : (q : CheckResponse) {s : Tables} → laws.Comes t q s → Own q.operator q.spi t.ike
  owned q c = record { named = c.named; there = c.there; own = c.own }

  of_response : (q : CheckResponse) → laws.Way t q → Is (checks q) (after_response q t).ipsec
  of_response q (laws.refused e) = rw e (kept refl)
  of_response q (laws.closed o c) =
      rw c.is
      (freed (checks q) q.spi (λ e. check q (through_owner q.operator q.spi (owned q c) e) e (told q ∙ o)))
  of_response q (laws.accepted o c) = rw c.is (followed q (owned q c) (told q ∙ o))
  of_response q (laws.failed c) = rw c.is (kept refl)

  becomes : (c : Call) → Is c (after_call t c).ipsec
  unfolding after_call
  becomes (opens_both o) =
      ⊎_elim (λ b. rw b.is (beside (opens_both o) (child_of o) b.child_room)) (λ e. rw e.child_same (kept refl))
      (both_or_neither t.ike t.ipsec o)
  becomes (opens_ipsec spi own operator) =
      ⊎_elim (λ e. rw e (kept refl)) (λ o. rw o.is (beside (opens_ipsec spi own operator) _ o.room))
      (open_ipsec_cases t.ike t.ipsec spi own operator)
  becomes (closes_ike spi operator) =
      ⊎_elim (λ e. rw e.1 (kept refl))
      (λ o. rw o.is
      (freed (closes_ike spi operator) spi
      (λ e. rw (← e) (owner operator (through_owner operator spi o.own e)))))
      (close_ike_cases t.ike t.ipsec spi operator)
  becomes (closes_ipsec spi operator) =
      ⊎_elim (λ e. rw e (kept refl)) (λ o. rw o.is (dropped spi operator o))
      (close_ipsec_cases t.ike t.ipsec spi operator)
  becomes (requests policies q) = rw (requests_move_none t policies q) (kept refl)
  becomes (checks q) = of_response q (laws.way t q)
  becomes (clones q) = kept refl
  becomes (marks_deletion spi operator) = kept refl

pub pairs_move_by_checks : PairsMoveByChecks
pairs_move_by_checks t c j used = becomes t j used c
