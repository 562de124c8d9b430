-- The record of an IKE SA whose requests are all sound, after a list of requests and check responses: its pair, and its
-- pending check, are those of the update with the greatest ID.
use Prim.Native.Nat.{ℕ, ◌+◌}
use mathlib.Core.Path.{◌≡◌, refl, sym, ap, ◌∙◌}
use mathlib.Core.List.{List, [], ◌∷◌}
use mathlib.Core.Bool.{Bool, true, false, cond, ◌&&◌}
use native.Mathlib.Decide.{ℕ_discrete}
use borrow.Author.Tests.{eq-eqb, ne_eqb}
use lib.Dec.{eqb, leb}
use lib.ListN.{length}
use Rattle.order.specs.Order.{All, after, Update, Held, latest, greatest, settled}
use Rattle.order.proofs.Latest.{latest_is_greatest}
use Rattle.octets.proofs.Small.{chosen}
use Rattle.policy.specs.declared.rules.Policy.{Policy}
use Rattle.tables.specs.Tables.{Tables, in_use, meant}
use Rattle.tables.specs.View.{View, view}
use Rattle.records.specs.declared.ike.IkeRecord.{IkeRecord}
use Rattle.views.proofs.View.{place, found}
use Rattle.views.proofs.BySpi.{unseen_by, place_by_lem}
use Rattle.checking.specs.Checks.{Request}
use Rattle.responder.specs.Handle.{seen_in}
use Rattle.numbers.specs.Numbers.{applies, stepped}
use Rattle.reordering.specs.Events.{Event, request, response, after_event, updates_for, held_by}
use Rattle.reordering.proofs.Steps.{Terms, terms}
use Rattle.reordering.proofs.Events.{by_spi}
use Rattle.reordering.proofs.Sound.{id_in}
use Rattle.reordering.proofs.Freed.{seeing, Taken, view_sound, place_sound}

-- the record that k means, after one sound request and after a list of them; a check response for k is not among them
abbrev next : ℕ → Event → IkeRecord → IkeRecord
next k (request q) e = cond (eqb q.spi k) (stepped q e) e
next k (response q) e = e

abbrev next_all : ℕ → List Event → IkeRecord → IkeRecord
next_all k [] e = e
next_all k (x ∷ xs) e = next_all k xs (next k x e)

module _ (policies : List Policy) (k : ℕ) where
  -- an event for k is a request that is sound on these terms
  abbrev pub Fits : Terms → Event → Type 0
  Fits w (request q) = q.spi ≡ k → Taken policies k w q
  Fits w (response q) = q.spi ≡ k → ⊥

  view_next : (s : Tables) {e : IkeRecord} {n : ℕ} → view k s ≡ seeing e n → (x : Event) → Fits (terms (seeing e n)) x
      → view k (after_event policies x s) ≡ seeing (next k x e) n
  view_next s {e} {n} seen (response q) w = unseen_by (by_spi policies) (response q) k w s ∙ seen
  view_next s {e} {n} seen (request q) w = go (ℕ_discrete q.spi k)
    where
      go : Dec (q.spi ≡ k) → view k (after_event policies (request q) s) ≡ seeing (next k (request q) e) n
      go (no x) = rw (ne_eqb q.spi k x) (unseen_by (by_spi policies) (request q) k x s ∙ seen)
      go (yes x) = rw (eq-eqb q.spi k x) (view_sound policies k s seen q (w x))

  place_next : (s : Tables) {e : IkeRecord} {n : ℕ} → view k s ≡ seeing e n → (x : Event)
      → Fits (terms (seeing e n)) x → place k (after_event policies x s) ≡ place k s
  place_next s {e} {n} seen x w = go x w
    where
      named : k ≡ 0 → ⊥
      named = (found k s (ap (λ (v : View). v.entry) seen)).named

      go : (x : Event) → Fits (terms (seeing e n)) x → place k (after_event policies x s) ≡ place k s
      go (response q) w = place_by_lem (by_spi policies) (response q) k w named s
      go (request q) w = of (ℕ_discrete q.spi k)
        where
          of : Dec (q.spi ≡ k) → place k (after_event policies (request q) s) ≡ place k s
          of (no n) = place_by_lem (by_spi policies) (request q) k n named s
          of (yes o) = place_sound policies k s seen q (w o)

  terms_next : (x : Event) (e : IkeRecord) (n : ℕ) → terms (seeing (next k x e) n) ≡ terms (seeing e n)
  terms_next (response q) e n = refl
  terms_next (request q) e n =
      chosen (λ (r : IkeRecord). terms (seeing r n) ≡ terms (seeing e n)) (eqb q.spi k) (λ b. refl) (λ b. refl)

  -- what k sees at the end, and where
  view_all : (w : Terms) (s : Tables) (e : IkeRecord) (n : ℕ) → terms (seeing e n) ≡ w → view k s ≡ seeing e n
      → (xs : List Event) → All (Fits w) xs
      → let last = after (after_event policies) s xs in
      (view k last ≡ seeing (next_all k xs e) n) × (place k last ≡ place k s)
  view_all w s e n same seen [] a = (seen, refl)
  view_all w s e n same seen (x ∷ xs) a =
      let fits : Fits (terms (seeing e n)) x = rw same a.0 in
      let rest =
      view_all w (after_event policies x s) (next k x e) n (terms_next x e n ∙ same) (view_next s seen x fits) xs a.1
      in
      (rest.0, rest.1 ∙ place_next s seen x fits)

  -- an IKE SA whose requests are all sound
  module _ (s : Tables) (u : in_use k s ≡ true) (xs : List Event) (a : All (Fits (terms (view k s))) xs) where
    abbrev pub start : IkeRecord
    start = meant s.ike k

    ends : let last = after (after_event policies) s xs in
        (view k last ≡ seeing (next_all k xs start) (length s.ipsec)) × (place k last ≡ place k s)
    ends =
        let seen : view k s ≡ seeing start (length s.ipsec) = rw u in
        view_all (terms (view k s)) s start (length s.ipsec) (ap terms (sym seen)) seen xs a

    pub place_ends : place k (after (after_event policies) s xs) ≡ place k s
    place_ends = ends.1

    pub record_ends : meant (after (after_event policies) s xs).ike k ≡ next_all k xs start
    record_ends = (found k (after (after_event policies) s xs) (ap (λ (v : View). v.entry) ends.0)).is

-- What a record holds of the updates that were applied: the pair, and the pending check.
module _ {A : Type 0} (carried : Request → A) (holds : IkeRecord → A)
    (taken : (q : Request) (e : IkeRecord) → holds (stepped q e) ≡ cond (applies q e) (carried q) (holds e)) where
  abbrev held : IkeRecord → Held A
  held e = record { mark = e.update_mark; value = holds e }

  -- what is held after one request that may carry an update for k
  held_next : (k : ℕ) (q : Request) (e : IkeRecord) (us : List (Update A))
      → after latest (held (next k (request q) e)) us
      ≡ after latest (held e)
      (cond (eqb q.spi k && (seen_in q).update) (record { id = id_in q; value = carried q } ∷ us) us)
  unfolding latest
  held_next k q e us = go (eqb q.spi k) (seen_in q).update refl (leb e.update_mark (id_in q)) refl
    where
      up : Bool
      up = applies q e

      one : held (stepped q e)
          ≡ record { mark = cond up (id_in q + 1) e.update_mark; value = cond up (carried q) (holds e) }
      one = λ i. record { mark = cond up (id_in q + 1) e.update_mark; value = taken q e i }

      go : (a b : Bool) → (seen_in q).update ≡ b → (c : Bool) → leb e.update_mark (id_in q) ≡ c
          → after latest (held (cond a (stepped q e) e)) us
          ≡ after latest (held e) (cond (a && b) (record { id = id_in q; value = carried q } ∷ us) us)
      go false b f c g = refl
      go true false f c g = ap (λ (h : Held A). after latest h us) one ∙ (rw f)
      go true true f true g = ap (λ (h : Held A). after latest h us) one ∙ (rw (f, g))
      go true true f false g = ap (λ (h : Held A). after latest h us) one ∙ (rw (f, g))

  held_all : (k : ℕ) (xs : List Event) (e : IkeRecord)
      → held (next_all k xs e) ≡ after latest (held e) (updates_for carried k xs)
  unfolding updates_for
  held_all k [] e = refl
  held_all k (response q ∷ xs) e = held_all k xs e
  held_all k (request q ∷ xs) e =
      held_all k xs (next k (request q) e) ∙ held_next k q e (updates_for carried k xs)

  -- of an IKE SA whose requests are all sound
  pub held_ends : (policies : List Policy) (k : ℕ) (s : Tables) → in_use k s ≡ true → (xs : List Event)
      → All (Fits policies k (terms (view k s))) xs
      → held_by holds k (after (after_event policies) s xs)
      ≡ settled (greatest (updates_for carried k xs)) (held_by holds k s)
  held_ends policies k s u xs a =
      ap held (record_ends policies k s u xs a)
      ∙ held_all k xs (meant s.ike k)
      ∙ latest_is_greatest (updates_for carried k xs) (held (meant s.ike k))
