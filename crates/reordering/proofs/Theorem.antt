-- Demand 3, proved: the laws of calls that go by their SPI, at requests and check responses.
use Prim.Native.Nat.{ℕ}
use mathlib.Core.Path.{◌≡◌, refl, sym, ap, subst, ◌∙◌}
use mathlib.Core.Logic.{◌⊎◌, inl, inr}
use mathlib.Core.List.{List, [], ◌∷◌}
use mathlib.Core.Bool.{Bool, true, false≢true}
use native.Mathlib.Decide.{ℕ_discrete}
use lib.ListN.{length}
use Rattle.order.specs.Order.{All, Pairwise, Held, after}
use Rattle.order.proofs.Orders.{order_pairs, all_map}
use Rattle.address.specs.declared.pair.Pair.{Pair}
use Rattle.policy.specs.declared.rules.Policy.{Policy}
use Rattle.tables.specs.Tables.{Tables, in_use}
use Rattle.tables.specs.View.{view}
use Rattle.records.specs.declared.check.PendingCheck.{PendingCheck}
use Rattle.records.specs.declared.ike.IkeRecord.{IkeRecord}
use Rattle.checking.specs.Checks.{Request}
use Rattle.reordering.specs.Requests.{sound_request}
use Rattle.reordering.specs.Events.{Event, request, response, spi_of, id_of, after_event, Apart, sound}
use Rattle.reordering.specs.Reordering.{FreedEnds, TablesKept, AnyOrder}
use Rattle.reordering.proofs.Calls as calls
use Rattle.reordering.proofs.Steps.{Terms, terms, early_by, early_is, passed_seen}
use Rattle.reordering.proofs.Events.{by_spi}
use Rattle.reordering.proofs.Sound.{sound_parts}
use Rattle.reordering.proofs.Freed.{seeing, Taken, view_sound, swap_sound}
use Rattle.reordering.proofs.Held.{Fits, place_ends, held_ends}
use Rattle.reordering.proofs.Owned.{Quiet, owned_kept}

-- what every element has, every two have
pairs_have : {R : Type 0} (P : R → Type 0) (Q : R → R → Type 0) (xs : List R) → All P xs → Pairwise Q xs
    → Pairwise (λ (x y : R). P x × P y × Q x y) xs
pairs_have P Q [] a p = tt
pairs_have {R} P Q (x ∷ xs) a p = (beside xs a.1 p.0, pairs_have P Q xs a.1 p.1)
  where
    beside : (ys : List R) → All P ys → All (Q x) ys → All (λ (y : R). P x × P y × Q x y) ys
    beside [] b q = tt
    beside (y ∷ ys) b q = ((a.0, b.0, q.0), beside ys b.1 q.1)

module _ (policies : List Policy) (t : Tables) where
  -- two of one SPI, sound on t, with different IDs
  record Both (e f : Event) : Type 0 where
    same : spi_of e ≡ spi_of f
    first : sound policies t e ≡ true
    second : sound policies t f ≡ true
    distinct : id_of e ≡ id_of f → ⊥

  -- the terms of k are those of the starting tables
  abbrev Same : ℕ → Tables → Type 0
  Same k s = terms (view k s) ≡ terms (view k t)

  taken : (k : ℕ) (q : Request) → q.spi ≡ k → sound_request policies t q ≡ true → Taken policies k (terms (view k t)) q
  taken k q e w =
      let parts = sound_parts policies t q w in
      record {
        spi = e;
        passes =
            ap (λ (i : ℕ). early_by q (terms (view i t))) (sym e) ∙ sym (early_is q t) ∙ parts.0;
        fine = parts.1;
      }

  -- A request for k that is sound on t sees a record on s, and is sound there too.
  module _ (k : ℕ) (s : Tables) where
    record Seen : Type 0 where
      entry : IkeRecord
      whole : view k s ≡ seeing entry (length s.ipsec)
      fits : (q : Request) → q.spi ≡ k → sound_request policies t q ≡ true
          → Taken policies k (terms (seeing entry (length s.ipsec))) q

    seen : Same k s → (q : Request) → q.spi ≡ k → sound_request policies t q ≡ true → Seen
    seen same q p w =
        let x = passed_seen q (view k s) (ap (early_by q) same ∙ (taken k q p w).passes) in
        let whole : view k s ≡ seeing x.0 (length s.ipsec) =
        λ i. record { entry = x.1 i; lent = length s.ipsec } in
        record {
          entry = x.0;
          whole = whole;
          fits = λ r o v. subst (λ (u : Terms). Taken policies k u r) (sym same ∙ ap terms whole) (taken k r o v);
        }

  keep : (e : Event) → sound policies t e ≡ true → (s : Tables) → Same (spi_of e) s
      → Same (spi_of e) (after_event policies e s)
  keep (response q) w s same = absurd (false≢true w)
  keep (request q) w s same =
      let x = seen q.spi s same q refl w in
      ap terms (view_sound policies q.spi s x.whole q (x.fits q refl w)) ∙ ap terms (sym x.whole) ∙ same

  swap : (e f : Event) → Both e f → (s : Tables) → Same (spi_of e) s
      → after_event policies f (after_event policies e s) ≡ after_event policies e (after_event policies f s)
  swap (response q) f b s same = absurd (false≢true b.first)
  swap (request q) (response r) b s same = absurd (false≢true b.second)
  swap (request q) (request r) b s same =
      let x = seen q.spi s same q refl b.first in
      swap_sound policies q.spi s x.whole q r (x.fits q refl b.first) (x.fits r (sym b.same) b.second)
      b.distinct

  -- Some SPIs are freed, and what is for them is sound.
  module _ (freed : ℕ → Bool) where
    abbrev Fine : Event → Type 0
    Fine e = freed (spi_of e) ≡ true → sound policies t e ≡ true

    abbrev Differ : Event → Event → Type 0
    Differ e f = freed (spi_of e) ≡ true → spi_of e ≡ spi_of f → id_of e ≡ id_of f → ⊥

    may : (e f : Event) → Apart t e f ⊎ (freed (spi_of e) ≡ true) → Fine e × Fine f × Differ e f
        → Apart t e f ⊎ ((freed (spi_of e) ≡ true) × Both e f)
    may e f (inl x) h = inl x
    may e f (inr o) h = go (ℕ_discrete (spi_of e) (spi_of f))
      where
        go : Dec (spi_of e ≡ spi_of f) → Apart t e f ⊎ ((freed (spi_of e) ≡ true) × Both e f)
        go (yes p) =
            inr (o, record { same = p; first = h.0 o; second = h.1 (ap freed (sym p) ∙ o); distinct = h.2 o p })
        go (no n) = inl (inl n)

    -- an IKE SA that is freed
    module _ (k : ℕ) (u : in_use k t ≡ true) (o : freed k ≡ true) where
      fits : (e : Event) → Fine e → Fits policies k (terms (view k t)) e
      fits (request q) f = λ x. taken k q x (f (ap freed x ∙ o))
      fits (response q) f = λ x. false≢true (f (ap freed x ∙ o))

      quiet : (j : ℕ) (e : Event) → Fine e → Quiet policies k j e
      quiet j (request q) f = tt
      quiet j (response q) f = λ x. false≢true (f (ap freed x ∙ o))

      ends : (es : List Event) → All Fine es → FreedEnds k t es (after (after_event policies) t es)
      ends es fine =
          record {
            place = place_ends policies k t u es (all_map fits es fine);
            pair =
                ap (λ (h : Held Pair). h.value)
                (held_ends (λ q. q.asks.pair) (λ r. r.pair) (λ q e. refl) policies k t u es (all_map fits es fine));
            check =
                ap (λ (h : Held PendingCheck). h.value)
                (held_ends (λ q. q.asks.check) (λ r. r.check) (λ q e. refl) policies k t u es
                (all_map fits es fine));
            owned = λ j n. owned_kept policies k j es (all_map (quiet j) es fine) t n;
          }

  tables_kept : (es fs : List Event) → TablesKept policies t es fs
  tables_kept es fs freed sounds distinct o =
      let free =
      order_pairs (λ (e f : Event). Fine freed e × Fine freed f × Differ freed e f) o
      (pairs_have (Fine freed) (Differ freed) es sounds distinct) (may freed) in
      let same =
      calls.tables_kept (by_spi policies) t terms freed (Fine freed) Both (λ e f x. keep e (f x)) swap sounds free in (
        same,
        λ k u x. subst (FreedEnds k t es) same (ends freed k u x es sounds),
      )

-- Demand 3.
pub any_order : AnyOrder
any_order policies t es fs = (calls.answers_kept (by_spi policies) t, tables_kept policies t es fs)
