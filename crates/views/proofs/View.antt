-- What a change of one SPI's record leaves alone: another SPI sees nothing of it, and changes of two SPIs may come in
-- either order.
use Prim.Native.Nat.{ℕ, ◌<◌}
use mathlib.Core.Path.{◌≡◌, refl, sym, ap, ◌∙◌}
use mathlib.Core.Logic.{◌⊎◌, inl, inr, ⊎_elim}
use mathlib.Core.List.{List, map, map-id, map-map}
use mathlib.Core.Bool.{Bool, true, false, cond, ◌&&◌, not}
use mathlib.Core.Option.{Option, none, some}
use native.Mathlib.Omega.{arith}
use native.Mathlib.Decide.{ℕ_discrete}
use borrow.Author.Tests.{eq-eqb, ne_eqb, eqb-false, ltb-true}
use lib.Dec.{eqb}
use lib.ListN.{length, get_or, set, length-set, length-map, get_or-map}
use lib.Seq.{get_or-set_other, set-get_or, set_comm}
use Rattle.octets.specs.Lists.{place_of}
use Rattle.octets.proofs.Places.{place_has, store_other}
use Rattle.octets.proofs.Small.{chosen}
use Rattle.records.specs.Records.{ike_spi, no_ike, no_ipsec}
use Rattle.tables.specs.Calls.{has_ike}
use Rattle.tables.specs.Tables.{Tables, tables}
use Rattle.tables.specs.View.{view, Change, stays, becomes, closes, entry_after, child_after, applied, Proper}
use Rattle.records.specs.declared.ike.IkeRecord.{IkeRecord}
use Rattle.records.specs.declared.ipsec.IpsecRecord.{IpsecRecord}

-- the place that is meant
abbrev pub place : ℕ → Tables → ℕ
place k t = place_of ike_spi k t.ike

-- Where a record is seen: its place, which has the SPI.
pub record Found (k : ℕ) (t : Tables) (r : IkeRecord) : Type 0 where
  pub named : k ≡ 0 → ⊥
  pub there : place k t < length t.ike
  pub is : get_or t.ike (place k t) no_ike ≡ r
  pub has : (get_or t.ike (place k t) no_ike).spi ≡ k

pub found : (k : ℕ) (t : Tables) {r : IkeRecord} → (view k t).entry ≡ some r → Found k t r
found k t {r} = go (eqb k 0) refl (has_ike k t.ike) refl
  where
    go : (a : Bool) → eqb k 0 ≡ a → (b : Bool) → has_ike k t.ike ≡ b
        → cond (not a && b) (some (get_or t.ike (place k t) no_ike)) none ≡ some r → Found k t r
    go true e b f h = let z : ◌≡◌ {A = ℕ} 0 1 = cc in absurd (omega arith)
    go false e false f h = let z : ◌≡◌ {A = ℕ} 0 1 = cc in absurd (omega arith)
    go false e true f h =
        let l = ltb-true _ _ f in
        record { named = eqb-false k 0 e; there = l; is = cc; has = place_has ike_spi k t.ike no_ike l }

-- An IPsec record that k does not own stays, and one that changes keeps its owner or is closed.
module _ (k : ℕ) (x : IpsecRecord) where
  abbrev Others : IpsecRecord → Type 0
  Others y = (y.spi ≡ 0) ⊎ (y.owner ≡ k → ⊥)

  abbrev Still : IpsecRecord → Type 0
  Still y = (y.spi ≡ 0) ⊎ (y.owner ≡ x.owner)

  not_owned : (y : IpsecRecord) → Others x → cond (eqb x.spi 0) x (cond (eqb x.owner k) y x) ≡ x
  not_owned y (inl z) = rw (eq-eqb x.spi 0 z)
  not_owned y (inr n) =
      chosen (λ (z : IpsecRecord). z ≡ x) (eqb x.spi 0) (λ e. refl) (λ e. rw (ne_eqb x.owner k n))

  child_stays : (c : Change) → Others x → child_after k c x ≡ x
  child_stays stays o = refl
  child_stays (becomes r none) o = refl
  child_stays (becomes r (some p)) o = not_owned _ o
  child_stays closes o = not_owned _ o

  child_still : (c : Change) → Still (child_after k c x)
  child_still stays = inr refl
  child_still (becomes r none) = inr refl
  child_still (becomes r (some p)) =
      chosen Still (eqb x.spi 0) (λ e. inr refl)
      (λ e. chosen Still (eqb x.owner k) (λ e. inr refl) (λ e. inr refl))
  child_still closes =
      chosen Still (eqb x.spi 0) (λ e. inr refl)
      (λ e. chosen Still (eqb x.owner k) (λ e. inl refl) (λ e. inr refl))

-- so changes of two owners' records may come in either order
children_swap : (k l : ℕ) → (k ≡ l → ⊥) → (c d : Change) (x : IpsecRecord)
    → child_after l d (child_after k c x) ≡ child_after k c (child_after l d x)
children_swap k l n c d x = go (ℕ_discrete x.owner k) (ℕ_discrete x.owner l)
  where
    other : (m j : ℕ) → (x.owner ≡ m → ⊥) → (b : Change) → Others m x (child_after j b x)
    other m j o b = ⊎_elim inl (λ e. inr (λ z. o (sym e ∙ z))) (child_still j x b)

    go : Dec (x.owner ≡ k) → Dec (x.owner ≡ l) → child_after l d (child_after k c x) ≡ child_after k c (child_after l d x)
    go (yes e) (yes f) = absurd (n (sym e ∙ f))
    go (no o) f = rw (child_stays k x c (inr o)) (sym (child_stays k (child_after l d x) c (other k l o d)))
    go (yes e) (no o) = rw (child_stays l x d (inr o)) (child_stays l (child_after k c x) d (other l k o c))

map-swap : {A : Type 0} (f g : A → A) → ((x : A) → g (f x) ≡ f (g x)) → (xs : List A)
    → map g (map f xs) ≡ map f (map g xs)
map-swap {A} f g e xs = map-map g f xs ∙ ap (λ (h : A → A). map h xs) (λ i x. e x i) ∙ sym (map-map f g xs)

-- a call that does nothing
pub applied_stays : (k : ℕ) (t : Tables) → applied k stays t ≡ t
unfolding applied
applied_stays k t = rw (set-get_or t.ike (place k t) no_ike, map-id t.ipsec)

-- a call that makes the record another, and leaves alone what it owns
pub applied_alone : (k : ℕ) (t : Tables) (r : IkeRecord)
    → applied k (becomes r none) t ≡ tables (set t.ike (place k t) r) t.ipsec
unfolding applied
applied_alone k t r = rw (map-id t.ipsec)

-- an IPsec record that names another owner stays, in its place
pub child_beside : (k : ℕ) (c : Change) (t : Tables) (j : ℕ) → ((get_or t.ipsec j no_ipsec).owner ≡ k → ⊥)
    → get_or (applied k c t).ipsec j no_ipsec ≡ get_or t.ipsec j no_ipsec
unfolding applied
child_beside k c t j n =
    ap (get_or (map (child_after k c) t.ipsec) j) (sym (child_stays k no_ipsec c (inl refl)))
    ∙ get_or-map (child_after k c) t.ipsec j no_ipsec
    ∙ child_stays k (get_or t.ipsec j no_ipsec) c (inr n)

-- A record that is stored in the place of another SPI than k, and has not the SPI k, is not seen by k.
module _ (k : ℕ) (t : Tables) (p : ℕ) (y : IkeRecord) (xs : List IpsecRecord) (there : p < length t.ike)
    (before : (get_or t.ike p no_ike).spi ≡ k → ⊥) (behind : y.spi ≡ k → ⊥) where
  place_unseen : place k (tables (set t.ike p y) xs) ≡ place k t
  place_unseen = store_other ike_spi k y t.ike p no_ike there before behind

  elsewhere : place k t ≡ p → ⊥
  elsewhere e =
      before (ap (λ (i : ℕ). (get_or t.ike i no_ike).spi) (sym e) ∙ place_has ike_spi k t.ike no_ike (rw e there))

  record_unseen : get_or (set t.ike p y) (place k t) no_ike ≡ get_or t.ike (place k t) no_ike
  record_unseen = get_or-set_other t.ike p (place k t) y no_ike elsewhere

  entry_unseen : (view k (tables (set t.ike p y) xs)).entry ≡ (view k t).entry
  entry_unseen = rw (place_unseen, length-set t.ike p y, record_unseen)

-- A change of the record that k means, and another SPI l.
module _ (k l : ℕ) (n : k ≡ l → ⊥) (named : l ≡ 0 → ⊥) (t : Tables) {r : IkeRecord} (m : Found k t r)
    (c : Change) (p : Proper (some r) c) where
  abbrev new : IkeRecord
  new = entry_after c (get_or t.ike (place k t) no_ike)

  abbrev children : List IpsecRecord
  children = map (child_after k c) t.ipsec

  before : (get_or t.ike (place k t) no_ike).spi ≡ l → ⊥
  before e = n (sym m.has ∙ e)

  behind : new.spi ≡ l → ⊥
  behind = go c p
    where
      go : (c : Change) → Proper (some r) c → (entry_after c (get_or t.ike (place k t) no_ike)).spi ≡ l → ⊥
      go stays p e = before e
      go (becomes x q) p e = before (ap ike_spi m.is ∙ sym p ∙ e)
      go closes p e = named (sym e)

  view_beside : view l (applied k c t) ≡ view l t
  unfolding applied
  view_beside =
      rw (entry_unseen l t (place k t) new children m.there before behind, length-map t.ipsec (child_after k c))

  place_still : place l (applied k c t) ≡ place l t
  unfolding applied
  place_still = place_unseen l t (place k t) new children m.there before behind

  -- and a change of l's record behind it
  store_beside : (d : Change) → applied l d (applied k c t)
      ≡ tables (set (set t.ike (place k t) new) (place l t) (entry_after d (get_or t.ike (place l t) no_ike)))
      (map (child_after l d) children)
  unfolding applied
  store_beside d =
      rw (
        place_unseen l t (place k t) new children m.there before behind,
        record_unseen l t (place k t) new children m.there before behind,
      )

-- 0 sees no record
zero_unseen : (k l : ℕ) → l ≡ 0 → (t : Tables) (c : Change) → view l (applied k c t) ≡ view l t
unfolding applied
zero_unseen k l z t c = rw (eq-eqb l 0 z, length-map t.ipsec (child_after k c))

-- Another SPI sees nothing of a change.
pub unseen : (k l : ℕ) → (k ≡ l → ⊥) → (t : Tables) (c : Change) → Proper (view k t).entry c
    → view l (applied k c t) ≡ view l t
unseen k l n t c = go (view k t).entry refl (ℕ_discrete l 0)
  where
    go : (o : Option IkeRecord) → (view k t).entry ≡ o → Dec (l ≡ 0) → Proper o c → view l (applied k c t) ≡ view l t
    go none e d p = rw (p, applied_stays k t)
    go (some r) e (yes z) p = zero_unseen k l z t c
    go (some r) e (no z) p = view_beside k l n z t (found k t e) c p

-- nor is the record that it means in another place
pub place_beside : (k l : ℕ) → (k ≡ l → ⊥) → (l ≡ 0 → ⊥) → (t : Tables) (c : Change) → Proper (view k t).entry c
    → place l (applied k c t) ≡ place l t
place_beside k l n named t c = go (view k t).entry refl
  where
    go : (o : Option IkeRecord) → (view k t).entry ≡ o → Proper o c → place l (applied k c t) ≡ place l t
    go none e p = rw (p, applied_stays k t)
    go (some r) e p = place_still k l n named t (found k t e) c p

-- Changes of two SPIs may come in either order.
pub applied_swap : (k l : ℕ) → (k ≡ l → ⊥) → (t : Tables) (c d : Change) → Proper (view k t).entry c
    → Proper (view l t).entry d
    → applied l d (applied k c t) ≡ applied k c (applied l d t)
applied_swap k l n t c d = go (view k t).entry refl (view l t).entry refl
  where
    go : (o : Option IkeRecord) → (view k t).entry ≡ o → (u : Option IkeRecord) → (view l t).entry ≡ u → Proper o c
        → Proper u d
        → applied l d (applied k c t) ≡ applied k c (applied l d t)
    go none e u f p q = rw (p, applied_stays k t) (sym (applied_stays k (applied l d t)))
    go (some r) e none f p q = rw (q, applied_stays l t) (applied_stays l (applied k c t))
    go (some r) e (some s) f p q =
        let m = found k t e in
        let o = found l t f in
        let differ : place k t ≡ place l t
        → ⊥ = λ i. n (sym m.has ∙ ap (λ (j : ℕ). (get_or t.ike j no_ike).spi) i ∙ o.has) in
        store_beside k l n o.named t m c p d
        ∙ (rw (
          set_comm t.ike (place k t) (place l t) _ _ differ,
          map-swap (child_after k c) (child_after l d) (children_swap k l n c d) t.ipsec,
        )
        (sym (store_beside l k (λ i. n (sym i)) m.named t o d q c)))
