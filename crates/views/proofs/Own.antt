-- What an SPI sees after a change of its own record: a record that keeps its SPI is still the one that is meant.
use Prim.Native.Nat.{ℕ}
use mathlib.Core.Path.{◌≡◌, refl, sym, ap, ◌∙◌}
use mathlib.Core.List.{map, map-map}
use mathlib.Core.Bool.{Bool, true, false}
use mathlib.Core.Option.{Option, none, some, or_else}
use borrow.Author.Tests.{ne_eqb, lt-ltb}
use lib.Dec.{eqb}
use lib.ListN.{length, set, length-set, length-map}
use lib.Seq.{get_or-set_same, set-set}
use Rattle.octets.proofs.Places.{store_same}
use Rattle.address.specs.declared.pair.Pair.{Pair}
use Rattle.records.specs.Records.{ike_spi, no_ike, follows}
use Rattle.tables.specs.Tables.{Tables, tables}
use Rattle.tables.specs.View.{view, becomes, child_after, applied}
use Rattle.records.specs.declared.ike.IkeRecord.{IkeRecord}
use Rattle.records.specs.declared.ipsec.IpsecRecord.{IpsecRecord}
use Rattle.views.proofs.View.{place, found}

-- Of two moves of one owner's records the later decides.
follow_over : (k : ℕ) (p o : Pair) (x : IpsecRecord) → follows k p (follows k o x) ≡ follows k p x
follow_over k p o x = go (eqb x.spi 0) refl (eqb x.owner k) refl
  where
    go : (a : Bool) → eqb x.spi 0 ≡ a → (b : Bool) → eqb x.owner k ≡ b
        → follows k p (follows k o x) ≡ follows k p x
    go true e b f = simp e
    go false e true f = simp (e, f)
    go false e false f = simp (e, f)

-- A record that keeps its SPI is the one meant after the change too.
module _ (k : ℕ) (t : Tables) {r : IkeRecord} (seen : (view k t).entry ≡ some r) (new : IkeRecord)
    (same : new.spi ≡ r.spi)
    (p : Option Pair) where
  place_own : place k (tables (set t.ike (place k t) new) t.ipsec) ≡ place k t
  place_own = store_same ike_spi k t.ike (place k t) new no_ike (same ∙ ap ike_spi (sym (found k t seen).is))

  -- in the same place
  pub stays_in_place : place k (applied k (becomes new p) t) ≡ place k t
  unfolding applied
  stays_in_place = place_own

  pub view_own : view k (applied k (becomes new p) t) ≡ record { entry = some new; lent = length t.ipsec }
  unfolding applied
  view_own =
      let m = found k t seen in
      rw (
        ne_eqb k 0 m.named,
        place_own,
        length-set t.ike (place k t) new,
        lt-ltb (place k t) (length t.ike) m.there,
        get_or-set_same t.ike (place k t) new no_ike m.there,
        length-map t.ipsec (child_after k (becomes new p)),
      )

  -- a second change takes the place of the first, but for a pair that only the first gives
  pub applied_twice : (last : IkeRecord) (q : Option Pair)
      → applied k (becomes last q) (applied k (becomes new p) t) ≡ applied k (becomes last (or_else q p)) t
  unfolding applied or_else
  applied_twice last q =
      let both =
      map-map _ _ t.ipsec ∙ ap (λ (f : IpsecRecord → IpsecRecord). map f t.ipsec) (λ i x. go p q x i) in
      rw (place_own, set-set t.ike (place k t) new last) (ap (tables (set t.ike (place k t) last)) both)
    where
      go : (p q : Option Pair) (x : IpsecRecord)
          → child_after k (becomes last q) (child_after k (becomes new p) x) ≡ child_after k (becomes last (or_else q p)) x
      go none none x = refl
      go (some u) none x = refl
      go none (some v) x = refl
      go (some u) (some v) x = follow_over k v u x
