-- What keeps tables well-formed, of any call: a record changed in its place, one stored in a free place, every IPsec
-- record changed, and how owners stay.
use Prim.Native.Nat.{ℕ, ◌<◌, ◌≤◌}
use mathlib.Core.Path.{◌≡◌, sym, ap, ◌∙◌}
use mathlib.Core.List.{List, map}
use native.Mathlib.Omega.{arith}
use native.Mathlib.Decide.{ℕ_discrete}
use lib.ListN.{length, get_or, set, length-set, length-map, get_or-map}
use lib.Seq.{get_or-set_same, get_or-set_other}
use Rattle.octets.specs.Lists.{place_of}
use Rattle.octets.proofs.Places.{at_most, place_has, store_same}
use Rattle.records.specs.Records.{ike_spi, ipsec_spi, no_ike, no_ipsec}
use Rattle.tables.specs.Tables.{Tables, tables, meant}
use Rattle.records.specs.declared.ike.IkeRecord.{IkeRecord}
use Rattle.records.specs.declared.ipsec.IpsecRecord.{IpsecRecord}
use Rattle.reached.specs.WellFormed.{IkeBounds, IpsecBounds, Owned, WellFormed}
use Rattle.reached.proofs.Consistent.{changed, each}

-- what a call has to show: it keeps tables well-formed
abbrev pub Keeps : (Tables → Tables) → Type 0
Keeps f = (t : Tables) → WellFormed t → WellFormed (f t)

-- an IKE record stays where another place is stored to
pub still_there : (ike : List IkeRecord) (o p : ℕ) (y : IkeRecord) → place_of ike_spi o ike < length ike
    → ((get_or ike p no_ike).spi ≡ o → ⊥) → place_of ike_spi o (set ike p y) < length (set ike p y)
still_there ike o p y h n =
    let q = place_of ike_spi o ike in
    let has = place_has ike_spi o ike no_ike h in
    let other : q ≡ p → ⊥ = λ e. n (ap (λ (i : ℕ). (get_or ike i no_ike).spi) (sym e) ∙ has) in
    let at = at_most ike_spi o (set ike p y) q no_ike (rw length-set h)
    (ap ike_spi (get_or-set_other ike p q y no_ike other) ∙ has) in
    rw (length-set ike p y) (omega arith)

-- an IPsec record that is not the one stored
module _ (ike : List IkeRecord) (ipsec : List IpsecRecord) (p : ℕ) (y : IpsecRecord) where
  pub owned_stored : Owned ike ipsec
      → ((y.spi ≡ 0 → ⊥) → (y.owner ≡ 0 → ⊥) × (place_of ike_spi y.owner ike < length ike))
      → Owned ike (set ipsec p y)
  owned_stored old new j l n = go (ℕ_discrete j p)
    where
      inside : j < length ipsec
      inside = rw (← length-set ipsec p y) l

      go : Dec (j ≡ p)
          → ((get_or (set ipsec p y) j no_ipsec).owner ≡ 0 → ⊥) ×
          (place_of ike_spi (get_or (set ipsec p y) j no_ipsec).owner ike < length ike)
      go (yes e) =
          let same : get_or (set ipsec p y) j no_ipsec ≡ y = rw e (get_or-set_same ipsec p y no_ipsec (rw e at inside)) in
          rw same (new (λ z. n (ap ipsec_spi same ∙ z)))
      go (no e) =
          let same : get_or (set ipsec p y) j no_ipsec ≡ get_or ipsec j no_ipsec = get_or-set_other ipsec p j y no_ipsec e in
          rw same (old j inside (λ z. n (ap ipsec_spi same ∙ z)))

-- the record that an SPI means is in use and in its bounds
pub record Held (ike : List IkeRecord) (spi : ℕ) : Type 0 where
  pub named : (meant ike spi).spi ≡ 0 → ⊥
  pub fits : IkeBounds (meant ike spi)

module _ (t : Tables) (w : WellFormed t) where
  pub held : (spi : ℕ) → (spi ≡ 0 → ⊥) → place_of ike_spi spi t.ike < length t.ike → Held t.ike spi
  held spi named there =
      let n : (meant t.ike spi).spi ≡ 0 → ⊥ = λ z. named (sym (place_has ike_spi spi t.ike no_ike there) ∙ z) in
      record { named = n; fits = w.ikes.bounded (place_of ike_spi spi t.ike) there n }

  -- a record stored in a free place leaves every owner where it is
  pub owned_beside : (y : IkeRecord) → place_of ike_spi 0 t.ike < length t.ike
      → Owned (set t.ike (place_of ike_spi 0 t.ike) y) t.ipsec
  owned_beside y room j l n =
      let old = w.owned j l n in (
        old.0,
        still_there t.ike (get_or t.ipsec j no_ipsec).owner (place_of ike_spi 0 t.ike) y old.1
            (λ e. old.0 (sym e ∙ place_has ike_spi 0 t.ike no_ike room)),
      )

  -- every owner has an IKE record, so no IPsec record names an SPI that none has
  pub owned_by_none : (spi : ℕ) → length t.ike ≤ place_of ike_spi spi t.ike → (j : ℕ) → j < length t.ipsec
      → ((get_or t.ipsec j no_ipsec).spi ≡ 0 → ⊥) → (get_or t.ipsec j no_ipsec).owner ≡ spi → ⊥
  owned_by_none spi new j l n e =
      let there = (w.owned j l n).1 in
      let same = ap (λ (k : ℕ). place_of ike_spi k t.ike) e in
      omega arith

  -- an IKE record changed in its place, with its SPI and in its bounds
  pub ike_changed : (p : ℕ) (y : IkeRecord) → p < length t.ike → (y.spi ≡ 0 → ⊥)
      → y.spi ≡ (get_or t.ike p no_ike).spi → IkeBounds y
      → WellFormed (tables (set t.ike p y) t.ipsec)
  ike_changed p y there named same fits =
      record {
        ikes = changed ike_spi no_ike t.ike w.ikes p y there named same fits;
        ipsecs = w.ipsecs;
        owned =
            λ j l n.
            let old = w.owned j l n in (
              old.0,
              let there = store_same ike_spi (get_or t.ipsec j no_ipsec).owner t.ike p y no_ike same in
                  rw (there, length-set t.ike p y) old.1,
            );
      }

  -- every IPsec record changed, each with its SPI and owner and in its bounds; a free place stays free
  pub ipsec_changed : (f : IpsecRecord → IpsecRecord) → ((r : IpsecRecord) → (f r).spi ≡ r.spi)
      → ((r : IpsecRecord) → (f r).owner ≡ r.owner)
      → f no_ipsec ≡ no_ipsec → ((r : IpsecRecord) → IpsecBounds r → IpsecBounds (f r))
      → WellFormed (tables t.ike (map f t.ipsec))
  ipsec_changed f spis owners free fits =
      record {
        ikes = w.ikes;
        ipsecs =
            each ipsec_spi no_ipsec t.ipsec w.ipsecs f free (λ r n. spis r)
            (λ r clear z. ap f (clear (sym (spis r) ∙ z)) ∙ free) (λ r n. fits r);
        owned =
            λ j l n.
            let at : get_or (map f t.ipsec) j no_ipsec ≡ f (get_or t.ipsec j no_ipsec) =
            ap (get_or (map f t.ipsec) j) (sym free) ∙ get_or-map f t.ipsec j no_ipsec in
            let same : (get_or (map f t.ipsec) j no_ipsec).owner ≡ (get_or t.ipsec j no_ipsec).owner =
            ap (λ (r : IpsecRecord). r.owner) at ∙ owners (get_or t.ipsec j no_ipsec) in
            rw same (w.owned j (rw (← length-map t.ipsec f) l)
            (λ z. n (ap ipsec_spi at ∙ spis (get_or t.ipsec j no_ipsec) ∙ z)));
      }
