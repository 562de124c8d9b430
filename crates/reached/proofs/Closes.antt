-- Closings keep tables well-formed.
use Prim.Native.Nat.{ℕ, ◌<◌}
use mathlib.Core.Path.{◌≡◌, refl, sym, ap, ◌∙◌}
use mathlib.Core.Logic.{⊎_elim}
use mathlib.Core.List.{map}
use mathlib.Core.Bool.{Bool, true, false, cond}
use borrow.Author.Tests.{eqb-false, eqb-true}
use lib.Dec.{eqb}
use lib.ListN.{length, get_or, length-map, get_or-map}
use Rattle.octets.specs.Lists.{place_of}
use Rattle.octets.proofs.Small.{chosen}
use Rattle.octets.proofs.Places.{place_has}
use Rattle.records.specs.Records.{ike_spi, ipsec_spi, no_ike, no_ipsec, released}
use Rattle.tables.specs.Calls.{ike_closed, owned_closed}
use Rattle.tables.specs.Tables.{Tables, tables}
use Rattle.records.specs.declared.ipsec.IpsecRecord.{IpsecRecord}
use Rattle.tables.proofs.Cases.{IkeClosed, IpsecClosed, close_ike_cases, close_ipsec_cases}
use Rattle.reached.specs.WellFormed.{WellFormed}
use Rattle.reached.specs.Reached.{closes_ike, closes_ipsec, after_call}
use Rattle.reached.proofs.Consistent.{closed, each}
use Rattle.reached.proofs.Stored.{Keeps, still_there, owned_stored}

-- a record that is still in use was not released, and has another owner
in_use : (o : ℕ) (r : IpsecRecord) → ((released o r).spi ≡ 0 → ⊥) → (released o r ≡ r) × (r.owner ≡ o → ⊥)
in_use o r n = go (eqb r.spi 0) refl (eqb r.owner o) refl n
  where
    go : (a : Bool) → eqb r.spi 0 ≡ a → (b : Bool) → eqb r.owner o ≡ b
        → ((cond a r (cond b no_ipsec r)).spi ≡ 0 → ⊥)
        → (cond a r (cond b no_ipsec r) ≡ r) × (r.owner ≡ o → ⊥)
    go true e b f n = absurd (n (eqb-true r.spi 0 e))
    go false e true f n = absurd (n refl)
    go false e false f n = (refl, eqb-false r.owner o f)

-- and one that is free after it is cleared, if the free ones were before
released_clear : (o : ℕ) (r : IpsecRecord) → (r.spi ≡ 0 → r ≡ no_ipsec) → (released o r).spi ≡ 0 → released o r ≡ no_ipsec
released_clear o r clear =
    chosen (λ (x : IpsecRecord). x.spi ≡ 0 → x ≡ no_ipsec) (eqb r.spi 0) (λ e. clear)
    (λ e. chosen (λ (x : IpsecRecord). x.spi ≡ 0 → x ≡ no_ipsec) (eqb r.owner o) (λ f z. refl) (λ f. clear))

module _ (t : Tables) (w : WellFormed t) (spi : ℕ) where
  closed_ipsec : (operator : ℕ) → IpsecClosed t.ike t.ipsec spi operator
      → WellFormed (after_call t (closes_ipsec spi operator))
  unfolding after_call
  closed_ipsec operator o =
      let q = place_of ipsec_spi spi t.ipsec in
      rw o.is
      (record {
        ikes = w.ikes;
        ipsecs = closed ipsec_spi no_ipsec t.ipsec w.ipsecs q refl;
        owned = owned_stored t.ike t.ipsec q no_ipsec w.owned (λ n. absurd (n refl));
      })

  -- by a call or by a check
  pub closed_well : place_of ike_spi spi t.ike < length t.ike
      → WellFormed (tables (ike_closed t.ike spi) (owned_closed t.ipsec spi))
  closed_well there =
      record {
        ikes = closed ike_spi no_ike t.ike w.ikes (place_of ike_spi spi t.ike) refl;
        ipsecs =
            each ipsec_spi no_ipsec t.ipsec w.ipsecs (released spi) refl (λ r n. ap ipsec_spi (in_use spi r n).0)
            (released_clear spi)
            (λ r n b. rw (in_use spi r n).0 b);
        owned =
            λ j l n.
            let at : get_or (map (released spi) t.ipsec) j no_ipsec ≡ released spi (get_or t.ipsec j no_ipsec) =
            get_or-map (released spi) t.ipsec j no_ipsec in
            let kept = in_use spi (get_or t.ipsec j no_ipsec) (λ z. n (ap ipsec_spi at ∙ z)) in
            let same : get_or (map (released spi) t.ipsec) j no_ipsec ≡ get_or t.ipsec j no_ipsec = at ∙ kept.0 in
            let old = w.owned j (rw (← length-map t.ipsec (released spi)) l) (λ z. n (ap ipsec_spi same ∙ z)) in
            rw same (
              old.0,
              still_there t.ike (get_or t.ipsec j no_ipsec).owner (place_of ike_spi spi t.ike) no_ike old.1
                  (λ e. kept.1 (sym e ∙ place_has ike_spi spi t.ike no_ike there)),
            );
      }

  closed_ike : (operator : ℕ) → IkeClosed t.ike t.ipsec spi operator
      → WellFormed (after_call t (closes_ike spi operator))
  unfolding after_call
  closed_ike operator o = rw o.is (closed_well o.own.there)

pub closes_ike_keeps : (spi operator : ℕ) → Keeps (λ (t : Tables). after_call t (closes_ike spi operator))
unfolding after_call
closes_ike_keeps spi operator t w =
    ⊎_elim (λ e. rw (e.0, e.1) w) (closed_ike t w spi operator) (close_ike_cases t.ike t.ipsec spi operator)

pub closes_ipsec_keeps : (spi operator : ℕ) → Keeps (λ (t : Tables). after_call t (closes_ipsec spi operator))
unfolding after_call
closes_ipsec_keeps spi operator t w =
    ⊎_elim (λ e. rw e w) (closed_ipsec t w spi operator) (close_ipsec_cases t.ike t.ipsec spi operator)
