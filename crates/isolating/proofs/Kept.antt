-- Well-formed tables stay so, whatever change a call does; and empty ones are.
use Prim.Native.Nat.{ℕ}
use mathlib.Core.Path.{◌≡◌, refl, sym, ◌∙◌}
use mathlib.Core.Logic.{inl, inr}
use mathlib.Core.List.{List}
use mathlib.Core.Bool.{Bool, true, false, cond}
use mathlib.Core.Option.{Option, none, some}
use native.Mathlib.Omega.{arith}
use native.Mathlib.Decide.{ℕ_discrete}
use borrow.Author.Tests.{eqb-true, eqb-false}
use lib.Dec.{eqb}
use lib.ListN.{set, length-set, length-map, length-replicate}
use Rattle.octets.specs.Limits.{ike_places, ipsec_places, operators}
use Rattle.octets.specs.Lists.{place_of}
use Rattle.policy.specs.Policy.{no_policy}
use Rattle.policy.specs.declared.rules.Policy.{Policy}
use Rattle.address.specs.declared.pair.Pair.{Pair}
use Rattle.records.specs.Records.{ike_spi, ipsec_spi, no_ike, new_ipsec, no_ipsec, released, follows}
use Rattle.records.specs.declared.ike.IkeRecord.{IkeRecord}
use Rattle.records.specs.declared.ipsec.IpsecRecord.{IpsecRecord}
use Rattle.tables.specs.Calls.{owns, ike_closed}
use Rattle.tables.specs.Tables.{meant}
use Rattle.sharing.specs.Table as table
use Rattle.sharing.proofs.Views.{put_found, once_put, once_map}
use Rattle.sharing.proofs.Lookups.{Owned, owned}
use Rattle.sharing.proofs.Stores.{store_once}
use Rattle.sharing.proofs.Children.{touched_keeps}
use Rattle.sharing.proofs.Stays.{all_set, all_replicate, all_map, all_give, once_free, put_stays, store_others}
use Rattle.sharing.proofs.Stays.{store_same}
use Rattle.isolating.specs.State.{State, empty}
use Rattle.isolating.specs.Reached.{HasOwner, WellFormed}
use Rattle.isolating.specs.Changes.{Change, stays, opens, adds, clones, becomes, moves, closes, closes_child, sets}
use Rattle.isolating.specs.Changes.{applied, ipsec_owner, is_of, belongs, NewIke, NewIpsec, Rewrites, Allowed}

-- what is found is there
some_there : {A : Type 0} (o : Option A) (x : A) → o ≡ some x → o ≡ none → ⊥
some_there o x e f = let z : ◌≡◌ {A = ℕ} 0 1 = cc in omega arith

-- an IPsec record still has its owner
still_owned : (ike ike' : List IkeRecord)
    → ((k : ℕ) → (k ≡ 0 → ⊥) → (table.found ike_spi k ike ≡ none → ⊥) → table.found ike_spi k ike' ≡ none → ⊥)
    → (c : IpsecRecord) → HasOwner ike c → HasOwner ike' c
still_owned ike ike' on c h n = ((h n).0, on c.owner (h n).0 (h n).1)

module _ (s : State) (w : WellFormed s) (o : ℕ) where
  opened_owned : (r : IkeRecord) → NewIke o r s → (c : IpsecRecord) → HasOwner s.ike c
      → HasOwner (table.put ike_spi r s.ike) c
  opened_owned r p = still_owned s.ike (table.put ike_spi r s.ike) (put_stays ike_spi r s.ike p.new)

  opens_kept : (r : IkeRecord) (c : IpsecRecord) → NewIke o r s → NewIpsec o c s → c.owner ≡ r.spi
      → WellFormed (applied (opens r c) s)
  unfolding applied
  opens_kept r c p q e =
      let ike = table.put ike_spi r s.ike in
      record {
        ike_once = once_put ike_spi r s.ike p.room p.new w.ike_once;
        ipsec_once = once_put ipsec_spi c s.ipsec q.room q.new w.ipsec_once;
        owned =
            all_set (HasOwner ike) s.ipsec (place_of ipsec_spi 0 s.ipsec) c
            (all_give (HasOwner s.ike) (HasOwner ike) (opened_owned r p) s.ipsec w.owned)
            (λ n. rw e (p.named, some_there _ r (put_found ike_spi r s.ike p.room p.new)));
        ipsec_places_lem = simp length-set w.ipsec_places_lem;
        policy_places = w.policy_places;
      }

  clones_kept : (r : IkeRecord) → NewIke o r s → WellFormed (applied (clones r) s)
  unfolding applied
  clones_kept r p =
      let ike = table.put ike_spi r s.ike in
      record {
        ike_once = once_put ike_spi r s.ike p.room p.new w.ike_once;
        ipsec_once = w.ipsec_once;
        owned = all_give (HasOwner s.ike) (HasOwner ike) (opened_owned r p) s.ipsec w.owned;
        ipsec_places_lem = w.ipsec_places_lem;
        policy_places = w.policy_places;
      }

  adds_kept : (c : IpsecRecord) → NewIpsec o c s → owns o c.owner s.ike ≡ true → WellFormed (applied (adds c) s)
  unfolding applied
  adds_kept c p e =
      let h = owned ike_spi no_ike (is_of o) c.owner s.ike e in
      record {
        ike_once = w.ike_once;
        ipsec_once = once_put ipsec_spi c s.ipsec p.room p.new w.ipsec_once;
        owned =
            all_set (HasOwner s.ike) s.ipsec (place_of ipsec_spi 0 s.ipsec) c w.owned
            (λ n. (h.named, some_there _ (meant s.ike c.owner) h.is));
        ipsec_places_lem = simp length-set w.ipsec_places_lem;
        policy_places = w.policy_places;
      }

  -- a record that becomes another of its SPI stays, and all others
  module _ (spi : ℕ) (r : IkeRecord) (p : Rewrites o spi r s) where
    became_once : table.Once ike_spi (set s.ike (place_of ike_spi spi s.ike) r)
    became_once =
        store_once ike_spi spi r (inl p.same) s.ike (owned ike_spi no_ike (is_of o) spi s.ike p.owned).named
        w.ike_once

    became_owned : (c : IpsecRecord) → HasOwner s.ike c → HasOwner (set s.ike (place_of ike_spi spi s.ike) r) c
    became_owned = still_owned s.ike (set s.ike (place_of ike_spi spi s.ike) r) on
      where
        on : (k : ℕ) → (k ≡ 0 → ⊥) → (table.found ike_spi k s.ike ≡ none → ⊥)
            → table.found ike_spi k (set s.ike (place_of ike_spi spi s.ike) r) ≡ none → ⊥
        on k n there gone = at_spi (ℕ_discrete k spi)
          where
            at_spi : Dec (k ≡ spi) → ⊥
            at_spi (yes q) = some_there _ r (store_same ike_spi spi r p.same s.ike (rw q at there)) (rw q at gone)
            at_spi (no d) = there (sym (store_others ike_spi spi r (inl p.same) k n d s.ike) ∙ gone)

    becomes_kept : WellFormed (applied (becomes spi r) s)
    unfolding applied
    becomes_kept =
        let ike = set s.ike (place_of ike_spi spi s.ike) r in
        record {
          ike_once = became_once;
          ipsec_once = w.ipsec_once;
          owned = all_give (HasOwner s.ike) (HasOwner ike) became_owned s.ipsec w.owned;
          ipsec_places_lem = w.ipsec_places_lem;
          policy_places = w.policy_places;
        }

    moves_kept : (pair : Pair) → WellFormed (applied (moves spi r pair) s)
    unfolding applied
    moves_kept pair =
        let ike = set s.ike (place_of ike_spi spi s.ike) r in
        record {
          ike_once = became_once;
          ipsec_once =
              once_map ipsec_spi (follows spi pair)
              (touched_keeps ipsec_spi ipsec_owner spi (λ c. new_ipsec c.spi c.owner pair) (λ c. inr (refl, refl)))
              s.ipsec w.ipsec_once;
          owned =
              all_map (HasOwner s.ike) (HasOwner ike) (follows spi pair)
              (λ c a. go c (became_owned c a) (eqb c.spi 0) (eqb c.owner spi)) s.ipsec w.owned;
          ipsec_places_lem = simp length-map w.ipsec_places_lem;
          policy_places = w.policy_places;
        }
      where
        go : (c : IpsecRecord) → HasOwner (set s.ike (place_of ike_spi spi s.ike) r) c → (a b : Bool)
            → HasOwner (set s.ike (place_of ike_spi spi s.ike) r)
            (cond a c (cond b (new_ipsec c.spi c.owner pair) c))
        go c h true b = h
        go c h false true = h
        go c h false false = h

  closes_kept : (spi : ℕ) → owns o spi s.ike ≡ true → WellFormed (applied (closes spi) s)
  unfolding applied
  closes_kept spi e =
      record {
        ike_once = store_once ike_spi spi no_ike (inr refl) s.ike h.named w.ike_once;
        ipsec_once =
            once_map ipsec_spi (released spi) (touched_keeps ipsec_spi ipsec_owner spi (λ c. no_ipsec) (λ c. inl refl))
            s.ipsec w.ipsec_once;
        owned =
            all_map (HasOwner s.ike) (HasOwner (ike_closed s.ike spi)) (released spi)
            (λ c a. go c a (eqb c.spi 0) refl (eqb c.owner spi) refl) s.ipsec w.owned;
        ipsec_places_lem = simp length-map w.ipsec_places_lem;
        policy_places = w.policy_places;
      }
    where
      h : Owned ike_spi no_ike (is_of o) spi s.ike
      h = owned ike_spi no_ike (is_of o) spi s.ike e

      go : (c : IpsecRecord) → HasOwner s.ike c → (a : Bool) → eqb c.spi 0 ≡ a
          → (b : Bool) → eqb c.owner spi ≡ b
          → HasOwner (ike_closed s.ike spi) (cond a c (cond b no_ipsec c))
      go c a true f b g n = absurd (n (eqb-true c.spi 0 f))
      go c a false f true g n = absurd (n refl)
      go c a false f false g n = (
        (a n).0,
        λ gone.
            (a n).1
            (sym (store_others ike_spi spi no_ike (inr refl) c.owner (a n).0 (eqb-false c.owner spi g) s.ike)
            ∙ gone),
      )

  closes_child_kept : (spi : ℕ) → table.owns ipsec_spi no_ipsec (belongs o s.ike) spi s.ipsec ≡ true
      → WellFormed (applied (closes_child spi) s)
  unfolding applied
  closes_child_kept spi e =
      let h = owned ipsec_spi no_ipsec (belongs o s.ike) spi s.ipsec e in
      record {
        ike_once = w.ike_once;
        ipsec_once = store_once ipsec_spi spi no_ipsec (inr refl) s.ipsec h.named w.ipsec_once;
        owned =
            all_set (HasOwner s.ike) s.ipsec (place_of ipsec_spi spi s.ipsec) no_ipsec w.owned
            (λ n. absurd (n refl));
        ipsec_places_lem = simp length-set w.ipsec_places_lem;
        policy_places = w.policy_places;
      }

  sets_kept : (q : ℕ) (policy : Policy) → WellFormed (applied (sets q policy) s)
  unfolding applied
  sets_kept q policy =
      record {
        ike_once = w.ike_once;
        ipsec_once = w.ipsec_once;
        owned = w.owned;
        ipsec_places_lem = w.ipsec_places_lem;
        policy_places = simp length-set w.policy_places;
      }

  pub stays_well : (c : Change) → Allowed o c s → WellFormed (applied c s)
  stays_well stays p = unfold applied in w
  stays_well (opens r c) p = opens_kept r c p.0 p.1 p.2
  stays_well (adds c) p = adds_kept c p.0 p.1
  stays_well (clones r) p = clones_kept r p
  stays_well (becomes spi r) p = becomes_kept spi r p
  stays_well (moves spi r pair) p = moves_kept spi r p pair
  stays_well (closes spi) p = closes_kept spi p
  stays_well (closes_child spi) p = closes_child_kept spi p
  stays_well (sets q policy) p = sets_kept q policy

pub empty_well : WellFormed empty
empty_well =
    record {
      ike_once = once_free ike_spi ike_places no_ike refl;
      ipsec_once = once_free ipsec_spi ipsec_places no_ipsec refl;
      owned = all_replicate (HasOwner empty.ike) ipsec_places no_ipsec (λ n. absurd (n refl));
      ipsec_places_lem = length-replicate ipsec_places no_ipsec;
      policy_places = length-replicate operators no_policy;
    }
