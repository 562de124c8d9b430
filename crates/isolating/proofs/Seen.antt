-- A change, seen by the operator whose call does it, and by the other.
use Prim.Native.Nat.{ℕ}
use mathlib.Core.Path.{◌≡◌, refl, sym, ap, ◌∙◌}
use mathlib.Core.Logic.{◌⊎◌, inl, inr}
use mathlib.Core.List.{List, [], ◌∷◌}
use mathlib.Core.Bool.{Bool, true, false, ◌&&◌, not}
use mathlib.Core.Option.{none, some}
use native.Mathlib.Omega.{arith}
use borrow.Author.Tests.{eq-eqb, ne_eqb, eqb-true, ltb-true}
use lib.Dec.{eqb}
use lib.ListN.{set}
use lib.Seq.{get_or-set_same, get_or-set_other}
use Rattle.octets.specs.Limits.{operators}
use Rattle.octets.specs.Lists.{place_of}
use Rattle.octets.specs.Operators.{is_operator}
use Rattle.order.specs.Order.{All}
use Rattle.address.specs.declared.pair.Pair.{Pair}
use Rattle.policy.specs.Policy.{no_policy}
use Rattle.policy.specs.declared.rules.Policy.{Policy}
use Rattle.records.specs.Records.{ike_spi, ipsec_spi, no_ike, new_ipsec, no_ipsec, of_operator}
use Rattle.records.specs.declared.ike.IkeRecord.{IkeRecord}
use Rattle.records.specs.declared.ipsec.IpsecRecord.{IpsecRecord}
use Rattle.tables.specs.Calls.{has_ike, owns, owns_ipsec, ike_closed}
use Rattle.tables.specs.Tables.{meant}
use Rattle.sharing.specs.Table as table
use Rattle.sharing.specs.Table.{View, view}
use Rattle.sharing.proofs.Views.{put_view, agree_view, all_each}
use Rattle.sharing.proofs.Lookups.{own_free, owns_has, Owned, owned, replaced_some, replaced_others}
use Rattle.sharing.proofs.Stores.{store_own, store_other}
use Rattle.sharing.proofs.Children.{closed_children, changed_children, others_children, opened_children}
use Rattle.isolating.specs.State.{State, own_in}
use Rattle.isolating.specs.Reached.{HasOwner, WellFormed}
use Rattle.isolating.specs.Changes.{Change, stays, opens, adds, clones, becomes, moves, closes, closes_child, sets}
use Rattle.isolating.specs.Changes.{applied, shown, ipsec_owner, own, is_of, belongs, NewIke, NewIpsec}
use Rattle.isolating.specs.Changes.{Rewrites, Allowed}

abbrev own_ikes : ℕ → List IkeRecord → View IkeRecord
own_ikes o ike = view ike_spi (of_operator o) ike

abbrev own_ipsecs : ℕ → List IkeRecord → List IpsecRecord → View IpsecRecord
own_ipsecs o ike ipsec = view ipsec_spi (owns_ipsec o ike) ipsec

own_path : {a b : View IkeRecord} {c d : View IpsecRecord} {p q : Policy}
    → a ≡ b → c ≡ d → p ≡ q → own a c p ≡ own b d q
own_path e f g = λ i. own (e i) (f i) (g i)

-- whose an SPI is, by what the view of the IKE table finds
owners : (o : ℕ) (ike : List IkeRecord) (v : View IkeRecord) → own_ikes o ike ≡ v → (k : ℕ)
    → owns o k ike ≡ table.has table.any (v.find k)
owners o ike v e k =
    owns_has ike_spi no_ike (is_of o) k ike ∙ ap (λ (w : View IkeRecord). table.has table.any (w.find k)) e

same_owners : (o : ℕ) (ike ike' : List IkeRecord)
    → own_ikes o ike' ≡ own_ikes o ike → (k : ℕ) → owns o k ike' ≡ owns o k ike
same_owners o ike ike' e k = owners o ike' (own_ikes o ike) e k ∙ sym (owns_has ike_spi no_ike (is_of o) k ike)

-- no IPsec record names a new SPI
unnamed : (ike : List IkeRecord) (spi : ℕ) → table.found ike_spi spi ike ≡ none → (cs : List IpsecRecord)
    → All (HasOwner ike) cs → All (λ (c : IpsecRecord). (c.spi ≡ 0 → ⊥) → c.owner ≡ spi → ⊥) cs
unnamed ike spi new [] a = tt
unnamed ike spi new (c ∷ cs) a = (λ n e. (a.0 n).1 (rw e new), unnamed ike spi new cs a.1)

-- the IPsec records where nothing changes of the IKE records that are one's own
same_ipsecs : (o : ℕ) (ike ike' : List IkeRecord) (ipsec : List IpsecRecord)
    → ((k : ℕ) → owns o k ike' ≡ owns o k ike) → own_ipsecs o ike' ipsec ≡ own_ipsecs o ike ipsec
same_ipsecs o ike ike' ipsec e =
    agree_view ipsec_spi (owns_ipsec o ike) (owns_ipsec o ike') ipsec
    (all_each _ (λ c. ap (λ (b : Bool). not (eqb c.spi 0) && b) (e c.owner)) ipsec)

module _ (s : State) (w : WellFormed s) (o : ℕ) where
  -- one's own changes
  own_opened : (r : IkeRecord) → NewIke o r s
      → own_ikes o (table.put ike_spi r s.ike) ≡ table.added ike_spi r (own_ikes o s.ike)
  own_opened r p =
      put_view ike_spi r (of_operator o) (own_free ike_spi (is_of o)) s.ike p.room p.named p.new
      ∙ rw (ne_eqb r.spi 0 p.named, eq-eqb r.agreed.operator o p.mine)

  -- the other SPIs are whose they were
  added_owners : (ike : List IkeRecord) (r : IkeRecord) → own_ikes o ike ≡ table.added ike_spi r (own_ikes o s.ike)
      → (k : ℕ) → (k ≡ r.spi → ⊥) → owns o k ike ≡ owns o k s.ike
  added_owners ike r e k n =
      owners o ike _ e k ∙ rw (ne_eqb r.spi k (λ q. n (sym q))) (sym (owns_has ike_spi no_ike (is_of o) k s.ike))

  own_cloned : (r : IkeRecord) → NewIke o r s
      → own_ipsecs o (table.put ike_spi r s.ike) s.ipsec ≡ own_ipsecs o s.ike s.ipsec
  own_cloned r p =
      let ike = table.put ike_spi r s.ike in
      opened_children ipsec_spi ipsec_owner (λ k. owns o k s.ike) (λ k. owns o k ike) r.spi s.ipsec
      (added_owners ike r (own_opened r p)) (unnamed s.ike r.spi p.new s.ipsec w.owned)

  own_added : (ike : List IkeRecord) (c : IpsecRecord) → NewIpsec o c s → owns o c.owner ike ≡ true
      → own_ipsecs o ike (table.put ipsec_spi c s.ipsec) ≡ table.added ipsec_spi c (own_ipsecs o ike s.ipsec)
  own_added ike c p e =
      put_view ipsec_spi c (owns_ipsec o ike) (own_free ipsec_spi (belongs o ike)) s.ipsec p.room p.named p.new
      ∙ rw (ne_eqb c.spi 0 p.named, e)

  own_opens : (r : IkeRecord) (c : IpsecRecord) → NewIke o r s → NewIpsec o c s → c.owner ≡ r.spi
      → own_in o (applied (opens r c) s) ≡ shown (opens r c) (own_in o s)
  unfolding applied shown own_in
  own_opens r c p q e =
      own_path (own_opened r p)
      (own_added ike c q mine ∙ ap (table.added ipsec_spi c) (own_cloned r p)) refl
    where
      ike : List IkeRecord
      ike = table.put ike_spi r s.ike

      mine : owns o c.owner ike ≡ true
      mine = rw e (owners o ike _ (own_opened r p) r.spi ∙ rw (eq-eqb r.spi r.spi refl))

  -- an own record that becomes another, or is closed
  module _ (spi : ℕ) (e : owns o spi s.ike ≡ true) where
    is : Owned ike_spi no_ike (is_of o) spi s.ike
    is = owned ike_spi no_ike (is_of o) spi s.ike e

    own_closed : own_ikes o (ike_closed s.ike spi)
        ≡ table.changed ike_spi (table.replaced ike_spi spi none) (own_ikes o s.ike)
    own_closed =
        store_own ike_spi spi no_ike (inr refl) (of_operator o) (own_free ike_spi (is_of o)) s.ike w.ike_once
        is.named (meant s.ike spi) is.is is.in_use

    own_closes : own_in o (applied (closes spi) s) ≡ shown (closes spi) (own_in o s)
    unfolding applied shown own_in
    own_closes =
        own_path own_closed
        (closed_children ipsec_spi ipsec_owner (λ k. owns o k s.ike) (λ k. owns o k (ike_closed s.ike spi)) spi
        s.ipsec (λ c. no_ipsec) (λ c. inl refl) w.ipsec_once
        (λ k n.
        owners o (ike_closed s.ike spi) _ own_closed k ∙ replaced_others ike_spi (of_operator o) s.ike spi none k n
        ∙ sym (owns_has ike_spi no_ike (is_of o) k s.ike))
        (λ c. refl))
        refl

  module _ (spi : ℕ) (r : IkeRecord) (p : Rewrites o spi r s) where
    in_use : of_operator o r ≡ true
    in_use = rw (p.same, ne_eqb spi 0 (is spi p.owned).named, eq-eqb r.agreed.operator o p.mine)

    own_became : own_ikes o (set s.ike (place_of ike_spi spi s.ike) r)
        ≡ table.changed ike_spi (table.replaced ike_spi spi (some r)) (own_ikes o s.ike)
    own_became =
        let h = is spi p.owned in
        store_own ike_spi spi r (inl p.same) (of_operator o) (own_free ike_spi (is_of o)) s.ike w.ike_once
        h.named (meant s.ike spi) h.is h.in_use
        ∙ rw in_use

    became_owners : (k : ℕ) → owns o k (set s.ike (place_of ike_spi spi s.ike) r) ≡ owns o k s.ike
    became_owners k =
        owners o (set s.ike (place_of ike_spi spi s.ike) r) _ own_became k
        ∙ replaced_some ike_spi (own_ikes o s.ike) spi r k ∙ sym (owns_has ike_spi no_ike (is_of o) k s.ike)

    own_becomes : own_in o (applied (becomes spi r) s) ≡ shown (becomes spi r) (own_in o s)
    unfolding applied shown own_in
    own_becomes =
        own_path own_became
        (same_ipsecs o s.ike (set s.ike (place_of ike_spi spi s.ike) r) s.ipsec became_owners) refl

    own_moves : (pair : Pair) → own_in o (applied (moves spi r pair) s) ≡ shown (moves spi r pair) (own_in o s)
    unfolding applied shown own_in
    own_moves pair =
        own_path own_became
        (changed_children ipsec_spi ipsec_owner (λ k. owns o k s.ike)
        (λ k. owns o k (set s.ike (place_of ike_spi spi s.ike) r)) spi s.ipsec
        (λ c. new_ipsec c.spi c.owner pair) (λ c. inr (refl, refl)) w.ipsec_once became_owners
        (λ c. (refl, refl)))
        refl

  own_closes_child : (spi : ℕ) → table.owns ipsec_spi no_ipsec (belongs o s.ike) spi s.ipsec ≡ true
      → own_in o (applied (closes_child spi) s) ≡ shown (closes_child spi) (own_in o s)
  unfolding applied shown own_in
  own_closes_child spi e =
      let h = owned ipsec_spi no_ipsec (belongs o s.ike) spi s.ipsec e in
      own_path refl
      (store_own ipsec_spi spi no_ipsec (inr refl) (owns_ipsec o s.ike) (own_free ipsec_spi (belongs o s.ike))
      s.ipsec w.ipsec_once h.named (table.at ipsec_spi no_ipsec spi s.ipsec) h.is h.in_use)
      refl

  own_sets : (policy : Policy) → is_operator o ≡ true
      → own_in o (applied (sets o policy) s) ≡ shown (sets o policy) (own_in o s)
  unfolding applied shown own_in
  own_sets policy e =
      let long = w.policy_places in
      own_path refl refl (get_or-set_same s.policies o policy no_policy (omega (arith, ltb-true o operators e)))

  pub own_change : (c : Change) → Allowed o c s → own_in o (applied c s) ≡ shown c (own_in o s)
  own_change stays p = unfold applied shown in refl
  own_change (opens r c) p = own_opens r c p.0 p.1 p.2
  own_change (adds c) p = unfold applied shown own_in in own_path refl (own_added s.ike c p.0 p.1) refl
  own_change (clones r) p = unfold applied shown own_in in own_path (own_opened r p) (own_cloned r p) refl
  own_change (becomes spi r) p = own_becomes spi r p
  own_change (moves spi r pair) p = own_moves spi r p pair
  own_change (closes spi) p = own_closes spi p
  own_change (closes_child spi) p = own_closes_child spi p
  own_change (sets q policy) p = rw p.0 (own_sets policy p.1)

  -- The other's.
  module _ (q : ℕ) (other : q ≡ o → ⊥) where
    not_mine : (r : IkeRecord) → is_of q r ≡ true → is_of o r ≡ false
    not_mine r e = ne_eqb r.agreed.operator o (λ f. other (sym (eqb-true r.agreed.operator q e) ∙ f))

    no_own : (b : Bool) {c : Bool} → c ≡ false → b && c ≡ false
    no_own true e = e
    no_own false e = refl

    not_owned : (k : ℕ) → owns q k s.ike ≡ true → owns o k s.ike ≡ false
    not_owned k e =
        let h = owned ike_spi no_ike (is_of q) k s.ike e in
        no_own (not (eqb k 0)) (no_own (has_ike k s.ike) (not_mine (meant s.ike k) h.mine))

    other_opened : (r : IkeRecord) → NewIke q r s → own_ikes o (table.put ike_spi r s.ike) ≡ own_ikes o s.ike
    other_opened r p =
        put_view ike_spi r (of_operator o) (own_free ike_spi (is_of o)) s.ike p.room p.named p.new
        ∙ rw (ne_eqb r.spi 0 p.named, not_mine r (eq-eqb r.agreed.operator q p.mine))

    other_added : (ike : List IkeRecord) (c : IpsecRecord) → NewIpsec q c s → owns o c.owner ike ≡ false
        → own_ipsecs o ike (table.put ipsec_spi c s.ipsec) ≡ own_ipsecs o ike s.ipsec
    other_added ike c p e =
        put_view ipsec_spi c (owns_ipsec o ike) (own_free ipsec_spi (belongs o ike)) s.ipsec p.room p.named
        p.new
        ∙ rw (ne_eqb c.spi 0 p.named, e)

    other_opens : (r : IkeRecord) (c : IpsecRecord) → NewIke q r s → NewIpsec q c s → c.owner ≡ r.spi
        → own_in o (applied (opens r c) s) ≡ own_in o s
    unfolding applied own_in
    other_opens r c p x e =
        own_path (other_opened r p)
        (other_added ike c x not_its
        ∙ same_ipsecs o s.ike ike s.ipsec (same_owners o s.ike ike (other_opened r p))) refl
      where
        ike : List IkeRecord
        ike = table.put ike_spi r s.ike

        not_its : owns o c.owner ike ≡ false
        not_its = rw e (owners o ike _ (other_opened r p) r.spi ∙ rw p.new)

    other_clones : (r : IkeRecord) → NewIke q r s → own_in o (applied (clones r) s) ≡ own_in o s
    unfolding applied own_in
    other_clones r p =
        let ike = table.put ike_spi r s.ike in
        own_path (other_opened r p)
        (same_ipsecs o s.ike ike s.ipsec (same_owners o s.ike ike (other_opened r p))) refl

    other_stored : (spi : ℕ) (r : IkeRecord) → (r.spi ≡ spi) ⊎ (r.spi ≡ 0) → owns q spi s.ike ≡ true
        → of_operator o r ≡ false → own_ikes o (set s.ike (place_of ike_spi spi s.ike) r) ≡ own_ikes o s.ike
    other_stored spi r keeps e z =
        let h = owned ike_spi no_ike (is_of q) spi s.ike e in
        store_other ike_spi spi r keeps (of_operator o) (own_free ike_spi (is_of o)) s.ike w.ike_once h.named
        (meant s.ike spi) h.is
        (no_own (table.used ike_spi (meant s.ike spi)) (not_mine (meant s.ike spi) h.mine)) z

    other_rewritten : (spi : ℕ) (r : IkeRecord) → Rewrites q spi r s
        → own_ikes o (set s.ike (place_of ike_spi spi s.ike) r) ≡ own_ikes o s.ike
    other_rewritten spi r p =
        other_stored spi r (inl p.same) p.owned
        (no_own (table.used ike_spi r) (not_mine r (eq-eqb r.agreed.operator q p.mine)))

    other_becomes : (spi : ℕ) (r : IkeRecord) → Rewrites q spi r s → own_in o (applied (becomes spi r) s) ≡ own_in o s
    unfolding applied own_in
    other_becomes spi r p =
        let ike = set s.ike (place_of ike_spi spi s.ike) r in
        own_path (other_rewritten spi r p)
        (same_ipsecs o s.ike ike s.ipsec (same_owners o s.ike ike (other_rewritten spi r p))) refl

    other_moves : (spi : ℕ) (r : IkeRecord) (pair : Pair) → Rewrites q spi r s
        → own_in o (applied (moves spi r pair) s) ≡ own_in o s
    unfolding applied own_in
    other_moves spi r pair p =
        let ike = set s.ike (place_of ike_spi spi s.ike) r in
        own_path (other_rewritten spi r p)
        (others_children ipsec_spi ipsec_owner (λ k. owns o k s.ike) (λ k. owns o k ike) spi s.ipsec
        (λ c. new_ipsec c.spi c.owner pair) (λ c. inr (refl, refl)) w.ipsec_once
        (same_owners o s.ike ike (other_rewritten spi r p)) (not_owned spi p.owned))
        refl

    other_closes : (spi : ℕ) → owns q spi s.ike ≡ true → own_in o (applied (closes spi) s) ≡ own_in o s
    unfolding applied own_in
    other_closes spi e =
        let ike = ike_closed s.ike spi in
        let ikes = other_stored spi no_ike (inr refl) e refl in
        own_path ikes
        (others_children ipsec_spi ipsec_owner (λ k. owns o k s.ike) (λ k. owns o k ike) spi s.ipsec
        (λ c. no_ipsec) (λ c. inl refl) w.ipsec_once (same_owners o s.ike ike ikes) (not_owned spi e))
        refl

    other_closes_child : (spi : ℕ) → table.owns ipsec_spi no_ipsec (belongs q s.ike) spi s.ipsec ≡ true
        → own_in o (applied (closes_child spi) s) ≡ own_in o s
    unfolding applied own_in
    other_closes_child spi e =
        let h = owned ipsec_spi no_ipsec (belongs q s.ike) spi s.ipsec e in
        let c = table.at ipsec_spi no_ipsec spi s.ipsec in
        own_path refl
        (store_other ipsec_spi spi no_ipsec (inr refl) (owns_ipsec o s.ike) (own_free ipsec_spi (belongs o s.ike))
        s.ipsec w.ipsec_once h.named c h.is
        (no_own (table.used ipsec_spi c) (not_owned c.owner h.mine)) refl)
        refl

    other_sets : (policy : Policy) → own_in o (applied (sets q policy) s) ≡ own_in o s
    unfolding applied own_in
    other_sets policy = own_path refl refl (get_or-set_other s.policies q o policy no_policy (λ e. other (sym e)))

    pub other_change : (c : Change) → Allowed q c s → own_in o (applied c s) ≡ own_in o s
    other_change stays p = unfold applied in refl
    other_change (opens r c) p = other_opens r c p.0 p.1 p.2
    other_change (adds c) p =
        unfold applied own_in in own_path refl (other_added s.ike c p.0 (not_owned c.owner p.1)) refl
    other_change (clones r) p = other_clones r p
    other_change (becomes spi r) p = other_becomes spi r p
    other_change (moves spi r pair) p = other_moves spi r pair p
    other_change (closes spi) p = other_closes spi p
    other_change (closes_child spi) p = other_closes_child spi p
    other_change (sets q' policy) p = rw p.0 (other_sets policy)
