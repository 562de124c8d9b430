-- The shares hold, whatever change a call does; the counts of both operators add up; so one for whom a table is full
-- has what the other's share leaves.
use Prim.Native.Nat.{ℕ, zero, suc, ◌+◌, ◌≤◌}
use mathlib.Core.Path.{◌≡◌, refl, sym, ap, subst, ◌∙◌}
use mathlib.Core.List.{List, [], ◌∷◌}
use mathlib.Core.Bool.{Bool, true, false, cond, ◌&&◌, not}
use mathlib.Core.Option.{none, some}
use native.Mathlib.Nat.{le_trans}
use native.Mathlib.Omega.{arith}
use native.Mathlib.Decide.{ℕ_discrete}
use borrow.Author.Tests.{ne_eqb, eqb-false, ltb-true}
use lib.Dec.{eqb}
use lib.ListN.{length, set, length-set, length-replicate}
use Rattle.octets.specs.Limits.{ike_places, ipsec_places, operators, ike_share, ipsec_share}
use Rattle.octets.specs.Lists.{how_many}
use Rattle.octets.specs.Operators.{is_operator}
use Rattle.order.specs.Order.{All}
use Rattle.records.specs.Records.{ike_spi, ipsec_spi, no_ike, no_ipsec, of_operator}
use Rattle.records.specs.declared.ike.IkeRecord.{IkeRecord}
use Rattle.records.specs.declared.ipsec.IpsecRecord.{IpsecRecord}
use Rattle.tables.specs.Calls.{has_ike, has_ipsec, owns_ipsec, ikes_of, ipsecs_of}
use Rattle.sharing.specs.Table as table
use Rattle.sharing.specs.Table.{count}
use Rattle.sharing.proofs.Views.{found_is, found_key}
use Rattle.sharing.proofs.Lookups.{many_any}
use Rattle.sharing.proofs.Shares.{view_fewer, count_two, full_share_lem}
use Rattle.sharing.proofs.Stays.{all_set, all_replicate, count_free, all_give}
use Rattle.isolating.specs.State.{State, empty, Own, own_in}
use Rattle.isolating.specs.Reached.{HasOwner, NamesOperator, WellFormed, WithinShares}
use Rattle.isolating.specs.Changes.{Change, stays, opens, adds, clones, becomes, moves, closes, closes_child, sets}
use Rattle.isolating.specs.Changes.{applied, shown, is_of, belongs, Rewrites, NewIke, Allowed}
use Rattle.isolating.proofs.Seen.{own_change, other_change}

pub many_are : {A : Type 0} (P : A → Bool) (xs : List A) → how_many P xs ≡ count P xs
many_are P [] = refl
many_are P (x ∷ xs) = ap (λ (n : ℕ). cond (P x) 1 0 + n) (many_are P xs)

-- The counts, by the view.
module _ (o : ℕ) (s : State) where
  pub ikes_seen : (own_in o s).ike.many table.any ≡ ikes_of o s.ike
  unfolding own_in
  ikes_seen = many_any ike_spi (of_operator o) s.ike ∙ sym (many_are (of_operator o) s.ike)

  pub ipsecs_seen : (own_in o s).ipsec.many table.any ≡ ipsecs_of o s.ike s.ipsec
  unfolding own_in
  ipsecs_seen = many_any ipsec_spi (owns_ipsec o s.ike) s.ipsec ∙ sym (many_are (owns_ipsec o s.ike) s.ipsec)

  ikes_fewer : (P : IkeRecord → Bool) → (own_in o s).ike.many P ≤ ikes_of o s.ike
  unfolding own_in
  ikes_fewer P = rw (many_are (of_operator o) s.ike) (view_fewer ike_spi (of_operator o) P s.ike)

  ipsecs_fewer : (P : IpsecRecord → Bool) → (own_in o s).ipsec.many P ≤ ipsecs_of o s.ike s.ipsec
  unfolding own_in
  ipsecs_fewer P =
      rw (many_are (owns_ipsec o s.ike) s.ipsec) (view_fewer ipsec_spi (owns_ipsec o s.ike) P s.ipsec)

  abbrev Within : Own → Type 0
  Within v = (v.ike.many table.any ≤ ike_share) × (v.ipsec.many table.any ≤ ipsec_share)

  -- an own change stays within the shares
  own_within : ikes_of o s.ike ≤ ike_share → ipsecs_of o s.ike s.ipsec ≤ ipsec_share → (c : Change) → Allowed o c s
      → Within (shown c (own_in o s))
  unfolding shown
  own_within f g stays p = (omega (arith, ikes_seen), omega (arith, ipsecs_seen))
  own_within f g (opens r c) p =
      let x = p.0.share in
      let y = p.1.share in
      (omega (arith, ikes_seen), omega (arith, ipsecs_seen))
  own_within f g (adds c) p =
      let y = p.0.share in
      (omega (arith, ikes_seen), omega (arith, ipsecs_seen))
  own_within f g (clones r) p =
      let x = p.share in
      (omega (arith, ikes_seen), omega (arith, ipsecs_seen))
  own_within f g (becomes spi r) p = (le_trans (ikes_fewer _) f, omega (arith, ipsecs_seen))
  own_within f g (moves spi r pair) p = (le_trans (ikes_fewer _) f, le_trans (ipsecs_fewer _) g)
  own_within f g (closes spi) p = (le_trans (ikes_fewer _) f, le_trans (ipsecs_fewer _) g)
  own_within f g (closes_child spi) p = (omega (arith, ikes_seen), le_trans (ipsecs_fewer _) g)
  own_within f g (sets q policy) p = (omega (arith, ikes_seen), omega (arith, ipsecs_seen))

  by_view : (v : Own) → own_in o s ≡ v → Within v
      → (ikes_of o s.ike ≤ ike_share) × (ipsecs_of o s.ike s.ipsec ≤ ipsec_share)
  by_view v e b =
      let x = sym ikes_seen ∙ ap (λ (u : Own). u.ike.many table.any) e in
      let y = sym ipsecs_seen ∙ ap (λ (u : Own). u.ipsec.many table.any) e in
      (rw x b.0, rw y b.1)

module _ (s : State) (w : WellFormed s) (h : WithinShares s) (o : ℕ) where
  -- either operator, whoever calls
  both_within : (c : Change) → Allowed o c s → (q : ℕ)
      → (ikes_of q (applied c s).ike ≤ ike_share) × (ipsecs_of q (applied c s).ike (applied c s).ipsec ≤ ipsec_share)
  both_within c p q = go (ℕ_discrete o q)
    where
      go : Dec (o ≡ q)
          → (ikes_of q (applied c s).ike ≤ ike_share) × (ipsecs_of q (applied c s).ike (applied c s).ipsec ≤ ipsec_share)
      go (yes e) =
          let p' : Allowed q c s = rw e at p in
          by_view q (applied c s) _ (own_change s w q c p') (own_within q s (h.ike_share_lem q) (h.ipsec_share_lem q) c p')
      go (no n) =
          by_view q (applied c s) _ (other_change s w q o n c p)
          (rw (ikes_seen q s) (h.ike_share_lem q), rw (ipsecs_seen q s) (h.ipsec_share_lem q))

  places : (c : Change) → length (applied c s).ike ≡ length s.ike
  unfolding applied
  places stays = refl
  places (opens r c) = simp length-set
  places (adds c) = refl
  places (clones r) = simp length-set
  places (becomes spi r) = simp length-set
  places (moves spi r pair) = simp length-set
  places (closes spi) = simp length-set
  places (closes_child spi) = refl
  places (sets q policy) = refl

  stored_named : (i : ℕ) (r : IkeRecord) → NamesOperator r → All NamesOperator (set s.ike i r)
  stored_named i r n = all_set NamesOperator s.ike i r h.operators_named n

  new_named : (r : IkeRecord) → NewIke o r s → NamesOperator r
  new_named r p n = rw p.mine p.known

  -- a record that becomes another keeps its operator
  same_named : (spi : ℕ) (r : IkeRecord) → Rewrites o spi r s → NamesOperator r
  same_named spi r p n = rw p.mine p.known

  named : (c : Change) → Allowed o c s → All NamesOperator (applied c s).ike
  unfolding applied
  named stays p = h.operators_named
  named (opens r c) p = stored_named _ r (new_named r p.0)
  named (adds c) p = h.operators_named
  named (clones r) p = stored_named _ r (new_named r p)
  named (becomes spi r) p = stored_named _ r (same_named spi r p)
  named (moves spi r pair) p = stored_named _ r (same_named spi r p)
  named (closes spi) p = stored_named _ no_ike (λ n. absurd (n refl))
  named (closes_child spi) p = h.operators_named
  named (sets q policy) p = h.operators_named

  pub stays_within : (c : Change) → Allowed o c s → WithinShares (applied c s)
  stays_within c p =
      record {
        ike_places_lem = places c ∙ h.ike_places_lem;
        operators_named = named c p;
        ike_share_lem = λ q. (both_within c p q).0;
        ipsec_share_lem = λ q. (both_within c p q).1;
      }

pub empty_within : WithinShares empty
empty_within =
    record {
      ike_places_lem = length-replicate ike_places no_ike;
      operators_named = all_replicate NamesOperator ike_places no_ike (λ n. absurd (n refl));
      ike_share_lem =
          λ o. rw (many_are (of_operator o) empty.ike, count_free (of_operator o) ike_places no_ike refl) (omega arith);
      ipsec_share_lem =
          λ o.
          rw (
            many_are (owns_ipsec o empty.ike) empty.ipsec,
            count_free (owns_ipsec o empty.ike) ipsec_places no_ipsec refl,
          )
          (omega arith);
    }

swapped : (a b : ℕ) → a + b ≡ b + a
swapped a b = omega arith

-- The counts add up: a record in use is of one of the two.
one_of : (n : ℕ) → is_operator n ≡ true → 1 ≡ cond (eqb n 0) 1 0 + cond (eqb n 1) 1 0
one_of zero e = refl
one_of (suc zero) e = refl
one_of (suc (suc n)) e = absurd (omega (arith, ltb-true (suc (suc n)) operators e))

ike_adds : (r : IkeRecord) → NamesOperator r
    → cond (table.used ike_spi r) 1 0 ≡ cond (of_operator 0 r) 1 0 + cond (of_operator 1 r) 1 0
ike_adds r h = go (eqb r.spi 0) refl
  where
    go : (b : Bool) → eqb r.spi 0 ≡ b
        → cond (not b) 1 0 ≡ cond (not b && is_of 0 r) 1 0 + cond (not b && is_of 1 r) 1 0
    go true e = refl
    go false e = one_of r.agreed.operator (h (eqb-false r.spi 0 e))

-- what is found is as every place is
found_all : {A : Type 0} (key : A → ℕ) (P : A → Type 0) (k : ℕ) (r : A) (xs : List A) → table.found key k xs ≡ some r
    → All P xs → P r
found_all key P k r [] e a = absurd (let z : ◌≡◌ {A = ℕ} 0 1 = cc in omega arith)
found_all key P k r (x ∷ xs) e a = go (eqb (key x) k) e (λ f. found_all key P k r xs f a.1)
  where
    go : (b : Bool) → cond b (some x) (table.found key k xs) ≡ some r → (table.found key k xs ≡ some r → P r) → P r
    go true f on = let p : x ≡ r = cc in subst P p a.0
    go false f on = on f

ipsec_adds : (ike : List IkeRecord) → All NamesOperator ike → (c : IpsecRecord) → HasOwner ike c
    → cond (table.used ipsec_spi c) 1 0 ≡ cond (owns_ipsec 0 ike c) 1 0 + cond (owns_ipsec 1 ike c) 1 0
ipsec_adds ike known c a = go (eqb c.spi 0) refl
  where
    k : ℕ
    k = c.owner

    r : IkeRecord
    r = table.at ike_spi no_ike k ike

    is_there_lem : (b : Bool) → table.found ike_spi k ike ≡ cond b (some r) none → (table.found ike_spi k ike ≡ none → ⊥)
        → (b ≡ true) × (table.found ike_spi k ike ≡ some r)
    is_there_lem true e n = (refl, e)
    is_there_lem false e n = absurd (n e)

    go : (b : Bool) → eqb c.spi 0 ≡ b
        → cond (not b) 1 0 ≡ cond (not b && belongs 0 ike c) 1 0 + cond (not b && belongs 1 ike c) 1 0
    go true e = refl
    go false e =
        let h = a (eqb-false c.spi 0 e) in
        let f = is_there_lem (has_ike k ike) (found_is ike_spi k no_ike ike) h.1 in
        let used : r.spi ≡ k = found_key ike_spi k r ike f.1 in
        rw (ne_eqb k 0 h.0, f.0)
        (one_of r.agreed.operator (found_all ike_spi NamesOperator k r ike f.1 known (λ z. h.0 (sym used ∙ z))))

module _ (s : State) (w : WellFormed s) (h : WithinShares s) where
  ikes_two : count (table.used ike_spi) s.ike ≡ count (of_operator 0) s.ike + count (of_operator 1) s.ike
  ikes_two =
      count_two (table.used ike_spi) (of_operator 0) (of_operator 1) s.ike
      (all_give NamesOperator _ ike_adds s.ike h.operators_named)

  ipsecs_two : count (table.used ipsec_spi) s.ipsec
      ≡ count (owns_ipsec 0 s.ike) s.ipsec + count (owns_ipsec 1 s.ike) s.ipsec
  ipsecs_two =
      count_two (table.used ipsec_spi) (owns_ipsec 0 s.ike) (owns_ipsec 1 s.ike) s.ipsec
      (all_give (HasOwner s.ike) _ (ipsec_adds s.ike h.operators_named) s.ipsec w.owned)

  pub ikes_add_up : how_many (table.used ike_spi) s.ike ≡ ikes_of 0 s.ike + ikes_of 1 s.ike
  ikes_add_up =
      rw (many_are (table.used ike_spi) s.ike, many_are (of_operator 0) s.ike, many_are (of_operator 1) s.ike)
      ikes_two

  pub ipsecs_add_up : how_many (table.used ipsec_spi) s.ipsec
      ≡ ipsecs_of 0 s.ike s.ipsec + ipsecs_of 1 s.ike s.ipsec
  ipsecs_add_up =
      rw (
        many_are (table.used ipsec_spi) s.ipsec,
        many_are (owns_ipsec 0 s.ike) s.ipsec,
        many_are (owns_ipsec 1 s.ike) s.ipsec,
      )
      ipsecs_two

  -- in a full table an operator has at least what the other's share leaves
  full_ikes : (m m' : IkeRecord → Bool) → count (table.used ike_spi) s.ike ≡ count m s.ike + count m' s.ike
      → how_many m' s.ike ≤ ike_share → has_ike 0 s.ike ≡ false → 12 ≤ how_many m s.ike
  full_ikes m m' sum within e =
      let x =
      full_share_lem ike_spi m m' s.ike ike_places ike_share h.ike_places_lem sum (rw (many_are m' s.ike) at within) e
      in
      rw (many_are m s.ike) (omega arith)

  full_ipsecs : (m m' : IpsecRecord → Bool)
      → count (table.used ipsec_spi) s.ipsec ≡ count m s.ipsec + count m' s.ipsec
      → how_many m' s.ipsec ≤ ipsec_share → has_ipsec 0 s.ipsec ≡ false → 48 ≤ how_many m s.ipsec
  full_ipsecs m m' sum within e =
      let x =
      full_share_lem ipsec_spi m m' s.ipsec ipsec_places ipsec_share w.ipsec_places_lem sum
      (rw (many_are m' s.ipsec) at within) e
      in
      rw (many_are m s.ipsec) (omega arith)

  pub ike_full : (o : ℕ) → is_operator o ≡ true → has_ike 0 s.ike ≡ false → 12 ≤ ikes_of o s.ike
  ike_full zero k = full_ikes (of_operator 0) (of_operator 1) ikes_two (h.ike_share_lem 1)
  ike_full (suc zero) k =
      full_ikes (of_operator 1) (of_operator 0)
      (ikes_two ∙ swapped (count (of_operator 0) s.ike) (count (of_operator 1) s.ike))
      (h.ike_share_lem 0)
  ike_full (suc (suc n)) k = absurd (omega (arith, ltb-true (suc (suc n)) operators k))

  pub ipsec_full : (o : ℕ) → is_operator o ≡ true → has_ipsec 0 s.ipsec ≡ false → 48 ≤ ipsecs_of o s.ike s.ipsec
  ipsec_full zero k = full_ipsecs (owns_ipsec 0 s.ike) (owns_ipsec 1 s.ike) ipsecs_two (h.ipsec_share_lem 1)
  ipsec_full (suc zero) k =
      full_ipsecs (owns_ipsec 1 s.ike) (owns_ipsec 0 s.ike)
      (ipsecs_two ∙ swapped (count (owns_ipsec 0 s.ike) s.ipsec) (count (owns_ipsec 1 s.ike) s.ipsec))
      (h.ipsec_share_lem 0)
  ipsec_full (suc (suc n)) k = absurd (omega (arith, ltb-true (suc (suc n)) operators k))
