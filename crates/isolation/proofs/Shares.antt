-- The shares hold in all states that calls reach from empty tables, and so does what an operator has that is refused
-- for want of room.
use Prim.Native.Nat.{ℕ, ◌≤◌, ◌<◌}
use mathlib.Core.Path.{◌≡◌, refl, sym, ◌∙◌}
use mathlib.Core.Logic.{◌⊎◌, inl, inr, ⊎_elim}
use mathlib.Core.List.{List, [], ◌∷◌}
use mathlib.Core.Bool.{Bool, true, false, cond, not}
use native.Mathlib.Omega.{arith}
use borrow.Author.Tests.{eqb-false, leb-true, not-true}
use lib.Dec.{eqb, leb}
use Rattle.octets.specs.Checks.{first_failed}
use Rattle.octets.specs.Flags.{is_yes}
use Rattle.octets.specs.Limits.{ipsec_places, ike_share, ipsec_share, peer_records_most}
use Rattle.octets.specs.Operators.{is_operator}
use Rattle.octets.proofs.Checks.{numbers_pass}
use Rattle.order.specs.Order.{after}
use Rattle.policy.specs.declared.rules.Rule.{Rule}
use Rattle.tables.specs.Calls.{has_ike, has_ipsec, opening_fits}
use Rattle.tables.specs.Changes.{both_number, adding_number, bad_adding, bad_closing, bad_marking}
use Rattle.tables.specs.Tables.{meant}
use Rattle.tables.specs.declared.calls.Opening.{Opening}
use Rattle.checking.specs.Checks.{Request}
use Rattle.routability.specs.Routability.{CheckResponse}
use Rattle.cloning.specs.Clone.{CloneRequest, late_clone}
use Rattle.sharing.specs.Table as table
use Rattle.isolating.specs.State.{State, empty, Own, own_in}
use Rattle.isolating.specs.Reached.{WellFormed, WithinShares}
use Rattle.isolating.proofs.Kept.{empty_well}
use Rattle.isolating.proofs.Shares.{ikes_seen, ipsecs_seen, empty_within, ikes_add_up, ipsecs_add_up, ike_full}
use Rattle.isolating.proofs.Shares.{ipsec_full}
use Rattle.isolation.specs.Calls.{Call, opens_both, opens_ipsec, closes_ike, closes_ipsec, marks_deletion}
use Rattle.isolation.specs.Calls.{sets_policy, requests, checks, clones}
use Rattle.isolation.specs.Calls.{operator_of, step}
use Rattle.isolation.specs.Isolation.{number}
use Rattle.isolation.specs.Shares.{ikes, ipsecs, IkeFull, IpsecFull, AtLeast, AllReached}
use Rattle.isolation.proofs.Lookup.{own_record, own_has, finds}
use Rattle.isolation.proofs.Clones as clone
use Rattle.isolation.proofs.Decides.{beside, judged, whole_number, numbers, stays_well, stays_within}
use Rattle.isolation.proofs.Elsewhere.{elsewhere, Elsewhere, is_elsewhere, clone_read_lem, clone_early}
use Rattle.isolation.proofs.Elsewhere.{closing_number_lem, setting_number_lem}
use Rattle.isolation.proofs.Elsewhere.{request_number, response_number}
use Rattle.isolation.proofs.Theorem.{well_after}

both_43 : (f t u l m r q : Bool) → both_number f t u l m r q ≡ 43 → (l ≡ true) ⊎ (m ≡ true)
both_43 false t u l m r q h = absurd (omega arith)
both_43 true true u l m r q h = absurd (omega arith)
both_43 true false true l m r q h = absurd (omega arith)
both_43 true false false true m r q h = inl refl
both_43 true false false false true r q h = inr refl
both_43 true false false false false false q h = absurd (omega arith)
both_43 true false false false false true false h = absurd (omega arith)
both_43 true false false false false true true h = absurd (omega arith)

both_10 : (f t u l m r q : Bool) → both_number f t u l m r q ≡ 10 → (r ≡ false) ⊎ (q ≡ false)
both_10 false t u l m r q h = absurd (omega arith)
both_10 true true u l m r q h = absurd (omega arith)
both_10 true false true l m r q h = absurd (omega arith)
both_10 true false false true m r q h = absurd (omega arith)
both_10 true false false false true r q h = absurd (omega arith)
both_10 true false false false false false q h = inl refl
both_10 true false false false false true false h = inr refl
both_10 true false false false false true true h = absurd (omega arith)

adding_43 : (b o t l r : Bool) → adding_number b o t l r ≡ 43 → l ≡ true
adding_43 true o t l r h = absurd (omega arith)
adding_43 false false t l r h = absurd (omega arith)
adding_43 false true true l r h = absurd (omega arith)
adding_43 false true false true r h = refl
adding_43 false true false false true h = absurd (omega arith)
adding_43 false true false false false h = absurd (omega arith)

adding_10 : (b o t l r : Bool) → adding_number b o t l r ≡ 10 → r ≡ false
adding_10 true o t l r h = absurd (omega arith)
adding_10 false false t l r h = absurd (omega arith)
adding_10 false true true l r h = absurd (omega arith)
adding_10 false true false true r h = absurd (omega arith)
adding_10 false true false false true h = absurd (omega arith)
adding_10 false true false false false h = refl

whole_43 : (a z f l t s : Bool) → whole_number a z f l t s ≡ 43 → s ≡ true
whole_43 false z f l t s h = absurd (omega arith)
whole_43 true true f l t s h = absurd (omega arith)
whole_43 true false false l t s h = absurd (omega arith)
whole_43 true false true true t s h = absurd (omega arith)
whole_43 true false true false true s h = absurd (omega arith)
whole_43 true false true false false true h = refl
whole_43 true false true false false false h = absurd (omega arith)

whole_41 : (a z f l t s : Bool) → whole_number a z f l t s ≡ 41 → (z ≡ true) ⊎ (f ≡ false)
whole_41 false z f l t s h = absurd (omega arith)
whole_41 true true f l t s h = inl refl
whole_41 true false false l t s h = inr refl
whole_41 true false true true t s h = absurd (omega arith)
whole_41 true false true false true s h = absurd (omega arith)
whole_41 true false true false false true h = absurd (omega arith)
whole_41 true false true false false false h = absurd (omega arith)

late_only : (b c : Bool) (early fault n m : ℕ) → (early ≡ m → ⊥) → (fault ≡ m → ⊥)
    → cond b (cond (not c) fault n) early ≡ m → (b ≡ true) × (n ≡ m)
late_only false c early fault n m x y e = absurd (x e)
late_only true false early fault n m x y e = absurd (y e)
late_only true true early fault n m x y e = (refl, e)

module _ (s : State) (w : WellFormed s) (h : WithinShares s) (o : ℕ) (known : is_operator o ≡ true) where
  -- at the share, by what is seen
  at_ike_share : leb ike_share ((own_in o s).ike.many table.any) ≡ true → 20 ≤ ikes o s
  at_ike_share e = leb-true ike_share (ikes o s) (rw (ikes_seen o s) at e)

  at_ipsec_share : leb ipsec_share ((own_in o s).ipsec.many table.any) ≡ true → 80 ≤ ipsecs o s
  at_ipsec_share e = leb-true ipsec_share (ipsecs o s) (rw (ipsecs_seen o s) at e)

  judged_as : (c : Call) (n : ℕ) → number c s ≡ n → judged c (own_in (operator_of c) s) (beside c s) ≡ n
  judged_as c n e = sym (numbers s w c) ∙ e

  open_43 : (x : Opening) → x.agreed.operator ≡ o → number (opens_both x) s ≡ 43 → (20 ≤ ikes o s) ⊎ (80 ≤ ipsecs o s)
  unfolding judged beside
  open_43 x e n =
      ⊎_elim (λ l. inl (at_ike_share l)) (λ m. inr (at_ipsec_share m))
      (rw e at
      (both_43 (opening_fits ipsec_places x) (has_ike x.spi s.ike) (has_ipsec x.child s.ipsec)
      (leb ike_share ((own_in x.agreed.operator s).ike.many table.any))
      (leb ipsec_share ((own_in x.agreed.operator s).ipsec.many table.any)) (has_ike 0 s.ike)
      (has_ipsec 0 s.ipsec)
      (judged_as (opens_both x) 43 n)))

  open_10 : (x : Opening) → number (opens_both x) s ≡ 10 → IkeFull o s ⊎ IpsecFull o s
  unfolding judged beside
  open_10 x n =
      ⊎_elim (λ f. inl (f, ike_full s w h o known f)) (λ f. inr (f, ipsec_full s w h o known f))
      (both_10 (opening_fits ipsec_places x) (has_ike x.spi s.ike) (has_ipsec x.child s.ipsec)
      (leb ike_share ((own_in x.agreed.operator s).ike.many table.any))
      (leb ipsec_share ((own_in x.agreed.operator s).ipsec.many table.any)) (has_ike 0 s.ike)
      (has_ipsec 0 s.ipsec)
      (judged_as (opens_both x) 10 n))

  add-43 : (spi owner : ℕ) → number (opens_ipsec spi owner o) s ≡ 43 → 80 ≤ ipsecs o s
  unfolding judged beside
  add-43 spi owner n =
      at_ipsec_share
      (adding_43 (bad_adding ipsec_places spi owner o) (own_has (own_in o s) owner) (has_ipsec spi s.ipsec)
      (leb ipsec_share ((own_in o s).ipsec.many table.any)) (has_ipsec 0 s.ipsec)
      (judged_as (opens_ipsec spi owner o) 43 n))

  add-10 : (spi owner : ℕ) → number (opens_ipsec spi owner o) s ≡ 10 → IpsecFull o s
  unfolding judged beside
  add-10 spi owner n =
      let full =
      adding_10 (bad_adding ipsec_places spi owner o) (own_has (own_in o s) owner) (has_ipsec spi s.ipsec)
      (leb ipsec_share ((own_in o s).ipsec.many table.any)) (has_ipsec 0 s.ipsec)
      (judged_as (opens_ipsec spi owner o) 10 n)
      in
      (full, ipsec_full s w h o known full)

  -- a clone request, behind a chain that was read whole
  module _ (q : CloneRequest) where
    abbrev mine : Own
    mine = own_in q.operator s

    abbrev whole : ℕ
    whole = first_failed (clone.whole_by q mine (has_ike 0 s.ike) (has_ike q.new_spi s.ike))

    behind_chain : (m : ℕ) → (clone.early_by q mine ≡ m → ⊥) → ((clone.read q).reading.number ≡ m → ⊥)
        → number (clones q) s ≡ m → (eqb (clone.early_by q mine) 0 ≡ true) × (whole ≡ m)
    unfolding judged beside late_clone
    behind_chain m x y n =
        late_only (eqb (clone.early_by q mine) 0) (eqb (clone.read q).reading.number 0) (clone.early_by q mine)
        (clone.read q).reading.number whole m x y (judged_as (clones q) m n)

    early_not : Elsewhere (clone.early_by q mine)
    early_not = is_elsewhere _ (clone_early (own_has mine q.spi) (own_record mine q.spi) q)

    read_not : Elsewhere (clone.read q).reading.number
    read_not = is_elsewhere _ (clone_read_lem q.first q.body)

    clone_10 : number (clones q) s ≡ 10 → ⊥
    clone_10 n =
        eqb-false whole 10
        (not-true _
        (numbers_pass (λ (n : ℕ). not (eqb n 10))
        (clone.whole_by q mine (has_ike 0 s.ike) (has_ike q.new_spi s.ike))
        refl refl))
        (behind_chain 10 early_not.not_10 read_not.not_10 n).1

    clone_43 : q.operator ≡ o → number (clones q) s ≡ 43 → 20 ≤ ikes o s
    clone_43 e n =
        at_ike_share
        (rw e at
        (whole_43 (clone.read q).clone (is_yes (own_record mine q.spi).deleting) (has_ike 0 s.ike)
        (leb peer_records_most (clone.peers_by q mine)) (has_ike q.new_spi s.ike)
        (leb ike_share ((own_in q.operator s).ike.many table.any))
        (behind_chain 43 early_not.not_43 read_not.not_43 n).1))

    clone_41 : number (clones q) s ≡ 41 → (is_yes (meant s.ike q.spi).deleting ≡ true) ⊎ IkeFull o s
    clone_41 n =
        let p = behind_chain 41 early_not.not_41 read_not.not_41 n in
        let own = finds q.operator s q.spi (clone.early_owned q s p.0) in
        ⊎_elim (λ z. inl (rw own at z)) (λ f. inr (f, ike_full s w h o known f))
        (whole_41 (clone.read q).clone (is_yes (own_record mine q.spi).deleting) (has_ike 0 s.ike)
        (leb peer_records_most (clone.peers_by q mine)) (has_ike q.new_spi s.ike)
        (leb ike_share ((own_in q.operator s).ike.many table.any)) p.1)

  -- a call that opens nothing
  not_judged : (c : Call) → elsewhere (judged c (own_in (operator_of c) s) (beside c s)) ≡ true → Elsewhere (number c s)
  not_judged c e = is_elsewhere (number c s) (rw (numbers s w c) e)

  closing_not : (spi p : ℕ) → Elsewhere (number (closes_ike spi p) s)
  closing_not spi p =
      not_judged (closes_ike spi p)
      (unfold judged in (closing_number_lem (bad_closing ipsec_places spi p) (own_has (own_in p s) spi)))

  child_closing_not : (spi p : ℕ) → Elsewhere (number (closes_ipsec spi p) s)
  child_closing_not spi p =
      not_judged (closes_ipsec spi p)
      (unfold judged in
      (closing_number_lem (bad_closing ipsec_places spi p) (table.has table.any ((own_in p s).ipsec.find spi))))

  marking_not : (spi p : ℕ) → Elsewhere (number (marks_deletion spi p) s)
  marking_not spi p =
      not_judged (marks_deletion spi p) (unfold judged in (closing_number_lem (bad_marking spi p) (own_has (own_in p s) spi)))

  setting_not : (n : ℕ) (rules : List Rule) (p : ℕ) → Elsewhere (number (sets_policy n rules p) s)
  setting_not n rules p = not_judged (sets_policy n rules p) (unfold judged in (setting_number_lem n rules p))

  request_not : (q : Request) → Elsewhere (number (requests q) s)
  request_not q = not_judged (requests q) (unfold judged in (request_number q (own_in q.operator s)))

  response_not : (q : CheckResponse) → Elsewhere (number (checks q) s)
  response_not q = not_judged (checks q) (unfold judged in (response_number q (own_in q.operator s)))

  ever_10 : (c : Call) → operator_of c ≡ o → number c s ≡ 10 → IkeFull o s ⊎ IpsecFull o s
  ever_10 (opens_both x) e n = open_10 x n
  ever_10 (opens_ipsec spi owner p) e n = inr (add-10 spi owner (rw e at n))
  ever_10 (closes_ike spi p) e n = absurd ((closing_not spi p).not_10 n)
  ever_10 (closes_ipsec spi p) e n = absurd ((child_closing_not spi p).not_10 n)
  ever_10 (marks_deletion spi p) e n = absurd ((marking_not spi p).not_10 n)
  ever_10 (sets_policy k rules p) e n = absurd ((setting_not k rules p).not_10 n)
  ever_10 (requests q) e n = absurd ((request_not q).not_10 n)
  ever_10 (checks q) e n = absurd ((response_not q).not_10 n)
  ever_10 (clones q) e n = absurd (clone_10 q n)

  ever_43 : (c : Call) → operator_of c ≡ o → number c s ≡ 43 → (20 ≤ ikes o s) ⊎ (80 ≤ ipsecs o s)
  ever_43 (opens_both x) e n = open_43 x e n
  ever_43 (opens_ipsec spi owner p) e n = inr (add-43 spi owner (rw e at n))
  ever_43 (closes_ike spi p) e n = absurd ((closing_not spi p).not_43 n)
  ever_43 (closes_ipsec spi p) e n = absurd ((child_closing_not spi p).not_43 n)
  ever_43 (marks_deletion spi p) e n = absurd ((marking_not spi p).not_43 n)
  ever_43 (sets_policy k rules p) e n = absurd ((setting_not k rules p).not_43 n)
  ever_43 (requests q) e n = absurd ((request_not q).not_43 n)
  ever_43 (checks q) e n = absurd ((response_not q).not_43 n)
  ever_43 (clones q) e n = inl (clone_43 q e n)

  spared : ikes o s < 12 → ipsecs o s < 48 → (c : Call) → operator_of c ≡ o
      → (number c s ≡ 10 → ⊥) × (number c s ≡ 43 → ⊥) × (number c s ≡ 41 → has_ike 0 s.ike ≡ true)
  spared a b c e = (
    λ n. ⊎_elim (λ f. omega (arith, f.1)) (λ f. omega (arith, f.1)) (ever_10 c e n),
    λ n. ⊎_elim (λ f. omega arith) (λ f. omega arith) (ever_43 c e n),
    λ n. has_room (has_ike 0 s.ike) refl,
  )
    where
      has_room : (r : Bool) → has_ike 0 s.ike ≡ r → r ≡ true
      has_room true f = refl
      has_room false f = absurd (omega (arith, ike_full s w h o known f))

  at_least : AtLeast o s
  at_least =
      record {
        ike_full = ike_full s w h o known;
        ipsec_full = ipsec_full s w h o known;
        ever_10 = ever_10;
        ever_43 = ever_43;
        ever_41 = λ c e n f. ike_full s w h o known f;
        add-10 = add-10;
        add-43 = add-43;
        clone_43 = clone_43;
        clone_41 = λ q e n. clone_41 q n;
        spared = spared;
      }

within_after : (s : State) → WellFormed s → WithinShares s → (cs : List Call) → WithinShares (after step s cs)
within_after s w h [] = h
within_after s w h (c ∷ cs) = within_after (step c s) (stays_well s w c) (stays_within s w h c) cs

pub all_reached : AllReached
all_reached cs =
    let s = after step empty cs in
    let w = well_after empty empty_well cs in
    let h = within_after empty empty_well empty_within cs in
    record {
      well_formed = w;
      within_shares = h;
      add-up = record { ike = ikes_add_up s w h; ipsec = ipsecs_add_up s w h };
      at_least = at_least s w h;
    }
