-- The notifications of a request, segment after segment: they fit, and give back what was asked for.
use Prim.Native.Nat.{ℕ, zero, suc, ◌+◌, ◌≤◌, ◌<◌}
use mathlib.Core.Path.{◌≡◌, refl, ap}
use mathlib.Core.List.{List, [], ◌∷◌, ◌++◌, zip_with}
use mathlib.Core.Bool.{Bool, true, false, cond, ◌&&◌, ◌||◌, not, false≢true}
use native.Mathlib.Numerals.{add-one}
use native.Mathlib.Omega.{arith}
use borrow.Author.Tests.{eqb-true, le-leb, leb-true, ltb-false, not-true}
use lib.Dec.{eqb, leb, ltb}
use lib.ListN.{length, take, get_or, set, replicate}
use lib.Seq.{length-take-le}
use Rattle.octets.specs.Limits.{addresses_most, address_octets, ip4_octets, ip6_octets, nat_octets, no_nats_size}
use Rattle.octets.specs.Limits.{cookie_least, cookie_most}
use Rattle.octets.specs.Wire.{update_sa_addresses, no_nats_allowed, no_additional_addresses, cookie2}
use Rattle.octets.specs.Lists.{all_below}
use Rattle.octets.specs.Octets.{padded}
use Rattle.octets.proofs.Pad.{copied, stored}
use Rattle.octets.proofs.Small.{both, empty}
use Rattle.address.specs.Address.{width_of, address_fits, pair_fits}
use Rattle.notify.specs.Notify.{kind_of, data_fits}
use Rattle.notify.specs.declared.notify.NotifyKind.TheVariants.{NoNatsAllowed}
use Rattle.writing.specs.Notify.{Notification, notification}
use Rattle.writing.specs.Parts.{nat_notifies, cookie_notifies}
use Rattle.asking.specs.Draft.{Draft, draft, if_asked, address_notify, address_notifies, pair_octets, requested}
use Rattle.asking.specs.Fits.{cookie_fits, unless_asked, count_fits, nats_fit, listed_fits, request_fits}
use Rattle.exchange.specs.RoundTrips.{Sized, asked_for}
use Rattle.exchange.proofs.Notifies.{AllFit}
use Rattle.exchange.proofs.Gathered.{Leads, none, one, in_turn}
use Rattle.exchange.proofs.Pairs.{Family, four, six, family_of_lem, padded_back, pair_size, pair_back}

-- one element more of two lists joined
zip_suc : {A B C : Type 0} (f : A → B → C) (xs : List A) (ys : List B) (n : ℕ) (a : A) (b : B) → n < length xs
    → n < length ys
    → zip_with f (take (suc n) xs) (take (suc n) ys)
    ≡ zip_with f (take n xs) (take n ys) ++ (f (get_or xs n a) (get_or ys n b) ∷ [])
unfolding zip_with
zip_suc f [] ys n a b l m = absurd (omega arith)
zip_suc f (x ∷ xs) [] n a b l m = absurd (omega arith)
zip_suc f (x ∷ xs) (y ∷ ys) zero a b l m = refl
zip_suc f (x ∷ xs) (y ∷ ys) (suc n) a b l m = ap (λ l. f x y ∷ l) (zip_suc f xs ys n a b (omega arith) (omega arith))

-- The sizes that a pair's octets have are those that NO_NATS_ALLOWED may have.
pair_fits_lem : {f : ℕ} → Family f → (n : ℕ) → n ≡ no_nats_size (width_of f) → data_fits NoNatsAllowed n ≡ true
pair_fits_lem four n e = rw e
pair_fits_lem six n e = rw e

module _ (q : Draft) where
  -- What was asked for in the segments so far: update, NO_NATS_ALLOWED, the two NAT kinds, NO_ADDITIONAL_ADDRESSES, the
  -- addresses and the cookie. Each lemma below is one segment, which leads from what stands before it to that with the
  -- segment.
  abbrev pub up_to : Bool → Bool → Bool → Bool → Bool → ℕ → List ℕ → Draft
  up_to u n s d a count cookie =
      asked_for
      (draft
      (record {
        update = u;
        no_nats = n;
        nat_source = s;
        nat_destination = d;
        no_additional = a;
        count = count;
      })
      q.pair q.families q.addresses q.nat-source q.nat-destination cookie)

  update_leads : (u : Bool)
      → Leads (up_to false false false false false 0 []) (if_asked u (notification update_sa_addresses [] ∷ []))
      (up_to u false false false false 0 [])
  unfolding kind_of
  update_leads true = one refl refl refl
  update_leads false = none

  module _ (u : Bool) where
    pair_leads : (n : Bool) → unless_asked n (pair_fits q.pair) ≡ true → length q.pair.source ≡ address_octets
        → length q.pair.destination ≡ address_octets
        → Leads (up_to u false false false false 0 [])
        (if_asked n (notification no_nats_allowed (pair_octets q.pair) ∷ []))
        (up_to u n false false false 0 [])
    unfolding kind_of
    pair_leads true e s d =
        let p = q.pair in
        let f = both (address_fits p.family p.source) _ e in
        let g = family_of_lem p.family p.source f.0 in
        let from = p.source_port in
        let to = p.destination_port in
        one (pair_fits_lem g _ (pair_size p.source p.destination from to s d g)) refl
        (rw (pair_back p.source p.destination from to s d g f.0 f.1))
    pair_leads false e s d = none

    module _ (n : Bool) where
      abbrev NatsFit : Bool → Bool → Bool
      NatsFit s d =
          cond s (d && (eqb (length q.nat-source) nat_octets && eqb (length q.nat-destination) nat_octets)) (not d)

      nats_lead : (s d : Bool) → NatsFit s d ≡ true
          → Leads (up_to u n false false false 0 []) (if_asked s (nat_notifies q.nat-source q.nat-destination))
          (up_to u n s d false 0 [])
      unfolding kind_of
      nats_lead true true e =
          let f = both (eqb (length q.nat-source) nat_octets) _ e in
          record { fits = (f.0, (f.1, tt)); clear = (refl, (refl, tt)); gives = refl }
      nats_lead true false e = absurd (false≢true e)
      nats_lead false true e = absurd (false≢true e)
      nats_lead false false e = none

      module _ (s d : Bool) where
        none_leads : (a : Bool)
            → Leads (up_to u n s d false 0 []) (if_asked a (notification no_additional_addresses [] ∷ []))
            (up_to u n s d a 0 [])
        unfolding kind_of
        none_leads true = one refl refl refl
        none_leads false = none

        -- the next address: its family and its octets are stored behind those before it
        address_leads : {f : ℕ} → Family f → (octets : List ℕ) (count : ℕ) → length octets ≡ address_octets
            → padded (take (width_of f) octets) ≡ octets
            → set (copied 0 q.families addresses_most count) count f
            ≡ copied 0 q.families addresses_most (count + 1)
            → set (copied (replicate address_octets 0) q.addresses addresses_most count) count octets
            ≡ copied (replicate address_octets 0) q.addresses addresses_most (count + 1)
            → Leads (up_to u n s d false count []) (address_notify f octets ∷ []) (up_to u n s d false (count + 1) [])
        unfolding kind_of
        address_leads four octets count l p g h =
            let e = length-take-le ip4_octets octets (omega arith) in
            one (rw e) refl (rw (p, g, h))
        address_leads six octets count l p g h =
            let e = length-take-le ip6_octets octets (omega arith) in
            one (rw e) refl (rw (p, g, h))

        abbrev listed : ℕ → List Notification
        listed count = address_notifies (take count q.families) (take count q.addresses)

        -- the first `count` addresses, by induction on their number
        addresses_lead : (count : ℕ) → count ≤ addresses_most
            → all_below (listed_fits q.families q.addresses) count ≡ true
            → Sized q → Leads (up_to u n s d false 0 []) (listed count) (up_to u n s d false count [])
        unfolding zip_with
        addresses_lead zero l e z = none
        addresses_lead (suc count) l e z =
            let f = get_or q.families count 0 in
            let octets = get_or q.addresses count [] in
            let fits = both (address_fits f octets) _ e in
            let i : count < length q.families = omega (arith, z.families) in
            let j : count < length q.addresses = omega (arith, z.addresses) in
            let long = z.octets count (omega arith) in
            rw (zip_suc address_notify q.families q.addresses count 0 [] i j, ← add-one count)
            (in_turn _ (addresses_lead count (omega arith) fits.1 z)
            (address_leads (family_of_lem f octets fits.0) octets count long (padded_back f octets long fits.0)
            (stored 0 q.families addresses_most count i (omega arith) 0)
            (stored (replicate address_octets 0) q.addresses addresses_most count j (omega arith) [])))

        -- there are no addresses with NO_ADDITIONAL_ADDRESSES
        list_leads : (a : Bool) (count : ℕ) → unless_asked a (eqb count 0) ≡ true → count ≤ addresses_most
            → all_below (listed_fits q.families q.addresses) count ≡ true → Sized q
            → Leads (up_to u n s d a 0 []) (listed count) (up_to u n s d a count [])
        unfolding zip_with
        list_leads true count o l e z = rw (eqb-true count 0 o) none
        list_leads false count o l e z = addresses_lead count l e z

        module _ (a : Bool) (count : ℕ) where
          cookie_leads : cookie_fits (length q.cookie) ≡ true
              → Leads (up_to u n s d a count []) (cookie_notifies q.cookie) (up_to u n s d a count q.cookie)
          unfolding cookie_fits kind_of
          cookie_leads = go (eqb long 0) refl
            where
              long : ℕ
              long = length q.cookie

              go : (b : Bool) → eqb long 0 ≡ b → b || (not (ltb long cookie_least) && leb long cookie_most) ≡ true
                  → Leads (up_to u n s d a count []) (if_asked (not b) (notification cookie2 q.cookie ∷ []))
                  (up_to u n s d a count q.cookie)
              go true z e = rw (empty q.cookie (eqb-true long 0 z)) none
              go false z e =
                  let f = both (not (ltb long cookie_least)) _ e in
                  let i = ltb-false long cookie_least (not-true _ f.0) in
                  one (rw (le-leb cookie_least long i) f.1) refl refl

module _ (q : Draft) (z : Sized q) (fits : request_fits q ≡ true) where
  -- all segments in turn
  pub request_leads : Leads (up_to q false false false false false 0 []) (requested q) (asked_for q)
  unfolding request_fits
  request_leads =
      let u = q.ask.update in
      let n = q.ask.no_nats in
      let s = q.ask.nat_source in
      let d = q.ask.nat_destination in
      let a = q.ask.no_additional in
      let count = q.ask.count in
      let f = both (count_fits q.ask) _ fits in
      let c = both (leb count addresses_most) _ f.0 in
      let g = both (nats_fit q.ask (length q.nat-source) (length q.nat-destination)) _ f.1 in
      let h = both (unless_asked n (pair_fits q.pair)) _ g.1 in
      let i = both (all_below (listed_fits q.families q.addresses) count) _ h.1 in
      let most = leb-true count addresses_most c.0 in
      in_turn _ (update_leads q u)
      (in_turn _ (pair_leads q u n h.0 z.source z.destination)
      (in_turn _ (nats_lead q u n s d g.0)
      (in_turn _ (none_leads q u n s d a)
      (in_turn _ (list_leads q u n s d a count c.1 most i.0 z)
      (cookie_leads q u n s d a count i.1)))))

  pub request_fits_lem : AllFit (requested q)
  request_fits_lem = request_leads.fits
