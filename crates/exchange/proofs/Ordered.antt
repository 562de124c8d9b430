-- What a request asks for stands in the writer's order, and so does the chain that is written of it.
use Prim.Native.Nat.{ℕ, suc, ◌<◌}
use mathlib.Core.Path.{◌≡◌, refl, ap, ◌∙◌}
use mathlib.Core.List.{List, [], ◌∷◌, ◌++◌, append_assoc, append-nil, zip_with}
use mathlib.Core.Bool.{Bool, true, false, cond, ◌&&◌, ◌||◌, not}
use native.Mathlib.Omega.{arith}
use borrow.Author.Tests.{lt-ltb, ltb-false, eq-eqb}
use lib.Dec.{eqb, leb, ltb}
use lib.ListN.{length, take, length-append}
use lib.Seq.{get_or-append-add}
use Rattle.octets.specs.Wire.{cookie2}
use Rattle.octets.specs.Limits.{addresses_most}
use Rattle.octets.proofs.Small.{both, and_true, chosen}
use Rattle.notify.specs.Notify.{kind_of}
use Rattle.writing.specs.Notify.{Notification, notification, notify_octets, first_type, chained}
use Rattle.writing.proofs.Placed.{length-notify}
use Rattle.reader.specs.Chain.{chain_at, reading}
use Rattle.writing.specs.Parts.{nat_notifies, cookie_notifies}
use Rattle.asking.specs.Draft.{Draft, if_asked, address_notify_type, address_notifies, requested, request_octets}
use Rattle.asking.specs.Fits.{count_fits, nats_fit, request_fits}
use Rattle.exchange.specs.Plain.{rank, may_follow, zero_fields, in_order, plainly_read}
use Rattle.exchange.specs.RoundTrips.{given}
use Rattle.exchange.proofs.Notifies.{notify_chain}
use Rattle.exchange.proofs.Parsed.{rank_of, ranked}
use Rattle.exchange.proofs.Asked.{both_nats}

-- in order behind any rank below r
abbrev From : ℕ → List Notification → Type 0
From r xs = (last : ℕ) → last < r → ranked last xs ≡ true

-- one more in front, if it is asked for
put : (r : ℕ) (b : Bool) (x : Notification) (z : List Notification) → rank_of x ≡ r → From (suc r) z
    → From r (if_asked b (x ∷ []) ++ z)
put r true x z e f last h = rw (e, lt-ltb last r h) (f r (omega arith))
put r false x z e f last h = f last (omega arith)

-- an address stands behind any rank up to 6
behind : (last : ℕ) → last < 7 → may_follow last 6 ≡ true
behind last h = go (ltb last 6) refl
  where
    go : (b : Bool) → ltb last 6 ≡ b → b || (eqb last 6 && true) ≡ true
    go true e = refl
    go false e = rw (eq-eqb last 6 (omega (arith, ltb-false last 6 e)))

address_rank_lem : (family : ℕ) → rank (kind_of (address_notify_type family)) ≡ 6
unfolding kind_of
address_rank_lem family = chosen (λ n. rank (kind_of n) ≡ 6) (eqb family 4) (λ e. refl) (λ e. refl)

put_addresses : (families : List ℕ) (addresses : List (List ℕ)) (z : List Notification) → From 7 z
    → From 7 (address_notifies families addresses ++ z)
unfolding zip_with
put_addresses [] addresses z f = f
put_addresses (a ∷ families) [] z f = f
put_addresses (a ∷ families) (o ∷ addresses) z f =
    λ last h. rw (address_rank_lem a, behind last h) (put_addresses families addresses z f 6 (omega arith))

put_cookie : (cookie : List ℕ) → From 7 (cookie_notifies cookie)
unfolding kind_of
put_cookie cookie last h =
    rw (append-nil (cookie_notifies cookie)) at
    (put 7 (not (eqb (length cookie) 0)) (notification cookie2 cookie) [] refl (λ k l. refl) last h)

put_nats : (b : Bool) (source destination : List ℕ) (z : List Notification) → From 5 z
    → From 3 (if_asked b (nat_notifies source destination) ++ z)
unfolding kind_of
put_nats b source destination z f = rw (← both_nats b _ _ z) (put 3 b _ _ refl (put 4 b _ z refl f))

pub written_plain : (q : Draft) → ranked 0 (requested q) ≡ true
unfolding kind_of
written_plain q =
    put 1 q.ask.update _ _ refl
    (put 2 q.ask.no_nats _ _ refl
    (put_nats q.ask.nat_source q.nat-source q.nat-destination _
    (put 5 q.ask.no_additional _ _ refl
    (λ last h.
    put_addresses (take q.ask.count q.families) (take q.ask.count q.addresses)
    (cookie_notifies q.cookie) (put_cookie q.cookie)
    last (omega arith)))))
    0 (omega arith)

zeros : (front rest : List ℕ) (next number : ℕ) (octets : List ℕ)
    → zero_fields (front ++ (notify_octets next number octets ++ rest)) (length front) ≡ true
unfolding notify_octets
zeros front rest next number octets = rw (get_or-append-add front _ 1 0, get_or-append-add front _ 4 0)

-- Notifications written behind `front` are in order if their ranks are.
pub in_order_lem : (xs : List Notification) (front : List ℕ) (last : ℕ)
    → in_order (front ++ chained xs 0) last (notify_chain (length front) xs) ≡ ranked last xs
unfolding chained
in_order_lem [] front last = refl
in_order_lem (x ∷ xs) front last =
    let octets = notify_octets (first_type xs 0) x.notify_type x.octets in
    rw (zeros front (chained xs 0) (first_type xs 0) x.notify_type x.octets)
    (ap (λ (b : Bool). may_follow last (rank_of x) && b)
    (rw (
      append_assoc front octets (chained xs 0),
      length-append front octets,
      length-notify (first_type xs 0) x.notify_type x.octets,
    )
    at (in_order_lem xs (front ++ octets) (rank_of x))))

-- both or neither
paired : (a b c : Bool) → cond (not a) (not b && c) (not (not b)) ≡ true → cond a b (not b) ≡ true
paired true true c e = refl
paired true false c e = e
paired false true c e = e
paired false false c e = refl

module _ (first : ℕ) (body : List ℕ) where
  pub chain_order : (xs : List Notification) → body ≡ chained xs 0 → chain_at body first 0 ≡ notify_chain 0 xs
      → in_order body 0 (chain_at body first 0) ≡ ranked 0 xs
  chain_order xs b c = rw (c, b) (in_order_lem xs [] 0)

  -- A chain that was read whole, and that what it gave writes again, is plainly read.
  pub plain_again : request_fits (given first body) ≡ true → (reading first body).number ≡ 0
      → body ≡ request_octets (given first body)
      → chain_at body first 0 ≡ notify_chain 0 (requested (given first body)) → plainly_read first body ≡ true
  unfolding request_fits plainly_read
  plain_again f n b c =
      let s = (reading first body).seen in
      let g = both (count_fits (given first body).ask) _ f in
      let m = both (nats_fit (given first body).ask (length (given first body).nat-source)
      (length (given first body).nat-destination)) _ g.1 in
      and_true (eq-eqb (reading first body).number 0 n)
      (and_true (chain_order (requested (given first body)) b c ∙ written_plain (given first body))
      (and_true (paired (eqb s.nat_source 0) (eqb s.nat_destination 0) _ m.0)
      (both (leb s.list.count addresses_most) _ g.0).0))
