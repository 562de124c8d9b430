-- What is known of a request that fits.
use Prim.Native.Nat.{ℕ, ◌≤◌}
use mathlib.Core.Path.{◌≡◌, refl}
use mathlib.Core.Bool.{Bool, true, false, cond, ◌&&◌, ◌||◌, not, false≢true}
use native.Mathlib.Omega.{arith}
use borrow.Author.Tests.{eqb-true, leb-true}
use lib.Dec.{eqb, leb, ltb}
use lib.ListN.{length}
use Rattle.octets.specs.Limits.{addresses_most, nat_octets, cookie_least, cookie_most}
use Rattle.octets.specs.Lists.{all_below}
use Rattle.octets.proofs.Small.{both}
use Rattle.address.specs.Address.{pair_fits}
use Rattle.asking.specs.Draft.{Draft}
use Rattle.asking.specs.Fits.{cookie_fits, request_fits, unless_asked, listed_fits}

pub record Fitting (q : Draft) : Type 0 where
  pub few : q.ask.count ≤ addresses_most
  pub none : q.ask.no_additional ≡ true → q.ask.count ≡ 0
  pub nats : q.ask.nat_source ≡ true
      → (length q.nat-source ≡ nat_octets) × (length q.nat-destination ≡ nat_octets)
  pub paired : q.ask.nat_destination ≡ q.ask.nat_source
  pub pair : q.ask.no_nats ≡ true → pair_fits q.pair ≡ true
  pub listed : all_below (listed_fits q.families q.addresses) q.ask.count ≡ true
  pub cookie : cookie_fits (length q.cookie) ≡ true
  pub short : length q.cookie ≤ cookie_most

unless : (a b : Bool) → unless_asked a b ≡ true → a ≡ true → b ≡ true
unless true b e h = e
unless false b e h = absurd (false≢true h)

cookie_short : (n : ℕ) → cookie_fits n ≡ true → n ≤ cookie_most
unfolding cookie_fits
cookie_short n = go (eqb n 0) refl
  where
    go : (b : Bool) → eqb n 0 ≡ b → b || (not (ltb n cookie_least) && leb n cookie_most) ≡ true → n ≤ cookie_most
    go true e f = omega (arith, eqb-true n 0 e)
    go false e f = leb-true n cookie_most (both (not (ltb n cookie_least)) (leb n cookie_most) f).1

paired_nats : (a b : Bool) (m n : ℕ) → cond a (b && (eqb m nat_octets && eqb n nat_octets)) (not b) ≡ true
    → (b ≡ a) × (a ≡ true → (m ≡ nat_octets) × (n ≡ nat_octets))
paired_nats true b m n e =
    let t = both b (eqb m nat_octets && eqb n nat_octets) e in
    let u = both (eqb m nat_octets) (eqb n nat_octets) t.1 in
    (t.0, λ h. (eqb-true m nat_octets u.0, eqb-true n nat_octets u.1))
paired_nats false true m n e = absurd (false≢true e)
paired_nats false false m n e = (refl, λ h. absurd (false≢true h))

pub fitting : (q : Draft) → request_fits q ≡ true → Fitting q
unfolding request_fits
fitting q e =
    let a = both _ _ e in
    let b = both _ _ a.1 in
    let c = both _ _ b.1 in
    let d = both _ _ c.1 in
    let n = both _ _ a.0 in
    let asks = q.ask in
    let p = paired_nats asks.nat_source asks.nat_destination (length q.nat-source)
    (length q.nat-destination) b.0 in
    record {
      few = leb-true q.ask.count addresses_most n.0;
      none = λ h. eqb-true q.ask.count 0 (unless q.ask.no_additional _ n.1 h);
      nats = p.1;
      paired = p.0;
      pair = unless q.ask.no_nats _ c.0;
      listed = d.0;
      cookie = d.1;
      short = cookie_short (length q.cookie) d.1;
    }
