-- What has been shown where checks 1 to 5 pass, and what is known of their number.
use Prim.Native.Nat.{ℕ, ◌≤◌}
use mathlib.Core.Path.{◌≡◌, refl}
use mathlib.Core.Bool.{Bool, true, not}
use borrow.Author.Tests.{eqb-true, ltb-false, not-false}
use lib.Dec.{eqb}
use lib.ListN.{length}
use Rattle.octets.specs.Limits.{body_most, ipsec_places, nat_octets, response_room}
use Rattle.octets.specs.Checks.{Check}
use Rattle.octets.specs.Flags.{is_yes}
use Rattle.octets.specs.Operators.{is_operator}
use Rattle.octets.specs.Lists.{all}
use Rattle.octets.proofs.Checks.{EachFailed, all_passed, first_failed_lem, numbers_pass}
use Rattle.octets.proofs.Small.{both}
use Rattle.address.specs.Address.{pair_fits}
use Rattle.records.specs.Pending.{is_pending}
use Rattle.records.specs.declared.ike.Agreed.{Agreed}
use Rattle.checking.specs.Checks.{Request, request_checks, early_number_by}

module _ (lent : ℕ) (there : Bool) (agreed : Agreed) (q : Request) where
  pub record Passed : Type 0 where
    pub operator : is_operator q.operator ≡ true
    pub named : not (eqb q.spi 0) ≡ true
    pub nat-source : length q.asks.nat-source ≡ nat_octets
    pub nat-destination : length q.asks.nat-destination ≡ nat_octets
    pub check : is_pending q.asks.check ≡ true
    pub pair : pair_fits q.asks.pair ≡ true
    pub room_enough : response_room ≤ q.room
    pub short : length q.asks.body ≤ body_most
    pub found : there ≡ true
    pub own : agreed.operator ≡ q.operator
    pub mobike : is_yes agreed.mobike ≡ true

  pub passed : early_number_by lent there agreed q ≡ 0 → Passed
  unfolding early_number_by
  passed e =
      let c = all_passed (request_checks lent there agreed q) refl e in
      let fit = (both (eqb lent ipsec_places) _ (not-false _ c.0)).1 in
      let named = both (not (eqb q.spi 0)) _ fit in
      let source = both (eqb (length q.asks.nat-source) nat_octets) _ named.1 in
      let destination = both (eqb (length q.asks.nat-destination) nat_octets) _ source.1 in
      let check = both (is_pending q.asks.check) (pair_fits q.asks.pair) destination.1 in
      record {
        operator = not-false (is_operator q.operator) c.1.0;
        named = named.0;
        nat-source = eqb-true _ nat_octets source.0;
        nat-destination = eqb-true _ nat_octets destination.0;
        check = check.0;
        pair = check.1;
        room_enough = ltb-false q.room response_room c.1.1.0;
        short = ltb-false body_most (length q.asks.body) c.1.1.1.0;
        found = not-false there c.1.1.1.1.0;
        own = eqb-true agreed.operator q.operator (not-false _ c.1.1.1.1.1.0);
        mobike = not-false (is_yes agreed.mobike) c.1.1.1.1.1.1.0;
      }

  -- what holds of each number that a check gives, where it fails, and of 0
  pub early_of : (P : ℕ → Type 0) → EachFailed P (request_checks lent there agreed q)
      → P (early_number_by lent there agreed q)
  unfolding early_number_by
  early_of P = first_failed_lem P (request_checks lent there agreed q)

  -- a test that 0 and each of those numbers pass
  pub early_passes : (f : ℕ → Bool) → f 0 ≡ true
      → all (λ (c : Check). f c.number) (request_checks lent there agreed q) ≡ true
      → f (early_number_by lent there agreed q) ≡ true
  unfolding early_number_by
  early_passes f = numbers_pass f (request_checks lent there agreed q)
