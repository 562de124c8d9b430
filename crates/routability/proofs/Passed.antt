-- What has been shown where the checks before a response's chain pass.
use Prim.Native.Nat.{ℕ, ◌≤◌}
use mathlib.Core.Path.{◌≡◌, refl}
use mathlib.Core.Bool.{Bool, true, not}
use borrow.Author.Tests.{eqb-true, eqb-false, ltb-false, leb-true, not-false}
use lib.Dec.{eqb, leb}
use lib.ListN.{length}
use Rattle.octets.specs.Limits.{body_most, cookie_least, cookie_most, ipsec_places}
use Rattle.octets.specs.Flags.{is_yes}
use Rattle.octets.specs.Operators.{is_operator}
use Rattle.octets.proofs.Checks.{all_passed}
use Rattle.octets.proofs.Small.{both, neither}
use Rattle.records.specs.Pending.{is_pending}
use Rattle.records.specs.declared.ike.IkeRecord.{IkeRecord}
use Rattle.routability.specs.Routability.{CheckResponse, check_response_checks, early_response}

module _ (lent : ℕ) (there : Bool) (e : IkeRecord) (q : CheckResponse) where
  pub record Passed : Type 0 where
    pub operator : is_operator q.operator ≡ true
    pub named : q.spi ≡ 0 → ⊥
    pub short : length q.body ≤ body_most
    pub found : there ≡ true
    pub own : e.agreed.operator ≡ q.operator
    pub mobike : is_yes e.agreed.mobike ≡ true
    pub pending : is_pending e.check ≡ true
    pub id : e.check.id ≡ q.id
    pub kept : e.check.length ≤ cookie_most

  pub passed : early_response lent there e q ≡ 0 → Passed
  unfolding early_response
  passed z =
      let c = all_passed (check_response_checks lent there e q) refl z in
      let here = both (is_pending e.check) (eqb e.check.id q.id) (not-false _ c.1.1.1.1.1.1.0) in
      let n = e.check.length in
      let sized = both (leb cookie_least n) (leb n cookie_most) here.0 in
      record {
        named = eqb-false q.spi 0 (neither (not (eqb lent ipsec_places)) (eqb q.spi 0) c.0).1;
        operator = not-false (is_operator q.operator) c.1.0;
        short = ltb-false body_most (length q.body) c.1.1.0;
        found = not-false there c.1.1.1.0;
        own = eqb-true e.agreed.operator q.operator (not-false _ c.1.1.1.1.0);
        mobike = not-false (is_yes e.agreed.mobike) c.1.1.1.1.1.0;
        pending = here.0;
        id = eqb-true e.check.id q.id here.1;
        kept = leb-true n cookie_most sized.1;
      }
