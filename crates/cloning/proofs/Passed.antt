-- What holds where the checks of a clone request before its chain have passed.
use Prim.Native.Nat.{◌≤◌}
use mathlib.Core.Path.{◌≡◌, refl}
use mathlib.Core.Bool.{Bool, true}
use borrow.Author.Tests.{eqb-true, eqb-false, ltb-false, not-false}
use lib.ListN.{length}
use Rattle.octets.specs.Flags.{is_yes}
use Rattle.octets.specs.Operators.{is_operator}
use Rattle.octets.specs.Limits.{body_most, response_room}
use Rattle.octets.proofs.Checks.{all_passed}
use Rattle.octets.proofs.Small.{neither}
use Rattle.records.specs.declared.ike.IkeRecord.{IkeRecord}
use Rattle.cloning.specs.Clone.{CloneRequest, early_clone_checks, early_clone}

module _ (there : Bool) (e : IkeRecord) (q : CloneRequest) where
  pub record Passed : Type 0 where
    pub named : q.spi ≡ 0 → ⊥
    pub new_named : q.new_spi ≡ 0 → ⊥
    pub operator : is_operator q.operator ≡ true
    pub room : response_room ≤ q.room
    pub short : length q.body ≤ body_most
    pub found : there ≡ true
    pub own : e.agreed.operator ≡ q.operator
    pub agreed : is_yes e.agreed.cloning ≡ true

  pub passed : early_clone there e q ≡ 0 → Passed
  unfolding early_clone
  passed z =
      let c = all_passed (early_clone_checks there e q) refl z in
      let spis = neither _ _ c.0 in
      record {
        named = eqb-false q.spi 0 spis.0;
        new_named = eqb-false q.new_spi 0 spis.1;
        operator = not-false (is_operator q.operator) c.1.0;
        room = ltb-false q.room response_room c.1.1.0;
        short = ltb-false body_most (length q.body) c.1.1.1.0;
        found = not-false there c.1.1.1.1.0;
        own = eqb-true e.agreed.operator q.operator (not-false _ c.1.1.1.1.1.0);
        agreed = not-false (is_yes e.agreed.cloning) c.1.1.1.1.1.1.0;
      }
