-- Past the end there is a policy with no rules, which accepts nothing.
use Rattle.std.proofs.Common.{◌≡◌, ◌≤◌, false, ℕ, List, refl, length}
use Rattle.std.proofs.Math.ListN.{get_or-eq_default}
use Rattle.address.specs.declared.pair.Pair.{Pair}
use Rattle.policy.specs.Policy.{acceptable, no_policy, policy_of}
use Rattle.policy.specs.declared.rules.Policy.{Policy}

none_accepted : (g : Pair) → acceptable no_policy g ≡ false
unfolding acceptable
none_accepted g = refl

pub past_end : (ps : List Policy) (i : ℕ) (g : Pair) → length ps ≤ i → acceptable (policy_of ps i) g ≡ false
past_end ps i g h = rw (get_or-eq_default ps no_policy h) (none_accepted g)
