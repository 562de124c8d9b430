-- Setting a policy by its number: what is stored where nothing is refused, and that nothing is where something is.
use Prim.Native.Nat.{ℕ}
use mathlib.Core.Path.{◌≡◌, refl}
use mathlib.Core.List.{List}
use lib.ListN.{set}
use Rattle.octets.specs.Checks.{first_failed}
use Rattle.policy.specs.Policy.{PolicyAnswer, new_policy, policy_answer, policy_checks, set_policy}
use Rattle.policy.specs.declared.rules.Policy.{Policy}
use Rattle.policy.specs.declared.rules.Rule.{Rule}
use Rattle.walks.proofs.Choices.{Decided, decided}

abbrev pub PoliciesAre : ℕ → List Policy → PolicyAnswer → Type 0
PoliciesAre number policies r = (number ≡ r.number) × (policies ≡ r.policies)

module _ (policies : List Policy) (n : ℕ) (rules : List Rule) (operator : ℕ) where
  abbrev pub number_set : ℕ
  number_set = first_failed (policy_checks n rules operator)

  abbrev policies_set : List Policy
  policies_set = set policies operator (new_policy n rules)

  pub sets_policy_lem : Decided number_set (PoliciesAre 0 policies_set (set_policy policies n rules operator))
      (PoliciesAre number_set policies (set_policy policies n rules operator))
  unfolding set_policy
  sets_policy_lem =
      decided number_set (policy_answer 0 policies_set) (policy_answer number_set policies) (PoliciesAre 0 policies_set)
      (PoliciesAre number_set policies) (refl, refl) (refl, refl)
