-- Where nothing is refused the policy is stored, and where something is nothing is.
use Rattle.std.proofs.Common.{rules, ◌≡◌, ◌∙◌, sym}
use Rattle.octets.specs.Checks.{first_failed}
use Rattle.octets.specs.Numbers.{told}
use Rattle.policy.specs.Policy.{policy_checks}
use Rattle.policy.proofs.Changed.{sets_policy_lem}
use Rattle.lent_policy.proofs.rules.set_policy.Goals as goal

pub returns-in_err-policy_number-clause-value : goal.returns-in_err-policy_number-clause-value
returns-in_err-policy_number-clause-value c =
    let a = c.args in
    let w = c.in_err-policy_number.ensures in
    let refused : first_failed (policy_checks a.count a.rules.now a.operator) ≡ 0 → ⊥ = λ e. w.refuses (w.as_listed ∙ e) in
    let s = (sets_policy_lem a.policies.now a.count a.rules.now a.operator).refused refused in
    let t : told c.from_residual.result ≡ first_failed (policy_checks a.count a.rules.now a.operator) = search rules in
    (t ∙ s.0, s.1)

pub returns-clause-value : goal.returns-clause-value
returns-clause-value c =
    let a = c.args in
    rw (c.store.ensures, c.new.ensures)
    ((sets_policy_lem a.policies.now a.count a.rules.now a.operator).passed
    (sym c.in_ok-policy_number.ensures.as_listed))
