-- The rules that an entry gives, by their places.
use Prim.Native.Nat.{ℕ, zero, suc, ◌+◌, ◌*◌, ◌<◌, ◌≤◌}
use mathlib.Core.Path.{◌≡◌, refl, ap, ◌∙◌}
use mathlib.Core.Bool.{Bool, true, false, cond}
use mathlib.Core.List.{List}
use native.Mathlib.Nat.{zero-add}
use native.Mathlib.Omega.{arith}
use lib.Dec.{ltb}
use lib.ListN.{length, get_or, set}
use lib.Seq.{take_all}
use borrow.Author.Tests.{lt-ltb, le-ltb}
use Rattle.octets.specs.Limits.{rules_most}
use Rattle.octets.proofs.Pad.{copied, stored, passed, copied_all}
use Rattle.policy.specs.Policy.{no_rule}
use Rattle.policy.specs.declared.rules.Rule.{Rule}
use Rattle.given.specs.Given.{rule_in, rules_from, rules_in}

module _ (s slots : List ℕ) where
  abbrev pub placed : ℕ → Rule
  placed i = cond (ltb i (get_or slots 0 0)) (rule_in s slots (1 + 5 * i)) no_rule

  pub rules_long : (n i : ℕ) → length (rules_from s slots n i) ≡ n
  rules_long zero i = refl
  rules_long (suc n) i = ap suc (rules_long n (suc i))

  pub rule_at : (n i j : ℕ) → j < n → get_or (rules_from s slots n i) j no_rule ≡ placed (i + j)
  rule_at zero i j h = absurd (omega arith)
  rule_at (suc n) i zero h = let e : i + 0 ≡ i = omega arith in rw e
  rule_at (suc n) i (suc j) h =
      let e : suc i + j ≡ i + suc j = omega arith in
      rule_at n (suc i) j (omega arith) ∙ ap placed e

  -- one turn of a loop that makes them: the rule at i is stored where the entry gives it, and none stands there already
  module _ (rules : List Rule) (i : ℕ) (more : i < rules_most)
      (have : rules ≡ copied no_rule (rules_in s slots) rules_most i) where
    inside : i < length (rules_in s slots)
    unfolding rules_in
    inside = omega (arith, rules_long rules_most 0)

    chosen : (b : Bool) → ltb i (get_or slots 0 0) ≡ b
        → get_or (rules_in s slots) i no_rule ≡ cond b (rule_in s slots (1 + 5 * i)) no_rule
    unfolding rules_in
    chosen b e =
        rule_at rules_most 0 i more ∙ ap placed (zero-add i)
        ∙ ap (λ (y : Bool). cond y (rule_in s slots (1 + 5 * i)) no_rule) e

    pub given_turn : i < get_or slots 0 0
        → set rules i (rule_in s slots (1 + 5 * i)) ≡ copied no_rule (rules_in s slots) rules_most (i + 1)
    given_turn h =
        rw (have, ← chosen true (lt-ltb i (get_or slots 0 0) h))
        (stored no_rule (rules_in s slots) rules_most i inside more no_rule)

    pub kept_turn : get_or slots 0 0 ≤ i → rules ≡ copied no_rule (rules_in s slots) rules_most (i + 1)
    kept_turn h =
        have ∙ passed no_rule (rules_in s slots) rules_most i inside more (chosen false (le-ltb i (get_or slots 0 0) h))

  pub all_ruled : (i : ℕ) → i ≡ rules_most → copied no_rule (rules_in s slots) rules_most i ≡ rules_in s slots
  unfolding rules_in
  all_ruled i e =
      copied_all no_rule (rules_in s slots) rules_most i e
      ∙ take_all rules_most (rules_in s slots) (omega (arith, rules_long rules_most 0))
