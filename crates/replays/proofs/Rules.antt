-- The rules of a policy and its operator, as taken from the slots, are those of the entry. Assumes nothing.
use Prim.Native.Nat.{ℕ, zero, suc, ◌+◌, ◌-◌, ◌*◌, ◌≤◌}
use mathlib.Core.Path.{◌≡◌, refl, ◌∙◌, ap, ap₂}
use mathlib.Core.Bool.{true}
use mathlib.Core.List.{List, ◌∷◌, ◌++◌, map}
use native.Mathlib.Omega.{arith}
use native.Mathlib.Nat.{mod-eq_of_lt, zero-add}
use borrow.Author.Tests.{leb-true, lt-ltb, le-ltb}
use lib.Dec.{leb}
use lib.ListN.{length, get_or, drop, replicate}
use lib.Seq.{get_or-drop, drop-drop}
use Rattle.octets.specs.Limits.{rules_most}
use Rattle.octets.proofs.Small.{both}
use Rattle.policy.specs.Policy.{no_rule}
use Rattle.policy.specs.declared.rules.Rule.{Rule}
use Rattle.fields.specs.Fields.{Field, in_order, list_of, none, ◌then◌, list_most}
use Rattle.fields.specs.Slots.{items_in, all_in, value_in, fits_in}
use Rattle.entries.specs.Kinds.{fields_of, rule_fields, operator}
use Rattle.entries.specs.declared.kind.Kind.TheVariants as kind
use Rattle.given.specs.Given.{rule_in, rules_from, rules_in, count_in, policy_operator}
use Rattle.replays.specs.Calls.{rule_of, rules_of}
use Rattle.replays.proofs.Taken.{lent, told, then_fits, number_taken, address_taken}

abbrev rule : Field
rule = in_order rule_fields

length-items : {A : Type 0} (n w : ℕ) (item : List ℕ → A) (slots : List ℕ) → length (items_in n w item slots) ≡ n
length-items zero w item slots = refl
length-items (suc n) w item slots = ap suc (length-items n w item (drop w slots))

module _ (w behind slots : List ℕ) where
  -- the rule whose slots begin at `first`
  rule_taken : (first : ℕ) → fits_in rule w (drop first slots) ≡ true
      → rule_in (w ++ behind) (lent slots) first ≡ rule_of (value_in rule w (drop first slots))
  unfolding value_in
  rule_taken first h =
      let family = then_fits _ _ _ _ h in
      let source = then_fits _ _ _ _ family.1 in
      let destination = then_fits _ _ _ _ source.1 in
      let source-len = then_fits _ _ _ _ destination.1 in
      let destination-len = then_fits _ _ _ _ source-len.1 in
      let given = lent slots in
      let p0 = number_taken w behind given _ first (at 0 (omega arith)) 8 _ family.0 (omega arith) in
      let p1 = address_taken w behind given _ (first + 1) (simp get_or-drop (told slots (first + 1))) source.0 in
      let p2 = address_taken w behind given _ (first + 2) (simp get_or-drop (told slots (first + 2))) destination.0 in
      let p3 =
      number_taken w behind given _ (first + 3) (simp get_or-drop (told slots (first + 3))) 8 _ source-len.0
      (omega arith) in
      let p4 =
      number_taken w behind given _ (first + 4) (simp get_or-drop (told slots (first + 4))) 8 _ destination-len.0
      (omega arith) in
      λ i. record { family = p0 i; source = p1 i; destination = p2 i; source_len = p3 i; destination_len = p4 i }
    where
      at : (k : ℕ) → first + k ≡ first → get_or (lent slots) first 0 ≡ get_or (drop first slots) k 0
      at k e = rw (get_or-drop first slots k 0, e) (told slots first)

  -- past the last rule
  none_left : (m i : ℕ) → get_or slots 0 0 ≤ i → rules_from (w ++ behind) (lent slots) m i ≡ replicate m no_rule
  none_left zero i h = refl
  none_left (suc m) i h =
      let rest = none_left m (suc i) (omega arith) in
      rw (told slots 0, le-ltb i (get_or slots 0 0) h) (ap (λ (r : List Rule). no_rule ∷ r) rest)

  -- c rules from the place i on, of m places
  rules_from_lem : (m c i : ℕ) → i + c ≡ get_or slots 0 0 → c ≤ m
      → all_in c 5 (fits_in rule w) (drop (1 + 5 * i) slots) ≡ true
      → rules_from (w ++ behind) (lent slots) m i
      ≡ map rule_of (items_in c 5 (value_in rule w) (drop (1 + 5 * i) slots)) ++ replicate (m - c) no_rule
  rules_from_lem zero zero i e l h = refl
  rules_from_lem zero (suc c) i e l h = absurd (omega arith)
  rules_from_lem (suc m) zero i e l h =
      let all : suc m - 0 ≡ suc m = omega arith in
      rw all (none_left (suc m) i (omega arith))
  rules_from_lem (suc m) (suc c) i e l h =
      let first = 1 + 5 * i in
      let after : List ℕ = drop 5 (drop first slots) in
      let fit = both (fits_in rule w (drop first slots)) (all_in c 5 (fits_in rule w) after) h in
      let next : first + 5 ≡ 1 + 5 * suc i = omega arith in
      let on : after ≡ drop (1 + 5 * suc i) slots = drop-drop 5 first slots ∙ ap (λ (k : ℕ). drop k slots) next in
      let ih = rules_from_lem m c (suc i) (omega arith) (omega arith) (rw (← on) fit.1) in
      let fewer : suc m - suc c ≡ m - c = omega arith in
      rw (told slots 0, lt-ltb i (get_or slots 0 0) (omega arith), on, fewer) (ap₂ ◌∷◌ (rule_taken first fit.0) ih)

  -- the count and the rules of a policy
  pub rules_taken : fits_in (fields_of kind.Policy) w slots ≡ true
      → (count_in (lent slots) ≡ length (value_in (fields_of kind.Policy) w slots).0)
      × (rules_in (w ++ behind) (lent slots) ≡ rules_of (value_in (fields_of kind.Policy) w slots).0)
  unfolding fits_in value_in rules_in
  rules_taken h =
      let count = get_or slots 0 0 in
      let listed = (then_fits (list_of rule) (operator then none) w slots h).0 in
      let parts = both (leb count list_most) (all_in count 5 (fits_in rule w) (drop 1 slots)) listed in
      let few : count ≤ list_most = leb-true count list_most parts.0 in
      let size = length-items count 5 (value_in rule w) (drop 1 slots) in (
        rw (told slots 0, size) (mod-eq_of_lt (omega arith)),
        rw size (rules_from_lem rules_most count 0 (zero-add count) few parts.1),
      )

  -- its operator, behind all places of the rules
  pub operator_taken : fits_in (fields_of kind.Policy) w slots ≡ true
      → policy_operator (lent slots) ≡ (value_in (fields_of kind.Policy) w slots).1.0
  unfolding value_in
  operator_taken h =
      let behind-rules = (then_fits (list_of rule) (operator then none) w slots h).1 in
      let own = (then_fits operator none w (drop 81 slots) behind-rules).0 in
      number_taken w behind (lent slots) _ 81 (simp get_or-drop (told slots 81)) 8 _ own (omega arith)
