-- Trusted. What the slots of an entry point to, for any slots; of an entry that was read it is what its values say
-- (`Performing` in replays/specs/Same.antt).
--   address_in s at, string_in s at size   an address, a string; zeros, and none, where they would run past the end
--   span_in slots slot                     where the string of two slots stands
--   rule_in, rules_in, count_in             the rules of a policy, in all their places, and how many there are
--   operator_in slot slots                the operator in a slot; `policy_operator`: whose policy an entry sets
use Rattle.std.specs.Prelude.{ℕ, zero, suc, ◌+◌, ◌*◌, ◌%◌, ◌^◌, cond, List, [], ◌∷◌, leb, ltb, length, get_or, take, drop, replicate}
use Rattle.octets.specs.Limits.{address_octets, rules_most}
use Rattle.policy.specs.Policy.{no_rule}
use Rattle.policy.specs.declared.rules.Rule.{Rule}
use Rattle.given.specs.declared.reading.Span.{Span}

abbrev pub address_in : List ℕ → ℕ → List ℕ
address_in s at =
    cond (leb (at + address_octets) (length s)) (take address_octets (drop at s)) (replicate address_octets 0)

abbrev pub string_in : List ℕ → ℕ → ℕ → List ℕ
string_in s at size = cond (leb (at + size) (length s)) (take size (drop at s)) []

abbrev pub span_in : List ℕ → ℕ → Span
span_in slots slot = record { at = get_or slots slot 0; size = get_or slots (slot + 1) 0 }

module _ (s slots : List ℕ) where
  -- the rule whose slots begin at `first`
  abbrev pub rule_in : ℕ → Rule
  rule_in first =
      record {
        family = get_or slots first 0 % 2 ^ 8;
        source = address_in s (get_or slots (first + 1) 0);
        destination = address_in s (get_or slots (first + 2) 0);
        source_len = get_or slots (first + 3) 0 % 2 ^ 8;
        destination_len = get_or slots (first + 4) 0 % 2 ^ 8;
      }

  -- so many places of the list, from the place i on
  abbrev pub rules_from : ℕ → ℕ → List Rule
  rules_from zero i = []
  rules_from (suc n) i = cond (ltb i (get_or slots 0 0)) (rule_in (1 + 5 * i)) no_rule ∷ rules_from n (suc i)

  unfoldable pub rules_in : List Rule
  rules_in = rules_from rules_most 0

abbrev pub count_in : List ℕ → ℕ
count_in slots = get_or slots 0 0 % 2 ^ 16

-- E9: "Each IKE record and table call names operator A (0) or B (1)"
abbrev pub operator_in : ℕ → List ℕ → ℕ
operator_in slot slots = get_or slots slot 0 % 2 ^ 8

-- behind the 16 places of the rules
abbrev pub policy_operator : List ℕ → ℕ
policy_operator = operator_in 81
