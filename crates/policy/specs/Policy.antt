-- Trusted. The policies, one an operator (02, E9): which rules may be set, and which pairs they accept: 01, "The policy
-- is up to 16 rules".
--
--   rule_fits       both prefixes of a rule are addresses of its family
--   lengths_fit     both lengths are at most the bits of its family
--   rule_matches    a rule accepts a pair
--   acceptable     some rule of a policy accepts a pair
--   no_rule         what stands in a place that holds no rule
--   kept           a list as it is stored: the first n rules, and nothing after them
--   new_policy      a policy as it is set; `no_policy`: one with no rules
--   policy_of       an operator's policy
--   policy_checks   what is checked when a policy is set, in 01's order
--   set_policy      the number that setting gives, and the policies after it
use Rattle.std.specs.Prelude.{ℕ, List, [], ◌∷◌, Bool, cond, ◌&&◌, not, eqb, leb, ltb, take, replicate, get_or, set}
use Rattle.octets.specs.declared.number.Number.TheVariants.{BadArgument, BadPolicy}
use Rattle.octets.specs.Checks.{Check, ◌gives◌, first_failed}
use Rattle.octets.specs.Limits.{rules_most, address_octets}
use Rattle.octets.specs.Operators.{is_operator}
use Rattle.octets.specs.Lists.{all, any, first_of}
use Rattle.address.specs.Address.{width_of, both_fit}
use Rattle.address.specs.declared.pair.Pair.{Pair}
use Rattle.prefix.specs.Prefix.{bits_of, prefix_matches}
use Rattle.policy.specs.declared.rules.Rule.{Rule}
use Rattle.policy.specs.declared.rules.Policy.{Policy}

-- 01: "1: family not 4 or 6, IPv4 tail not zero", of a rule.
abbrev pub rule_fits : Rule → Bool
rule_fits r = both_fit r.family r.source r.destination

-- 01: "two prefix lengths (at most 32 or 128)".
abbrev pub lengths_fit : Rule → Bool
lengths_fit r =
    let bits = bits_of (width_of r.family) in
    leb r.source_len bits && leb r.destination_len bits

-- 01: "some rule has its family, its first prefix matches the source and its second the destination"; "a rule with a
-- family or length not allowed matches nothing".
unfoldable pub rule_matches : Rule → Pair → Bool
rule_matches r p =
    eqb r.family p.family
    && (not (eqb (width_of r.family) 0)
    && (lengths_fit r
    && (prefix_matches r.source r.source_len p.source
    && prefix_matches r.destination r.destination_len p.destination)))

-- 01: "A pair is acceptable exactly if some rule ..."; "No rules, nothing acceptable."; "a policy count over 16 reads
-- as 16": there are sixteen places.
unfoldable pub acceptable : Policy → Pair → Bool
acceptable policy p = any (λ (r : Rule). rule_matches r p) (take policy.count policy.rules)

-- a place of the list that holds no rule
abbrev pub no_rule : Rule
no_rule =
    record {
      family = 0;
      source = replicate address_octets 0;
      destination = replicate address_octets 0;
      source_len = 0;
      destination_len = 0;
    }

-- 01: "Places past a list's count ... aren't looked at; in a list newly kept or given they are 0".
abbrev pub kept : List Rule → ℕ → List Rule
kept rules n = first_of rules_most no_rule n rules

abbrev pub new_policy : ℕ → List Rule → Policy
new_policy n rules = record { count = n; rules = kept rules n }

abbrev pub no_policy : Policy
no_policy = record { count = 0; rules = replicate rules_most no_rule }

-- E9: "Policies and peer limits are per operator". Whoever is no operator has no rules.
abbrev pub policy_of : List Policy → ℕ → Policy
policy_of policies operator = get_or policies operator no_policy

-- What setting comes to: its number, and the policies after it.
pub record PolicyAnswer : Type 0 where
  pub number : ℕ
  pub policies : List Policy

abbrev pub policy_answer : ℕ → List Policy → PolicyAnswer
policy_answer number policies = record { number = number; policies = policies }

-- 01: "Setting a policy checks the count (12), then 1, then the lengths (12)", each over the whole list; a number that
-- names no operator is a bad argument too.
abbrev pub policy_checks : ℕ → List Rule → ℕ → List Check
policy_checks n rules operator =
    ltb rules_most n gives BadPolicy
    ∷ not (is_operator operator && all rule_fits (take n rules)) gives BadArgument
    ∷ not (all lengths_fit (take n rules)) gives BadPolicy
    ∷ []

-- 01: "Setting replaces the whole list", the operator's own.
unfoldable pub set_policy : List Policy → ℕ → List Rule → ℕ → PolicyAnswer
set_policy policies n rules operator =
    let number = first_failed (policy_checks n rules operator) in
    cond (eqb number 0) (policy_answer 0 (set policies operator (new_policy n rules))) (policy_answer number policies)
