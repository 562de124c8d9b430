-- What `Default` makes of a rule: a place that holds none.
use Rattle.std.proofs.Common.{◌≡◌, ℕ, List}
use Rattle.std.proofs.Math.ListN.{replicate}
use Rattle.std.specs.Array.{AllOfLen}
use Rattle.octets.specs.Limits.{address_octets}
use Rattle.walks.proofs.Alike.{Zero, zeros}
use Rattle.policy.specs.Policy.{no_rule}
use Rattle.policy.specs.declared.rules.Rule.{Rule}

pub rule_zero : (r : Rule)
    → ((r.family ≡ 0) × (AllOfLen Zero r.source address_octets × (AllOfLen Zero r.destination address_octets
    × ((r.source_len ≡ 0) × (r.destination_len ≡ 0)))))
    → r ≡ no_rule
rule_zero r h =
    is r.family r.source r.destination r.source_len r.destination_len h.0 (zeros address_octets r.source h.1.0)
    (zeros address_octets r.destination h.1.1.0) h.1.1.1.0 h.1.1.1.1
  where
    is : (f : ℕ) (s d : List ℕ) (m n : ℕ) → f ≡ 0 → s ≡ replicate address_octets 0 → d ≡ replicate address_octets 0 → m ≡ 0
        → n ≡ 0
        → let x : Rule = record { family = f; source = s; destination = d; source_len = m; destination_len = n } in
        x ≡ no_rule
    is f s d m n e g h i j = rw (e, g, h, i, j)
