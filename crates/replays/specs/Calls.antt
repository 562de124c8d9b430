-- Trusted. The call that an entry of a trace stands for, made on a gateway's tables: what it comes to is what the
-- contract of the exported call says (02, E3: "The end tables are proved to be those of the calls made one by one").
--   called e g      the call of an entry: what is printed of it, and the gateway after it
--   pair_of, …       the call's arguments, of the values of the entry's fields
--   empty           no record, no rule
use Rattle.std.specs.Prelude.{ℕ, ◌-◌, List, map, ◌++◌, length, replicate}
use Rattle.octets.specs.Limits.{ike_places, ipsec_places, rules_most, operators, response_room}
use Rattle.address.specs.declared.pair.Pair.{Pair}
use Rattle.records.specs.Pending.{check_of}
use Rattle.records.specs.Records.{no_ike, no_ipsec}
use Rattle.policy.specs.Policy.{set_policy, no_rule, no_policy}
use Rattle.policy.specs.declared.rules.Rule.{Rule}
use Rattle.tables.specs.Calls.{open_both, open_ipsec, close_ike, close_ipsec, mark_deletion}
use Rattle.tables.specs.declared.calls.Opening.{Opening}
use Rattle.answering.specs.Core.{asked}
use Rattle.checking.specs.Checks.{Request, request_of}
use Rattle.responder.specs.Handle.{handled}
use Rattle.routability.specs.Routability.{CheckResponse, check_response, checked}
use Rattle.cloning.specs.Clone.{CloneRequest, clone_request, cloned}
use Rattle.fields.specs.Fields.{Value, in_order}
use Rattle.entries.specs.Kinds.{fields_of, rule_fields}
use Rattle.entries.specs.Entries.{Entry}
use Rattle.entries.specs.declared.kind.Kind.{Kind}
use Rattle.entries.specs.declared.kind.Kind.TheVariants as kind
use Rattle.given.specs.Outcome.{numbered_by, replied_by}
use Rattle.acts.specs.Performed.{Gateway, gateway, Performed, gives}

abbrev pub empty : Gateway
empty =
    gateway (replicate ike_places no_ike) (replicate ipsec_places no_ipsec) (replicate operators no_policy)

-- ---- arguments

-- the five fields of a pair, whatever follows them
abbrev pub pair_of : {A : Type 0} → ℕ × (List ℕ × (List ℕ × (ℕ × (ℕ × A)))) → Pair
pair_of v =
    record {
      family = v.0;
      source = v.1.0;
      destination = v.1.1.0;
      source_port = v.1.1.1.0;
      destination_port = v.1.1.1.1.0;
    }

abbrev pub behind_pair : {A : Type 0} → ℕ × (List ℕ × (List ℕ × (ℕ × (ℕ × A)))) → A
behind_pair v = v.1.1.1.1.1

abbrev pub opening_of : Value (fields_of kind.OpenBoth) → Opening
opening_of v =
    let more = behind_pair v.1.1 in
    record {
      spi = v.0;
      agreed = record { mobike = v.1.0; cloning = more.1.1.0; operator = more.1.1.1.0; peer = more.1.0 };
      pair = pair_of v.1.1;
      child = more.0;
    }

-- "A request is given as SPI, ID, packet's pair, the two NAT values, first type, body", and with it the cookie and the
-- ID of our check and its operator; the replay lends an output of the room that a response needs
abbrev pub request_from : Value (fields_of kind.Request) → Request
request_from v =
    let pair = v.1.1 in
    let more = behind_pair pair in
    let check = check_of more.1.1.1.1.0 more.1.1.1.1.1.0 in
    let a = asked v.1.0 (pair_of pair) more.0 more.1.0 more.1.1.0 more.1.1.1.0 check in
    request_of v.0 a response_room more.1.1.1.1.1.1.0

-- 02, E6: "a response (SPI, ID, first type, body)"
abbrev pub response_from : Value (fields_of kind.CheckResponse) → CheckResponse
response_from v = check_response v.0 v.1.0 v.1.1.0 v.1.1.1.0 v.1.1.1.1.0

-- 02, E8: "a CREATE_CHILD_SA request given as an IKE rekey (SPI, new SPI, first type, body)"; the output is the same
abbrev pub clone_from : Value (fields_of kind.Clone) → CloneRequest
clone_from v = clone_request v.0 v.1.0 v.1.1.0 v.1.1.1.0 response_room v.1.1.1.1.0

abbrev pub rule_of : Value (in_order rule_fields) → Rule
rule_of v =
    record {
      family = v.0;
      source = v.1.0;
      destination = v.1.1.0;
      source_len = v.1.1.1.0;
      destination_len = v.1.1.1.1.0;
    }

-- the rules of a policy in its 16 places
abbrev pub rules_of : List (Value (in_order rule_fields)) → List Rule
rules_of vs = map rule_of vs ++ replicate (rules_most - length vs) no_rule

-- ---- the calls, each for the operator that its entry names (02, E9)
abbrev pub called_as : (k : Kind) → Value (fields_of k) → Gateway → Performed
called_as kind.OpenBoth v g =
    let a = open_both g.ike g.ipsec (opening_of v) in
    gives (numbered_by a.number) (gateway a.ike a.ipsec g.policies)
called_as kind.AddIpsec v g =
    let a = open_ipsec g.ike g.ipsec v.0 v.1.0 v.1.1.0 in
    gives (numbered_by a.number) (gateway g.ike a.ipsec g.policies)
called_as kind.CloseIke v g =
    let a = close_ike g.ike g.ipsec v.0 v.1.0 in
    gives (numbered_by a.number) (gateway a.ike a.ipsec g.policies)
called_as kind.CloseIpsec v g =
    let a = close_ipsec g.ike g.ipsec v.0 v.1.0 in
    gives (numbered_by a.number) (gateway g.ike a.ipsec g.policies)
called_as kind.Request v g =
    let a = handled g.policies g.ike g.ipsec (request_from v) in
    gives (replied_by a.reply) (gateway a.ike g.ipsec g.policies)
called_as kind.Policy v g =
    let a = set_policy g.policies (length v.0) (rules_of v.0) v.1.0 in
    gives (numbered_by a.number) (gateway g.ike g.ipsec a.policies)
-- its outcome is not printed: what it did shows in the pairs
called_as kind.CheckResponse v g =
    let a = checked g.ike g.ipsec (response_from v) in
    gives (numbered_by a.told.number) (gateway a.ike a.ipsec g.policies)
called_as kind.Clone v g =
    let a = cloned g.ike (clone_from v) in
    gives (numbered_by a.reply.number) (gateway a.ike g.ipsec g.policies)
called_as kind.MarkDeletion v g =
    let a = mark_deletion g.ike v.0 v.1.0 in
    gives (numbered_by a.number) (gateway a.ike g.ipsec g.policies)

abbrev pub called : Entry → Gateway → Performed
called e g = called_as e.kind e.values g
