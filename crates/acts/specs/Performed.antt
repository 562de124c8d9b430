-- Trusted. What an entry's call comes to by its slots, on any tables, as the code makes it: the definitions of the
-- exported calls' contracts on what `Given` takes from the slots.
--   Gateway                 the tables and the operators' policies that calls are made on
--   Performed, Performs     what is printed and what is left, and that the code gives and leaves it
--   opened_by … marked_by     of each kind; ike_shown_by, ipsec_shown_by: of a record that is shown
--   performed               of whatever is asked
use Rattle.std.specs.Prelude.{ℕ, ◌≡◌, List, get_or}
use Rattle.records.specs.Records.{no_ike, no_ipsec}
use Rattle.records.specs.declared.ike.IkeRecord.{IkeRecord}
use Rattle.records.specs.declared.ipsec.IpsecRecord.{IpsecRecord}
use Rattle.policy.specs.Policy.{set_policy}
use Rattle.policy.specs.declared.rules.Policy.{Policy}
use Rattle.tables.specs.Calls.{open_both, open_ipsec, close_ike, close_ipsec, mark_deletion}
use Rattle.answering.specs.Core.{asked}
use Rattle.checking.specs.Checks.{Request, request_of}
use Rattle.records.specs.Pending.{check_of}
use Rattle.responder.specs.Handle.{handled}
use Rattle.routability.specs.Routability.{CheckResponse, check_response, checked}
use Rattle.cloning.specs.Clone.{CloneRequest, clone_request, cloned}
use Rattle.entries.specs.declared.kind.Kind.TheVariants as kind
use Rattle.given.specs.declared.reading.Asked.{Asked}
use Rattle.given.specs.declared.reading.Asked.TheVariants.{Entry, ShowIke, ShowIpsec}
use Rattle.given.specs.Given.{rules_in, count_in, policy_operator, string_in}
use Rattle.calling.specs.Calling.{opening_in, request_in, response_in, clone_in, spi_in, child_in, owner_in, closer_in, adder_in}
use Rattle.given.specs.Outcome.{numbered_by, replied_by, shown_of}
use Rattle.given.specs.declared.outcome.Outcome.{Outcome}

pub record Gateway : Type 0 where
  pub ike : List IkeRecord
  pub ipsec : List IpsecRecord
  pub policies : List Policy

abbrev pub gateway : List IkeRecord → List IpsecRecord → List Policy → Gateway
gateway ike ipsec policies = record { ike = ike; ipsec = ipsec; policies = policies }

pub record Performed : Type 0 where
  pub outcome : Outcome
  pub after : Gateway

abbrev pub gives : Outcome → Gateway → Performed
gives outcome after = record { outcome = outcome; after = after }

module _ (act : Gateway → Performed) (ike : List IkeRecord) (ipsec : List IpsecRecord) (policies : List Policy) where
  pub record Performs (r : Outcome) (ike_after : List IkeRecord) (ipsec_after : List IpsecRecord)
      (policies-after : List Policy) : Type 0 where
    pub outcome : r ≡ (act (gateway ike ipsec policies)).outcome
    pub records : ike_after ≡ (act (gateway ike ipsec policies)).after.ike
    pub owned : ipsec_after ≡ (act (gateway ike ipsec policies)).after.ipsec
    pub rules : policies-after ≡ (act (gateway ike ipsec policies)).after.policies

abbrev pub opened_by : List ℕ → List ℕ → Gateway → Performed
opened_by s slots g =
    let a = open_both g.ike g.ipsec (opening_in s slots) in
    gives (numbered_by a.number) (gateway a.ike a.ipsec g.policies)

abbrev pub added_by : List ℕ → Gateway → Performed
added_by slots g =
    let a = open_ipsec g.ike g.ipsec (child_in slots) (owner_in slots) (adder_in slots) in
    gives (numbered_by a.number) (gateway g.ike a.ipsec g.policies)

abbrev pub closed_by : List ℕ → Gateway → Performed
closed_by slots g =
    let a = close_ike g.ike g.ipsec (spi_in slots) (closer_in slots) in
    gives (numbered_by a.number) (gateway a.ike a.ipsec g.policies)

abbrev pub child_closed_by : List ℕ → Gateway → Performed
child_closed_by slots g =
    let a = close_ipsec g.ike g.ipsec (child_in slots) (closer_in slots) in
    gives (numbered_by a.number) (gateway g.ike a.ipsec g.policies)

abbrev pub policy_set_by : List ℕ → List ℕ → Gateway → Performed
policy_set_by s slots g =
    let a = set_policy g.policies (count_in slots) (rules_in s slots) (policy_operator slots) in
    gives (numbered_by a.number) (gateway g.ike g.ipsec a.policies)

-- a request with so much room for its response
abbrev pub request_by : List ℕ → List ℕ → ℕ → Request
request_by s slots room =
    let q = request_in s slots in
    let nat-source = string_in s q.nat_source.at q.nat_source.size in
    let nat-destination = string_in s q.nat_destination.at q.nat_destination.size in
    let body = string_in s q.body.at q.body.size in
    let check = check_of (string_in s q.cookie.at q.cookie.size) q.check_id in
    request_of q.spi (asked q.id q.pair nat-source nat-destination q.first body check) room q.operator

abbrev pub handled_by : List ℕ → List ℕ → ℕ → Gateway → Performed
handled_by s slots room g =
    let a = handled g.policies g.ike g.ipsec (request_by s slots room) in
    gives (replied_by a.reply) (gateway a.ike g.ipsec g.policies)

-- the response to a check; of what is told of it the number is printed
abbrev pub response_by : List ℕ → List ℕ → CheckResponse
response_by s slots =
    let q = response_in slots in
    check_response q.spi q.id q.first (string_in s q.body.at q.body.size) q.operator

abbrev pub checked_by : List ℕ → List ℕ → Gateway → Performed
checked_by s slots g =
    let a = checked g.ike g.ipsec (response_by s slots) in
    gives (numbered_by a.told.number) (gateway a.ike a.ipsec g.policies)

-- a clone request with so much room for its response; of what is told of it the number is printed
abbrev pub clone_by : List ℕ → List ℕ → ℕ → CloneRequest
clone_by s slots room =
    let q = clone_in slots in
    clone_request q.spi q.new_spi q.first (string_in s q.body.at q.body.size) room q.operator

abbrev pub cloned_by : List ℕ → List ℕ → ℕ → Gateway → Performed
cloned_by s slots room g =
    let a = cloned g.ike (clone_by s slots room) in
    gives (numbered_by a.reply.number) (gateway a.ike g.ipsec g.policies)

abbrev pub marked_by : List ℕ → Gateway → Performed
marked_by slots g =
    let a = mark_deletion g.ike (spi_in slots) (closer_in slots) in
    gives (numbered_by a.number) (gateway a.ike g.ipsec g.policies)

abbrev pub ike_shown_by : List ℕ → Gateway → Performed
ike_shown_by slots g =
    let x = get_or g.ike (spi_in slots) no_ike in
    gives (shown_of x.spi x.pair) g

abbrev pub ipsec_shown_by : List ℕ → Gateway → Performed
ipsec_shown_by slots g =
    let x = get_or g.ipsec (spi_in slots) no_ipsec in
    gives (shown_of x.spi x.pair) g

abbrev pub performed : Asked → List ℕ → List ℕ → ℕ → Gateway → Performed
performed (Entry kind.OpenBoth) s slots room = opened_by s slots
performed (Entry kind.AddIpsec) s slots room = added_by slots
performed (Entry kind.CloseIke) s slots room = closed_by slots
performed (Entry kind.CloseIpsec) s slots room = child_closed_by slots
performed (Entry kind.Request) s slots room = handled_by s slots room
performed (Entry kind.Policy) s slots room = policy_set_by s slots
performed (Entry kind.CheckResponse) s slots room = checked_by s slots
performed (Entry kind.Clone) s slots room = cloned_by s slots room
performed (Entry kind.MarkDeletion) s slots room = marked_by slots
performed ShowIke s slots room = ike_shown_by slots
performed ShowIpsec s slots room = ipsec_shown_by slots
