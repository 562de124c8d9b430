-- The calls that open nothing get neither 10 nor 41 nor 43, and a clone request no 10; nor does one get any of them
-- before its chain was read whole.
use Prim.Native.Nat.{ℕ}
use mathlib.Core.Path.{◌≡◌, refl}
use mathlib.Core.List.{List}
use mathlib.Core.Bool.{Bool, true, false, ◌&&◌, not}
use borrow.Author.Tests.{eqb-false, not-true}
use lib.Dec.{eqb, ltb}
use lib.ListN.{length}
use Rattle.octets.specs.Checks.{first_failed}
use Rattle.octets.specs.Limits.{body_most, ipsec_places}
use Rattle.octets.proofs.Checks.{first_failed_lem, numbers_pass}
use Rattle.octets.proofs.Small.{both, chosen}
use Rattle.policy.specs.Policy.{policy_checks}
use Rattle.policy.specs.declared.rules.Rule.{Rule}
use Rattle.records.specs.declared.ike.IkeRecord.{IkeRecord}
use Rattle.records.specs.declared.ike.Marks.{Marks}
use Rattle.tables.specs.Changes.{closing_number}
use Rattle.findings.specs.Seen.{nothing_seen}
use Rattle.findings.specs.declared.seen.Seen.{Seen}
use Rattle.reader.specs.Chain.{Chain, Outcome, Whole, Broken, chain_at, scanned, answer, reading}
use Rattle.reader.specs.declared.read.Reading.{Reading}
use Rattle.reader.proofs.Refused.{OfEach, fault_of_lem}
use Rattle.verdict.specs.Verdict.{verdict_number}
use Rattle.verdict.specs.declared.update.Verdict.{Verdict}
use Rattle.verdict.specs.declared.update.Verdict.TheVariants.{Accepted, Altered, Unacceptable}
use Rattle.replying.specs.declared.reply.CoreAnswer.{CoreAnswer}
use Rattle.replying.specs.declared.reply.Reply.{Reply}
use Rattle.answering.specs.Core.{Asked, decision_on, core_answer}
use Rattle.checking.specs.Checks.{Request}
use Rattle.checking.proofs.Checks.{early_passes}
use Rattle.initiator.specs.Response.{response_checks, assessment}
use Rattle.initiator.specs.declared.response.Assessment.{Assessment}
use Rattle.routability.specs.Routability.{CheckResponse, check_response_checks, early_response, check_told}
use Rattle.clone_chain.specs.CloneChain.{clone_outcome, earlier, clone_reading}
use Rattle.cloning.specs.Clone.{CloneRequest, early_clone_checks, early_clone}
use Rattle.isolating.specs.State.{Own}
use Rattle.isolation.proofs.Lookup.{own_record, own_has}
use Rattle.isolation.proofs.Requests as request
use Rattle.isolation.proofs.Responses as response

-- a number is none of the three
abbrev pub elsewhere : ℕ → Bool
elsewhere n = not (eqb n 10) && (not (eqb n 41) && not (eqb n 43))

pub record Elsewhere (n : ℕ) : Type 0 where
  pub not_10 : n ≡ 10 → ⊥
  pub not_41 : n ≡ 41 → ⊥
  pub not_43 : n ≡ 43 → ⊥

pub is_elsewhere : (n : ℕ) → elsewhere n ≡ true → Elsewhere n
is_elsewhere n e =
    let a = both (not (eqb n 10)) _ e in
    let b = both (not (eqb n 41)) (not (eqb n 43)) a.1 in
    record {
      not_10 = eqb-false n 10 (not-true _ a.0);
      not_41 = eqb-false n 41 (not-true _ b.0);
      not_43 = eqb-false n 43 (not-true _ b.1);
    }

abbrev Told : ℕ → Type 0
Told n = elsewhere n ≡ true

-- what reading tells
faults : OfEach Told
faults =
    record {
      chain_length = refl;
      notify = refl;
      data_size_lem = refl;
      repeated = refl;
      octets_after_end = refl;
      critical = refl;
    }

answered : (ch : Chain) (o : Outcome) (s : Seen) → Told (answer ch o s).number
answered ch Whole s = refl
answered ch (Broken f at) s = fault_of_lem Told faults f

read : (first : ℕ) (body : List ℕ) → Told (reading first body).number
unfolding reading
read first body =
    let scan = scanned nothing_seen (chain_at body first 0) in
    chosen (λ (r : Reading). Told r.number) (ltb body_most (length body)) (λ e. refl)
    (λ e. answered (chain_at body first 0) scan.outcome scan.seen)

pub clone_read_lem : (first : ℕ) (body : List ℕ) → elsewhere (clone_reading first body).reading.number ≡ true
unfolding clone_reading
clone_read_lem first body =
    let ch = chain_at body first 0 in
    let scan = scanned nothing_seen ch in
    answered ch (earlier scan.outcome (clone_outcome body ch)) scan.seen

pub clone_early : (there : Bool) (e : IkeRecord) (q : CloneRequest) → elsewhere (early_clone there e q) ≡ true
unfolding early_clone
clone_early there e q = numbers_pass elsewhere (early_clone_checks there e q) refl refl

-- a request
verdict_told_lem : (v : Verdict) → Told (verdict_number v)
verdict_told_lem Accepted = refl
verdict_told_lem Altered = refl
verdict_told_lem Unacceptable = refl

core : (accepted : Bool) (asks : Asked) (m : Marks) → Told (core_answer accepted asks m).reply.number
unfolding core_answer
core accepted asks m =
    chosen (λ (a : CoreAnswer). Told a.reply.number) (eqb (reading asks.first asks.body).number 0)
    (λ e. verdict_told_lem (decision_on accepted asks m).verdict) (λ e. read asks.first asks.body)

pub request_number : (q : Request) (v : Own) → elsewhere (request.reply_by q v).number ≡ true
request_number q v =
    chosen (λ (r : Reply). Told r.number) (eqb (request.early_by q v) 0)
    (λ e. core _ q.asks _) (λ e. early_passes _ _ _ q elsewhere refl refl)

-- the response to a check
assessed : (sent : List ℕ) (first : ℕ) (body : List ℕ) → Told (assessment sent first body).number
unfolding assessment
assessed sent first body =
    chosen (λ (a : Assessment). Told a.number) (eqb (first_failed (response_checks sent first body)) 0) (λ e. refl)
    (λ e. first_failed_lem Told (response_checks sent first body) (λ f. refl, (λ f. refl, (λ f. read first body, refl))))

pub response_number : (q : CheckResponse) (v : Own) → elsewhere (response.told_by q v).number ≡ true
unfolding check_told early_response
response_number q v =
    chosen (λ (a : Assessment). Told a.number) (eqb (response.early_by q v) 0)
    (λ e. assessed _ q.first q.body)
    (λ e.
    numbers_pass elsewhere (check_response_checks ipsec_places (own_has v q.spi) (own_record v q.spi) q) refl refl)

-- a closing, a deletion mark, the setting of a policy
pub closing_number_lem : (bad there : Bool) → elsewhere (closing_number bad there) ≡ true
closing_number_lem true there = refl
closing_number_lem false true = refl
closing_number_lem false false = refl

pub setting_number_lem : (n : ℕ) (rules : List Rule) (operator : ℕ)
    → elsewhere (first_failed (policy_checks n rules operator)) ≡ true
setting_number_lem n rules operator = numbers_pass elsewhere (policy_checks n rules operator) refl refl
