-- A request as a call by its SPI: what it does to the record that it sees, and what it answers.
use Prim.Native.Nat.{ℕ}
use mathlib.Core.Path.{◌≡◌, refl, sym, ap, ◌∙◌}
use mathlib.Core.List.{List, []}
use mathlib.Core.Bool.{Bool, true, false, cond, and-false, false≢true}
use mathlib.Core.Option.{Option, none, some, map, get_or}
use native.Mathlib.Decide.{ℕ_discrete}
use borrow.Author.Tests.{eq-eqb, ne_eqb}
use lib.Dec.{eqb}
use Rattle.octets.proofs.Small.{chosen}
use Rattle.values.specs.Values.{part_of}
use Rattle.policy.specs.declared.rules.Policy.{Policy}
use Rattle.records.specs.Records.{none_agreed, no_ike, marks_in}
use Rattle.tables.specs.Calls.{has_ike, list_fits}
use Rattle.tables.specs.Tables.{Tables, meant}
use Rattle.tables.specs.View.{View, view, Change, stays, becomes, applied, Proper}
use Rattle.records.specs.declared.ike.Agreed.{Agreed}
use Rattle.records.specs.declared.ike.IkeRecord.{IkeRecord}
use Rattle.views.proofs.View.{found, applied_stays, applied_alone}
use Rattle.replying.specs.Reply.{refusal_reply, list_replaced}
use Rattle.answering.specs.Core.{CoreResult, core_answer, core_result, core_response}
use Rattle.replying.specs.Change.{changed_by}
use Rattle.checking.specs.Checks.{Request, early_number_by}
use Rattle.responder.specs.Handle.{accepts, early_number, handled, handled_response, after_request}
use Rattle.checking.proofs.Checks.{passed}
use Rattle.reordering.specs.Requests.{RequestAnswer, request_answer}

abbrev pub early : Tables → Request → ℕ
early t q = early_number t.ike t.ipsec q

-- What checks 1 to 5 go by beside the request: how many IPsec records are lent, and what was agreed for the record, its
-- operator included, if there is one.
pub record Terms : Type 0 where
  pub lent : ℕ
  pub agreed : Option Agreed

abbrev pub terms : View → Terms
terms v = record { lent = v.lent; agreed = map (λ (r : IkeRecord). r.agreed) v.entry }

abbrev pub is_there : {A : Type 0} → Option A → Bool
is_there none = false
is_there (some x) = true

abbrev pub early_by : Request → Terms → ℕ
early_by q w = early_number_by w.lent (is_there w.agreed) (get_or w.agreed none_agreed) q

pub early_is : (q : Request) (t : Tables) → early t q ≡ early_by q (terms (view q.spi t))
unfolding early_number_by
early_is q t = go (eqb q.spi 0) refl (has_ike q.spi t.ike) refl
  where
    go : (a : Bool) → eqb q.spi 0 ≡ a → (b : Bool) → has_ike q.spi t.ike ≡ b
        → early t q ≡ early_by q (terms (view q.spi t))
    go true e b f = rw (e, and-false (list_fits t.ipsec))
    go false e true f = rw (e, f)
    go false e false f = rw (e, f)

-- where the checks passed there is a record
pub passed_seen : (q : Request) (v : View) → early_by q (terms v) ≡ 0 → (r : IkeRecord) × (v.entry ≡ some r)
passed_seen q v e = go v.entry (passed _ _ _ q e).found
  where
    go : (o : Option IkeRecord) → is_there (map (λ (r : IkeRecord). r.agreed) o) ≡ true
        → (r : IkeRecord) × (o ≡ some r)
    go none z = absurd (false≢true z)
    go (some r) z = (r, refl)

module _ (policies : List Policy) where
  abbrev pub core : Request → IkeRecord → CoreResult
  core q e = core_result (accepts policies q) q.asks e

  -- what it does where checks 1 to 5 pass, and what it does at all
  abbrev pub altered : Request → Option IkeRecord → Change
  altered q none = stays
  altered q (some r) = becomes (core q r).entry none

  abbrev pub does : Request → View → Change
  does q v = cond (eqb (early_by q (terms v)) 0) (altered q v.entry) stays

  -- the answer by the number of the first five checks and by the record
  abbrev answer_by : Request → ℕ → IkeRecord → RequestAnswer
  answer_by q n e =
      let r = cond (eqb n 0) (core q e).reply (refusal_reply n) in
      record {
        reply = r;
        cookie = part_of q.asks.body r.cookie r.cookie_len;
        octets = cond (eqb n 0) (core_response (accepts policies q) q.asks (marks_in e)) [];
      }

  abbrev pub says : Request → View → RequestAnswer
  says q v = answer_by q (early_by q (terms v)) (get_or v.entry no_ike)

  pub proper : (q : Request) (v : View) → Proper v.entry (does q v)
  unfolding changed_by
  proper q v = go v.entry (eqb (early_by q (terms v)) 0)
    where
      go : (o : Option IkeRecord) (b : Bool) → Proper o (cond b (altered q o) stays)
      go none true = refl
      go none false = refl
      go (some r) true =
          chosen (λ (x : IkeRecord). x.spi ≡ r.spi)
          (list_replaced (core_answer (accepts policies q) q.asks (marks_in r))) (λ e. refl) (λ e. refl)
      go (some r) false = tt

  pub does_taken : (q : Request) (v : View) {r : IkeRecord} → early_by q (terms v) ≡ 0 → v.entry ≡ some r
      → does q v ≡ altered q (some r)
  does_taken q v e o = rw (eq-eqb (early_by q (terms v)) 0 e, o)

  step_taken : (q : Request) (t : Tables) {r : IkeRecord} → early t q ≡ 0 → (view q.spi t).entry ≡ some r
      → after_request policies q t ≡ applied q.spi (altered q (some r)) t
  unfolding after_request handled
  step_taken q t {r} e o =
      rw (eq-eqb (early t q) 0 e, (found q.spi t o).is) (sym (applied_alone q.spi t (core q r).entry))

  step_refused : (q : Request) (t : Tables) → (early t q ≡ 0 → ⊥) → after_request policies q t ≡ t
  unfolding after_request handled
  step_refused q t n = rw (ne_eqb (early t q) 0 n)

  pub step_is : (q : Request) (t : Tables) → after_request policies q t ≡ applied q.spi (does q (view q.spi t)) t
  step_is q t = go (ℕ_discrete (early t q) 0)
    where
      go : Dec (early t q ≡ 0) → after_request policies q t ≡ applied q.spi (does q (view q.spi t)) t
      go (yes e) =
          let passes = sym (early_is q t) ∙ e in
          let o = (passed_seen q (view q.spi t) passes).1 in
          step_taken q t e o ∙ ap (λ (c : Change). applied q.spi c t) (sym (does_taken q (view q.spi t) passes o))
      go (no n) = step_refused q t n ∙ sym (rw (← early_is q t, ne_eqb (early t q) 0 n) (applied_stays q.spi t))

  answer_by_lem : (q : Request) (t : Tables) → request_answer policies q t ≡ answer_by q (early t q) (meant t.ike q.spi)
  unfolding request_answer handled handled_response
  answer_by_lem q t = go (eqb (early t q) 0) refl
    where
      go : (b : Bool) → eqb (early t q) 0 ≡ b
          → request_answer policies q t ≡ answer_by q (early t q) (meant t.ike q.spi)
      go true e = rw e
      go false e = rw e

  pub answer_is : (q : Request) (t : Tables) → request_answer policies q t ≡ says q (view q.spi t)
  answer_is q t = answer_by_lem q t ∙ go (ℕ_discrete (early t q) 0) ∙ ap (λ (n : ℕ). answer_by q n e) (early_is q t)
    where
      e : IkeRecord
      e = get_or (view q.spi t).entry no_ike

      go : Dec (early t q ≡ 0) → answer_by q (early t q) (meant t.ike q.spi) ≡ answer_by q (early t q) e
      go (yes z) =
          let o = (passed_seen q (view q.spi t) (sym (early_is q t) ∙ z)).1 in
          ap (answer_by q (early t q))
          ((found q.spi t o).is ∙ ap (λ (x : Option IkeRecord). get_or x no_ike) (sym o))
      go (no n) = rw (ne_eqb (early t q) 0 n)
