-- Every check response gives back a row of its table of numbers.
use Prim.Native.Nat.{ℕ, ◌<◌}
use mathlib.Core.Path.{◌≡◌, refl, ap, ◌∙◌}
use mathlib.Core.List.{List}
use mathlib.Core.Bool.{Bool, true, false}
use native.Mathlib.Omega.{arith}
use native.Mathlib.Decide.{ℕ_discrete}
use borrow.Author.Tests.{eq-eqb, ne_eqb, eqb-false, not-true}
use lib.Dec.{eqb}
use lib.ListN.{length, get_or}
use Rattle.octets.specs.declared.number.Number.TheVariants.{Done}
use Rattle.octets.specs.Checks.{first_failed}
use Rattle.octets.proofs.Checks.{first_failed_lem}
use Rattle.records.specs.Pending.{cookie_sent}
use Rattle.tables.specs.Calls.{has_ike}
use Rattle.tables.specs.Tables.{Tables}
use Rattle.values.specs.Values.{part_of}
use Rattle.reader.specs.Chain.{reading}
use Rattle.reader.specs.declared.read.Reading.{Reading}
use Rattle.reader.proofs.Refused.{broken_of}
use Rattle.initiator.specs.Response.{outcome_number, no_outcome, response_checks, offset_told, ordinal_told, refusal}
use Rattle.initiator.specs.Response.{outcome_of, assessment}
use Rattle.initiator.specs.declared.response.Assessment.{Assessment}
use Rattle.initiator.specs.declared.response.Outcome.{Outcome}
use Rattle.initiator.specs.declared.response.Outcome.TheVariants.{Close, NatSeen, Unacceptable, Failed, Accepted}
use Rattle.routability.specs.Routability.{CheckResponse, check_response_checks, early_response, check_told, checked}
use Rattle.routability.specs.Routability.{after_response}
use Rattle.routability.proofs.Passed.{passed}
use Rattle.routability.proofs.Ended.{told_counts}
use Rattle.routability.proofs.Laws.{entry, told, told_is}
use Rattle.numbers.specs.Numbers.{Some}
use Rattle.numbers.specs.Responses.{ResponseRow, response_row, response_rows, no_payloads, unchanged, as_judged}
use Rattle.numbers.specs.Responses.{GivesBack, ResponsesAsTheTable}
use Rattle.numbers.proofs.Numbers.{some_at}

-- what is told for an outcome is not what is told for none
outcome_told : (o : Outcome) → outcome_number o ≡ no_outcome → ⊥
outcome_told Close e = omega arith
outcome_told NatSeen e = omega arith
outcome_told Unacceptable e = omega arith
outcome_told Failed e = omega arith
outcome_told Accepted e = omega arith

abbrev row_at : ℕ → ResponseRow
row_at k = get_or response_rows k (response_row Done no_payloads unchanged)

module _ (t : Tables) (q : CheckResponse) where
  abbrev Found : Type 0
  Found = Some (GivesBack t q) response_rows

  abbrev early : ℕ
  early = early_response (length t.ipsec) (has_ike q.spi t.ike) (entry t q) q

  abbrev sent : List ℕ
  sent = cookie_sent (entry t q).check

  at : (k : ℕ) → k < length response_rows → (told t q).number ≡ (row_at k).number
      → (told t q).payloads ≡ (row_at k).payloads q → after_response q t ≡ (row_at k).tables q t → Found
  at k l n p s =
      some_at (GivesBack t q) (response_row Done no_payloads unchanged) response_rows k l
      (record {
        number = ap (λ (a : Assessment). a.number) (told_is t q) ∙ n;
        payloads = ap (λ (a : Assessment). a.payloads) (told_is t q) ∙ p;
        left = s;
      })

  -- a refusal, whichever its number
  module _ (n offset ordinal : ℕ) (is : told t q ≡ refusal n offset ordinal) where
    stays : after_response q t ≡ t
    unfolding after_response checked
    stays = rw (ap (λ (a : Assessment). a.outcome) is)

    refused : (k : ℕ) → k < length response_rows → n ≡ (row_at k).number → 0 ≡ (row_at k).payloads q
        → t ≡ (row_at k).tables q t → Found
    refused k l e p s =
        at k l (ap (λ (a : Assessment). a.number) is ∙ e) (ap (λ (a : Assessment). a.payloads) is ∙ p) (stays ∙ s)

  early_row : (early ≡ 0 → ⊥) → Found
  unfolding early_response check_told
  early_row n =
      first_failed_lem (λ (k : ℕ). early ≡ k → Found)
      (check_response_checks (length t.ipsec) (has_ike q.spi t.ike) (entry t q) q) (
        λ f e. refused early 0 0 is 1 (omega arith) e refl refl,
        (
          λ f e. refused early 0 0 is 1 (omega arith) e refl refl,
          (
            λ f e. refused early 0 0 is 2 (omega arith) e refl refl,
            (
              λ f e. refused early 0 0 is 3 (omega arith) e refl refl,
              (
                λ f e. refused early 0 0 is 3 (omega arith) e refl refl,
                (
                  λ f e. refused early 0 0 is 4 (omega arith) e refl refl,
                  (λ f e. refused early 0 0 is 5 (omega arith) e refl refl, λ e. absurd (n e)),
                ),
              ),
            ),
          ),
        ),
      ) refl
    where
      is : told t q ≡ refusal early 0 0
      is = rw (ne_eqb early 0 n)

  module _ (passes : early ≡ 0) where
    judged : told t q ≡ assessment sent q.first q.body
    unfolding check_told
    judged = rw (eq-eqb early 0 passes)

    -- what the judge makes of it, the number of its own checks, and what it reads
    abbrev a : Assessment
    a = assessment sent q.first q.body

    abbrev late : ℕ
    late = first_failed (response_checks sent q.first q.body)

    abbrev r : Reading
    r = reading q.first q.body

    not_judged : (late ≡ 0 → ⊥) → told t q ≡ refusal late (offset_told late r) (ordinal_told late r)
    unfolding assessment
    not_judged n = judged ∙ (rw (ne_eqb late 0 n))

    late_row : (late ≡ 0 → ⊥) → Found
    late_row n =
        first_failed_lem (λ (k : ℕ). late ≡ k → Found) (response_checks sent q.first q.body) (
          λ f e. refused late _ _ is 1 (omega arith) e refl refl,
          (
            λ f e. refused late _ _ is 2 (omega arith) e refl refl,
            (λ f. broken (eqb-false _ 0 (not-true _ f)), λ e. absurd (n e)),
          ),
        ) refl
      where
        is : told t q ≡ refusal late (offset_told late r) (ordinal_told late r)
        is = not_judged n

        broken : (r.number ≡ 0 → ⊥) → late ≡ r.number → Found
        broken z =
            broken_of (λ (k : ℕ). late ≡ k → Found)
            (record {
              chain_length = λ e. refused late _ _ is 6 (omega arith) e refl refl;
              notify = λ e. refused late _ _ is 7 (omega arith) e refl refl;
              data_size_lem = λ e. refused late _ _ is 8 (omega arith) e refl refl;
              repeated = λ e. refused late _ _ is 9 (omega arith) e refl refl;
              octets_after_end = λ e. refused late _ _ is 10 (omega arith) e refl refl;
              critical = λ e. refused late _ _ is 11 (omega arith) e refl refl;
            })
            q.first q.body (passed _ _ _ q passes).short z

    -- a number of 0 comes with an outcome
    with_outcome : late ≡ 0 → (a.number ≡ 0) × (a.outcome ≡ no_outcome → ⊥)
    unfolding assessment
    with_outcome z =
        let got = part_of q.body r.seen.cookie r.seen.cookie_len in
        rw (eq-eqb late 0 z) (refl, outcome_told (outcome_of sent got r.seen.tally))

    as_judged_lem : (a.outcome ≡ no_outcome → ⊥) → after_response q t ≡ as_judged q t
    unfolding after_response checked
    as_judged_lem n =
        go (eqb a.outcome (outcome_number Close)) refl (eqb a.outcome (outcome_number Accepted)) refl
      where
        go : (b : Bool) → eqb a.outcome (outcome_number Close) ≡ b
            → (c : Bool) → eqb a.outcome (outcome_number Accepted) ≡ c → after_response q t ≡ as_judged q t
        go true e c f = rw (judged, ne_eqb a.outcome no_outcome n, e)
        go false e true f = rw (judged, ne_eqb a.outcome no_outcome n, e, f)
        go false e false f = rw (judged, ne_eqb a.outcome no_outcome n, e, f)

    done_row : late ≡ 0 → Found
    done_row z =
        let o = with_outcome z in
        let number = ap (λ (x : Assessment). x.number) judged ∙ o.0 in
        at 0 (omega arith) number (told_counts t.ike t.ipsec q number) (as_judged_lem o.1)

    found : Found
    found = go (ℕ_discrete late 0)
      where
        go : Dec (late ≡ 0) → Found
        go (yes z) = done_row z
        go (no n) = late_row n

  row : Found
  row = go (ℕ_discrete early 0)
    where
      go : Dec (early ≡ 0) → Found
      go (yes e) = found e
      go (no n) = early_row n

pub responses_as_the_table : ResponsesAsTheTable
responses_as_the_table = row
