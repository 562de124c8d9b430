-- Every clone request gives back a row of its table of numbers.
use Prim.Native.Nat.{ℕ, ◌<◌}
use mathlib.Core.Path.{◌≡◌, refl, ap, ◌∙◌}
use mathlib.Core.List.{List, []}
use mathlib.Core.Bool.{true, false}
use native.Mathlib.Omega.{arith}
use native.Mathlib.Decide.{ℕ_discrete}
use borrow.Author.Tests.{eq-eqb, ne_eqb, eqb-false, not-true}
use lib.Dec.{eqb}
use lib.ListN.{length, get_or}
use Rattle.octets.specs.declared.number.Number.TheVariants.{Done}
use Rattle.octets.proofs.Checks.{first_failed_lem}
use Rattle.writing.specs.Notify.{Notification, first_type, chained}
use Rattle.records.specs.declared.ike.IkeRecord.{IkeRecord}
use Rattle.tables.specs.Calls.{has_ike}
use Rattle.findings.specs.declared.seen.Seen.{Seen}
use Rattle.reader.specs.declared.read.Reading.{Reading}
use Rattle.answering.specs.Core.{chain_error}
use Rattle.clone_chain.proofs.Counted.{clone_counts, clone_refused, clone_broken_of}
use Rattle.cloning.specs.Clone.{CloneRequest, early_clone_checks, early_clone, late_clone_checks, late_clone, clone_notifies}
use Rattle.cloning.proofs.Cloned.{original, records, own, read, early, late}
use Rattle.numbers.specs.Numbers.{Some}
use Rattle.numbers.proofs.Numbers.{some_at}
use Rattle.clone_numbers.specs.CloneNumbers.{CloneRow, clone_row, clone_rows, nothing, syntax_error}
use Rattle.clone_numbers.specs.CloneNumbers.{no_payloads, all_payloads, unchanged, CloneGives, CloneAsTheTable}
use Rattle.clone_numbers.proofs.Ways.{ComesTo, Answered, refused_early, refused_late, done}

abbrev row_at : ℕ → CloneRow
row_at k = get_or clone_rows k (clone_row Done nothing no_payloads unchanged)

module _ (ike : List IkeRecord) (q : CloneRequest) where
  abbrev Found : Type 0
  Found = Some (CloneGives ike q) clone_rows

  at : (k : ℕ) → k < length clone_rows
      → {n : ℕ} {xs : List Notification} {counted : ℕ} {after : List IkeRecord} → ComesTo ike q n xs counted after
      → n ≡ (row_at k).number → xs ≡ (row_at k).response q → counted ≡ (row_at k).payloads q → after ≡ (row_at k).ike q ike
      → Found
  at k l c n o p s =
      some_at (CloneGives ike q) (clone_row Done nothing no_payloads unchanged) clone_rows k l
      (record {
        number = c.number ∙ n;
        octets = c.octets ∙ ap (λ (xs : List Notification). chained xs 0) o;
        first = c.first ∙ ap (λ (xs : List Notification). first_type xs 0) o;
        long = c.long ∙ ap (λ (xs : List Notification). length (chained xs 0)) o;
        payloads = c.payloads ∙ p;
        left = c.left ∙ s;
      })

  early_row : (early ike q ≡ 0 → ⊥) → Found
  unfolding early_clone
  early_row n =
      first_failed_lem (λ (k : ℕ). early ike q ≡ k → Found) (early_clone_checks (has_ike q.spi ike) (original ike q) q) (
        λ f e. at 1 (omega arith) c e refl refl refl,
        (
          λ f e. at 1 (omega arith) c e refl refl refl,
          (
            λ f e. at 2 (omega arith) c e refl refl refl,
            (
              λ f e. at 3 (omega arith) c e refl refl refl,
              (
                λ f e. at 4 (omega arith) c e refl refl refl,
                (
                  λ f e. at 4 (omega arith) c e refl refl refl,
                  (λ f e. at 5 (omega arith) c e refl refl refl, λ e. absurd (n e)),
                ),
              ),
            ),
          ),
        ),
      ) refl
    where
      c : ComesTo ike q (early ike q) [] 0 ike
      c = refused_early ike q n

  module _ (passes : early ike q ≡ 0) where
    abbrev r : Reading
    r = (read ike q).reading

    -- refused by its chain: its number is the reading's
    module _ (n : r.number ≡ 0 → ⊥) where
      late_is : late ike q ≡ r.number
      unfolding late_clone
      late_is = rw (ne_eqb r.number 0 n)

      c : Answered ike q (late ike q) ike
      c = refused_late ike q passes (λ z. n (rw late_is at z))

      none_counted : r.seen.tally.payloads ≡ 0
      none_counted = ap (λ (s : Seen). s.tally.payloads) (clone_refused q.first q.body n)

      chain_row : Found
      unfolding clone_notifies chain_error
      chain_row =
          clone_broken_of q.first q.body (λ (k : ℕ). r.number ≡ k → Found)
          (record {
            chain_length = λ f. malformed 6 (omega arith) f refl refl refl refl;
            notify = λ f. malformed 7 (omega arith) f refl refl refl refl;
            data_size_lem = λ f. malformed 8 (omega arith) f refl refl refl refl;
            repeated = λ f. malformed 9 (omega arith) f refl refl refl refl;
            octets_after_end = λ f. malformed 10 (omega arith) f refl refl refl refl;
            critical =
                λ f. at 11 (omega arith) c (late_is ∙ f)
                (rw (ne_eqb r.number 0 n, eq-eqb r.number 7 f)) none_counted refl;
          })
          n refl
        where
          malformed : (k : ℕ) → k < length clone_rows → r.number ≡ (row_at k).number → eqb (row_at k).number 7 ≡ false
              → syntax_error q ≡ (row_at k).response q → 0 ≡ (row_at k).payloads q → ike ≡ (row_at k).ike q ike → Found
          malformed k l f other o p s =
              let seven : eqb r.number 7 ≡ false = rw f other in
              at k l c (late_is ∙ f) (rw (ne_eqb r.number 0 n, seven) o) (none_counted ∙ p) s

    -- read whole
    module _ (w : r.number ≡ 0) where
      whole : eqb r.number 0 ≡ true
      whole = eq-eqb r.number 0 w

      -- refused behind its chain
      behind : (k : ℕ) → k < length clone_rows → late ike q ≡ (row_at k).number → eqb (row_at k).number 0 ≡ false
          → clone_notifies (row_at k).number r ≡ (row_at k).response q → all_payloads q ≡ (row_at k).payloads q
          → ike ≡ (row_at k).ike q ike → Found
      behind k l e other o p s =
          at k l (refused_late ike q passes (eqb-false (late ike q) 0 (rw e other))) e (rw e o)
          (clone_counts q.first q.body w ∙ p) s

      whole_row : Found
      unfolding late_clone clone_notifies
      whole_row =
          first_failed_lem (λ (k : ℕ). late ike q ≡ k → Found)
          (late_clone_checks (read ike q) (original ike q) (has_ike 0 ike) (records ike q) (has_ike q.new_spi ike)
          (own ike q)) (
            λ f e. absurd (eqb-false _ 0 (not-true _ f) w),
            (
              λ f e. behind 12 (omega arith) e refl (rw whole) refl refl,
              (
                λ f e. behind 13 (omega arith) e refl (rw whole) refl refl,
                (
                  λ f e. behind 14 (omega arith) e refl (rw whole) refl refl,
                  (
                    λ f e. behind 15 (omega arith) e refl (rw whole) refl refl,
                    (
                      λ f e. behind 16 (omega arith) e refl (rw whole) refl refl,
                      λ e. at 0 (omega arith) (done ike q passes e) refl (rw whole)
                          (clone_counts q.first q.body w) refl,
                    ),
                  ),
                ),
              ),
            ),
          ) refl

    read_row : Found
    read_row = go (ℕ_discrete r.number 0)
      where
        go : Dec (r.number ≡ 0) → Found
        go (yes w) = whole_row w
        go (no n) = chain_row n

  row : Found
  row = go (ℕ_discrete (early ike q) 0)
    where
      go : Dec (early ike q ≡ 0) → Found
      go (yes e) = read_row e
      go (no n) = early_row n

pub clone_as_the_table : CloneAsTheTable
clone_as_the_table = row
