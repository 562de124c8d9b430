-- Every request gives back a row of 01's table of numbers.
use Prim.Native.Nat.{ℕ, zero, suc, ◌<◌}
use mathlib.Core.Path.{◌≡◌, refl, ap, ◌∙◌}
use mathlib.Core.Logic.{inl, inr, ⊎_elim}
use mathlib.Core.List.{List, [], ◌∷◌}
use native.Mathlib.Omega.{arith}
use native.Mathlib.Decide.{ℕ_discrete}
use borrow.Author.Tests.{eq-eqb}
use mathlib.Core.Bool.{false}
use lib.Dec.{eqb}
use lib.ListN.{length, get_or}
use Rattle.octets.specs.declared.number.Number.TheVariants.{Done}
use Rattle.policy.specs.declared.rules.Policy.{Policy}
use Rattle.records.specs.Records.{marks_in}
use Rattle.tables.specs.Tables.{Tables}
use Rattle.writing.specs.Notify.{Notification, first_type, chained}
use Rattle.answering.specs.Core.{chain_error, decision_on}
use Rattle.checking.specs.Checks.{Request}
use Rattle.responder.specs.Handle.{accepts}
use Rattle.reader.specs.Chain.{reading}
use Rattle.reader.proofs.Refused.{broken_of}
use Rattle.checking.proofs.Checks.{passed, early_of}
use Rattle.numbers.specs.Numbers.{same, none, syntax_error, NumberRow, number_row, number_rows}
use Rattle.numbers.specs.Numbers.{Some, Gives, AsTheTable}
use Rattle.numbers.proofs.Decisions.{Decides, done, refused, decides}
use Rattle.numbers.proofs.Cores.{chain_number}
use Rattle.numbers.proofs.Ways.{early, entry, ComesTo, refused_early, refused_chain, decided_here}

-- what an element has, some element has
pub some_at : {A : Type 0} (P : A → Type 0) (d : A) (xs : List A) (k : ℕ) → k < length xs → P (get_or xs k d) → Some P xs
some_at P d [] k l p = absurd (omega arith)
some_at P d (x ∷ xs) zero l p = inl p
some_at P d (x ∷ xs) (suc k) l p = inr (some_at P d xs k (omega arith) p)

abbrev octets_of : List Notification → List ℕ
octets_of xs = chained xs 0

abbrev row_at : ℕ → NumberRow
row_at k = get_or number_rows k (number_row Done none same)

module _ (policies : List Policy) (t : Tables) (q : Request) where
  abbrev Found : Type 0
  Found = Some (Gives policies t q) number_rows

  at : (k : ℕ) → k < length number_rows → {n : ℕ} {xs : List Notification} {s : Tables} → ComesTo policies t q n xs s
      → n ≡ (row_at k).number → xs ≡ (row_at k).response q → s ≡ (row_at k).tables q t → Found
  at k l c n o s =
      some_at (Gives policies t q) (number_row Done none same) number_rows k l
      (record {
        number = c.number ∙ n;
        octets = c.octets ∙ ap octets_of o;
        first = c.first ∙ ap (λ (xs : List Notification). first_type xs 0) o;
        long = c.long ∙ ap (λ (xs : List Notification). length (octets_of xs)) o;
        left = c.after ∙ s;
      })

  early_row : (early t q ≡ 0 → ⊥) → Found
  early_row n =
      early_of _ _ _ q (λ (k : ℕ). early t q ≡ k → Found) (
        λ f e. at 1 (omega arith) c e refl refl,
        (
          λ f e. at 1 (omega arith) c e refl refl,
          (
            λ f e. at 2 (omega arith) c e refl refl,
            (
              λ f e. at 3 (omega arith) c e refl refl,
              (
                λ f e. at 4 (omega arith) c e refl refl,
                (
                  λ f e. at 4 (omega arith) c e refl refl,
                  (λ f e. at 5 (omega arith) c e refl refl, λ e. absurd (n e)),
                ),
              ),
            ),
          ),
        ),
      ) refl
    where
      c : ComesTo policies t q (early t q) [] t
      c = refused_early policies t q n

  chain_row : early t q ≡ 0 → (chain_number q ≡ 0 → ⊥) → Found
  unfolding chain_error
  chain_row e n =
      broken_of (λ (k : ℕ). chain_number q ≡ k → Found)
      (record {
        chain_length = λ f. malformed 6 (omega arith) f refl refl refl;
        notify = λ f. malformed 7 (omega arith) f refl refl refl;
        data_size_lem = λ f. malformed 8 (omega arith) f refl refl refl;
        repeated = λ f. malformed 9 (omega arith) f refl refl refl;
        octets_after_end = λ f. malformed 10 (omega arith) f refl refl refl;
        critical = λ f. at 11 (omega arith) c f (rw (eq-eqb (chain_number q) 7 f)) refl;
      })
      q.asks.first q.asks.body (passed _ _ _ q e).short n refl
    where
      c : ComesTo policies t q (chain_number q) (chain_error (reading q.asks.first q.asks.body)) t
      c = refused_chain policies t q e n

      malformed : (k : ℕ) → k < length number_rows → chain_number q ≡ (row_at k).number → eqb (row_at k).number 7 ≡ false
          → syntax_error q ≡ (row_at k).response q → t ≡ (row_at k).tables q t → Found
      malformed k l f other o s =
          let seven : eqb (chain_number q) 7 ≡ false = rw f other in
          at k l c f (rw seven o) s

  whole_row : early t q ≡ 0 → chain_number q ≡ 0
      → Decides (accepts policies q) q (marks_in (entry t q))
      (decision_on (accepts policies q) q.asks (marks_in (entry t q))) → Found
  whole_row e w (done c) = at 0 (omega arith) (decided_here policies t q e w c) refl refl refl
  whole_row e w (refused v which r) =
      let c = decided_here policies t q e w r.comes in
      ⊎_elim (λ f. at 12 (omega arith) c (rw f) (rw f) refl) (λ f. at 13 (omega arith) c (rw f) (rw f) refl) which

  found : Found
  found = go (ℕ_discrete (early t q) 0) (ℕ_discrete (chain_number q) 0)
    where
      go : Dec (early t q ≡ 0) → Dec (chain_number q ≡ 0) → Found
      go (no n) d = early_row n
      go (yes e) (no n) = chain_row e n
      go (yes e) (yes w) = whole_row e w (decides (accepts policies q) q (marks_in (entry t q)))

pub as_the_table : AsTheTable
as_the_table = found
