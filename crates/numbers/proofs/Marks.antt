-- Under requests a record's update mark never falls, and its pair moves only with an update whose ID exceeds the mark.
use Prim.Native.Nat.{ℕ, ◌<◌, ◌≤◌}
use mathlib.Core.Path.{◌≡◌, refl, sym, ap, ◌∙◌}
use mathlib.Core.Logic.{◌⊎◌, inl, inr, ⊎_elim}
use mathlib.Core.List.{List, [], ◌∷◌}
use mathlib.Core.Bool.{Bool, true, false}
use native.Mathlib.Omega.{arith}
use native.Mathlib.Decide.{ℕ_discrete}
use borrow.Author.Tests.{leb-true, ltb-true}
use lib.Dec.{leb}
use lib.ListN.{length}
use lib.Seq.{get_or-set_same, get_or-set_other}
use Rattle.octets.proofs.Small.{both}
use Rattle.octets.proofs.Places.{place_has}
use Rattle.order.specs.Order.{after}
use Rattle.policy.specs.declared.rules.Policy.{Policy}
use Rattle.records.specs.Records.{ike_spi, no_ike}
use Rattle.tables.specs.Tables.{Tables}
use Rattle.records.specs.declared.ike.IkeRecord.{IkeRecord}
use Rattle.records.specs.declared.ike.Marks.{Marks}
use Rattle.checking.specs.Checks.{Request}
use Rattle.responder.specs.Handle.{seen_in, after_request}
use Rattle.checking.proofs.Checks.{passed}
use Rattle.numbers.specs.Numbers.{applies, Some}
use Rattle.numbers.specs.Marks.{record_at, Moves, MarkKept, MarksKept, Sent, taken, NeverLate, NoneLate}
use Rattle.numbers.proofs.Cores.{entry_by}
use Rattle.numbers.proofs.Ways.{place, entry, Changes, Way, stays, changes, way}

module _ (policies : List Policy) (t : Tables) (q : Request) (i : ℕ) where
  unchanged : after_request policies q t ≡ t → MarkKept policies t q i
  unchanged e = record { spi = rw e; operator = rw e; rises = rw e (omega arith); moved = inl (rw e) }

  -- an update that counts carries an ID that exceeds the mark
  newer : applies q (entry t q) ≡ true → ((seen_in q).update ≡ true) × ((entry t q).update_mark ≤ q.asks.id)
  newer e = let b = both (seen_in q).update (leb (entry t q).update_mark q.asks.id) e in
      (b.0, leb-true _ _ b.1)

  module _ (u l : Bool) (m : Marks) (c : Changes policies t q u l m) where
    raised : (entry t q).update_mark ≤ m.update_mark
    raised = ⊎_elim (λ e. omega arith) (λ e. omega (arith, (newer e.0).1, e.1)) c.update_mark

    here : place t q < length t.ike
    here = ltb-true _ _ (passed _ _ _ q c.passes).found

    own : (entry t q).agreed.operator ≡ q.operator
    own = (passed _ _ _ q c.passes).own

    changed : MarkKept policies t q i
    changed = go (ℕ_discrete i (place t q))
      where
        by : (b : Bool) → (b ≡ true → applies q (entry t q) ≡ true) → i ≡ place t q
            → let e = entry_by q (entry t q) b l m in
            (e.pair ≡ (entry t q).pair) ⊎ ((i ≡ place t q) × Moves (entry t q) e q)
        by true c e = let n = newer (c refl) in
            inr (
              e,
              record {
                spi = place_has ike_spi q.spi t.ike no_ike here;
                own = own;
                update = n.0;
                newer = n.1;
                pair = refl;
              },
            )
        by false c e = inl refl

        go : Dec (i ≡ place t q) → MarkKept policies t q i
        go (yes e) =
            let now : record_at i (after_request policies q t) ≡ entry_by q (entry t q) u l m =
            rw (c.is, e) (get_or-set_same t.ike (place t q) (entry_by q (entry t q) u l m) no_ike here) in
            let was : record_at i t ≡ entry t q = ap (λ (j : ℕ). record_at j t) e in
            record {
              spi = rw (now, was);
              operator = rw (now, was);
              rises = rw (now, was) raised;
              moved = rw (now, was) (by u c.moves e);
            }
        go (no n) =
            let now : record_at i (after_request policies q t) ≡ record_at i t =
            rw c.is (get_or-set_other t.ike (place t q) i (entry_by q (entry t q) u l m) no_ike n) in
            record { spi = rw now; operator = rw now; rises = rw now (omega arith); moved = inl (rw now) }

  kept : MarkKept policies t q i
  kept = go (way policies t q)
    where
      go : Way policies t q → MarkKept policies t q i
      go (stays e) = unchanged e
      go (changes u l m c) = changed u l m c

pub marks_kept : MarksKept
marks_kept = kept

-- one request before others: the last that moved the record had an ID above a mark that was no lower than at the start
module _ (t : Tables) (x : Sent) (xs : List Sent) (i : ℕ) (rest : NeverLate (taken x t) xs i) where
  abbrev end : IkeRecord
  end = record_at i (after taken (taken x t) xs)

  first : MarkKept x.policies t x.request i
  first = kept x.policies t x.request i

  abbrev Moved : IkeRecord → Sent → Type 0
  Moved before y = Moves before end y.request

  still_newer : (ys : List Sent) → Some (Moved (record_at i (taken x t))) ys → Some (Moved (record_at i t)) ys
  still_newer [] f = f
  still_newer (y ∷ ys) f =
      ⊎_elim (λ m. inl
      (record {
        spi = sym first.spi ∙ m.spi;
        own = sym first.operator ∙ m.own;
        update = m.update;
        newer = omega (arith, first.rises, m.newer);
        pair = m.pair;
      }))
      (λ m. inr (still_newer ys m)) f

  unmoved : end.pair ≡ (record_at i (taken x t)).pair
      → (end.pair ≡ (record_at i t).pair) ⊎ Some (Moved (record_at i t)) (x ∷ xs)
  unmoved e =
      ⊎_elim (λ f. inl (e ∙ f))
      (λ m. inr (inl
      (record {
        spi = m.1.spi;
        own = m.1.own;
        update = m.1.update;
        newer = m.1.newer;
        pair = e ∙ m.1.pair;
      })))
      first.moved

  one_more : NeverLate t (x ∷ xs) i
  one_more =
      record {
        rises = omega (arith, first.rises, rest.rises);
        moved = ⊎_elim unmoved
            (λ f. inr (inr (still_newer xs f))) rest.moved;
      }

pub none_late : NoneLate
none_late t [] i = record { rises = omega arith; moved = inl refl }
none_late t (x ∷ xs) i = one_more t x xs i (none_late (taken x t) xs i)
