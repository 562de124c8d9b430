-- Requests keep tables well-formed.
use Prim.Native.Nat.{ℕ, ◌<◌, ◌≤◌, min}
use mathlib.Core.Path.{◌≡◌, refl}
use mathlib.Core.Logic.{⊎_elim}
use mathlib.Core.List.{List}
use mathlib.Core.Bool.{Bool, true, false, cond}
use native.Mathlib.Omega.{arith}
use borrow.Author.Tests.{eqb-false, ltb-true, not-true}
use lib.ListN.{length, get_or}
use Rattle.octets.specs.Limits.{addresses_most}
use Rattle.octets.proofs.Small.{chosen}
use Rattle.address.specs.Address.{no_address, pair_fits}
use Rattle.address.specs.declared.address.Address.{Address}
use Rattle.address.specs.declared.pair.Pair.{Pair}
use Rattle.values.specs.Values.{addresses_in}
use Rattle.policy.specs.declared.rules.Policy.{Policy}
use Rattle.tables.specs.Tables.{Tables}
use Rattle.records.specs.declared.ike.Marks.{Marks}
use Rattle.checking.specs.Checks.{Request}
use Rattle.responder.specs.Handle.{after_request, seen_in}
use Rattle.checking.proofs.Checks.{passed}
use Rattle.numbers.proofs.Cores.{entry_by}
use Rattle.numbers.proofs.Ways.{place, entry, early, Changes, Way, stays, changes, way}
use Rattle.reached.specs.WellFormed.{is_family, CheckBounds, IkeBounds, WellFormed}
use Rattle.reached.specs.Reached.{LentWith, requests, after_call}
use Rattle.reached.proofs.Checks.{check_bounds}
use Rattle.reached.proofs.Lists.{families_known}
use Rattle.reached.proofs.Stored.{Keeps, Held, held, ike_changed}

abbrev Families : ℕ → List Address → Type 0
Families n addresses = (i : ℕ) → i < n → is_family (get_or addresses i no_address).family ≡ true

module _ (policies : List Policy) (q : Request) (typed : LentWith q) (t : Tables) (w : WellFormed t) where
  module _ (passes : early t q ≡ 0) where
    there : place t q < length t.ike
    there = ltb-true _ _ (passed _ _ _ q passes).found

    meant_held : Held t.ike q.spi
    meant_held = held t w q.spi (eqb-false q.spi 0 (not-true _ (passed _ _ _ q passes).named)) there

    pair_fits_lem : pair_fits q.asks.pair ≡ true
    pair_fits_lem = (passed _ _ _ q passes).pair

  module _ (u l : Bool) (m : Marks) (c : Changes policies t q u l m) where
    in_bounds : IkeBounds (entry_by q (entry t q) u l m)
    in_bounds =
        let old = (meant_held c.passes).fits in
        record {
          agreed = old.agreed;
          pair = chosen (λ (p : Pair). pair_fits p ≡ true) u (λ e. pair_fits_lem c.passes) (λ e. old.pair);
          update_mark =
              ⊎_elim (λ e. omega (arith, old.update_mark)) (λ e. omega (arith, e.1, typed.id)) c.update_mark;
          list_mark = ⊎_elim (λ e. omega (arith, old.list_mark)) (λ e. omega (arith, typed.id)) c.list_mark;
          count = chosen (λ (n : ℕ). n ≤ addresses_most) l (λ e. omega arith) (λ e. old.count);
          families = listed old.families l;
          tally = c.tally;
          check = chosen CheckBounds u (λ e. lent) (λ e. old.check);
          deleting = old.deleting;
        }
      where
        lent : CheckBounds q.asks.check
        lent = rw typed.check (check_bounds typed.cookie typed.check_id typed.check_id_fits)

        listed : Families (entry t q).count (entry t q).addresses → (b : Bool)
            → Families (cond b (min (seen_in q).list.count addresses_most) (entry t q).count)
            (cond b (addresses_in q.asks.body (seen_in q).list) (entry t q).addresses)
        listed h true = families_known q.asks.first q.asks.body
        listed h false = h

    changed : WellFormed (after_request policies q t)
    changed =
        let named = (meant_held c.passes).named in
        rw c.is
        (ike_changed t w (place t q) (entry_by q (entry t q) u l m) (there c.passes) named refl in_bounds)

  kept : Way policies t q → WellFormed (after_request policies q t)
  kept (stays e) = rw e w
  kept (changes u l m c) = changed u l m c

pub requests_keeps : (policies : List Policy) (q : Request) → LentWith q
    → Keeps (λ (t : Tables). after_call t (requests policies q))
unfolding after_call
requests_keeps policies q typed t w = kept policies q typed t w (way policies t q)
