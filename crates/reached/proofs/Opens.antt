-- Openings keep tables well-formed.
use Prim.Native.Nat.{ℕ, ◌<◌, ◌≤◌}
use mathlib.Core.Path.{◌≡◌, refl, sym, ap, ◌∙◌}
use mathlib.Core.Logic.{⊎_elim}
use mathlib.Core.List.{List}
use mathlib.Core.Bool.{Bool, true, false, not}
use native.Mathlib.Omega.{arith}
use borrow.Author.Tests.{eqb-true, eqb-false, not-false}
use lib.Dec.{eqb}
use lib.ListN.{length, get_or, set, length-set}
use Rattle.octets.specs.Flags.{is_yes, zero_or_one}
use Rattle.octets.specs.Checks.{Check, first_failed}
use Rattle.octets.specs.Lists.{place_of}
use Rattle.octets.specs.Operators.{is_operator}
use Rattle.octets.proofs.Checks.{all_passed}
use Rattle.octets.proofs.Small.{both, chosen}
use Rattle.address.specs.Address.{pair_fits}
use Rattle.address.specs.declared.pair.Pair.{Pair}
use Rattle.records.specs.Records.{ike_spi, ipsec_spi, settled, fresh_ike, no_ike, new_ipsec, no_ipsec}
use Rattle.records.specs.declared.ike.Agreed.{Agreed}
use Rattle.tables.specs.Opening.{ike_of, child_of}
use Rattle.tables.specs.Calls.{TablesAnswer, list_fits, opening_checks, open_both}
use Rattle.tables.specs.Tables.{Tables}
use Rattle.tables.specs.Opened.{BothOpened}
use Rattle.tables.specs.declared.calls.Opening.{Opening}
use Rattle.tables.proofs.Lookup.{finds_opened}
use Rattle.tables.proofs.Cases.{IpsecOpened, both_or_neither, open_ipsec_cases}
use Rattle.reached.specs.WellFormed.{peer_numbers, AgreedBounds, IkeBounds, WellFormed}
use Rattle.reached.specs.Reached.{opens_both, opens_ipsec, after_call}
use Rattle.reached.proofs.Checks.{none_bounds}
use Rattle.reached.proofs.Consistent.{opened}
use Rattle.reached.proofs.Stored.{Keeps, held, owned_beside, owned_stored}

zero_or_one_lem : (n : ℕ) → zero_or_one n ≤ 1
zero_or_one_lem n = chosen (λ (x : ℕ). x ≤ 1) (is_yes n) (λ e. omega arith) (λ e. omega arith)

settled_bounds : (a : Agreed) → is_operator a.operator ≡ true → a.peer < peer_numbers → AgreedBounds (settled a)
settled_bounds a e l =
    record { mobike = zero_or_one_lem a.mobike; cloning = zero_or_one_lem a.cloning; operator = e; peer = l }

-- a new record and a clone have no marks, an empty list, no tally and no check
pub fresh_bounds : (spi : ℕ) (a : Agreed) (p : Pair) → AgreedBounds a → pair_fits p ≡ true
    → IkeBounds (fresh_ike spi a p)
fresh_bounds spi a p b e =
    record {
      agreed = b;
      pair = e;
      update_mark = omega arith;
      list_mark = omega arith;
      count = omega arith;
      families = λ i l. absurd
          (omega arith);
      tally = omega arith;
      check = none_bounds;
      deleting = omega arith;
    }

-- an opening that is done names an operator
pub names_operator : (t : Tables) (o : Opening) → BothOpened t.ike t.ipsec o
    → is_operator o.agreed.operator ≡ true
unfolding open_both
names_operator t o b = go (eqb number 0) refl
  where
    checks : List Check
    checks = opening_checks t.ike t.ipsec o

    number : ℕ
    number = first_failed checks

    go : (x : Bool) → eqb number 0 ≡ x → is_operator o.agreed.operator ≡ true
    go false e =
        let told : (open_both t.ike t.ipsec o).number ≡ number = rw e in
        absurd (eqb-false number 0 e (sym told ∙ ap (λ (a : TablesAnswer). a.number) b.is))
    go true e =
        let fits = not-false _ (all_passed checks refl (eqb-true number 0 e)).0 in
        let spis = (both (list_fits t.ipsec) _ fits).1 in
        let child = (both (not (eqb o.spi 0)) _ spis).1 in
        (both (is_operator o.agreed.operator) _ (both (not (eqb o.child 0)) _ child).1).0

module _ (t : Tables) (w : WellFormed t) where
  opened_both : (o : Opening) → o.agreed.peer < peer_numbers → BothOpened t.ike t.ipsec o
      → WellFormed (after_call t (opens_both o))
  unfolding after_call
  opened_both o typed b =
      let p = place_of ike_spi 0 t.ike in
      let q = place_of ipsec_spi 0 t.ipsec in
      let found = finds_opened ike_spi no_ike t.ike (ike_of o) b.room b.new in
      let there : place_of ike_spi o.spi (set t.ike p (ike_of o)) < length (set t.ike p (ike_of o)) =
      rw (found, length-set t.ike p (ike_of o)) b.room in
      rw b.is
      (record {
        ikes = opened ike_spi no_ike t.ike w.ikes p (ike_of o) b.named b.new
            (fresh_bounds o.spi (settled o.agreed) o.pair
            (settled_bounds o.agreed (names_operator t o b) typed) b.fits);
        ipsecs = opened ipsec_spi no_ipsec t.ipsec w.ipsecs q (child_of o) b.child_named b.child_new
            (record { pair = b.fits });
        owned =
            owned_stored (set t.ike p (ike_of o)) t.ipsec q (child_of o) (owned_beside t w (ike_of o) b.room)
            (λ n. (b.named, there));
      })

  opened_ipsec : (spi owner operator : ℕ) → IpsecOpened t.ike t.ipsec spi owner operator
      → WellFormed (after_call t (opens_ipsec spi owner operator))
  unfolding after_call
  opened_ipsec spi owner operator o =
      let p = place_of ike_spi owner t.ike in
      let own = o.owner_own in
      let new = new_ipsec spi owner (get_or t.ike p no_ike).pair in
      let q = place_of ipsec_spi 0 t.ipsec in
      rw o.is
      (record {
        ikes = w.ikes;
        ipsecs = opened ipsec_spi no_ipsec t.ipsec w.ipsecs q new o.named o.new
            (record { pair = (held t w owner own.named own.there).fits.pair });
        owned = owned_stored t.ike t.ipsec q new w.owned (λ n. (own.named, own.there));
      })

pub opens_both_keeps : (o : Opening) → o.agreed.peer < peer_numbers → Keeps (λ (t : Tables). after_call t (opens_both o))
unfolding after_call
opens_both_keeps o typed t w =
    ⊎_elim (opened_both t w o typed) (λ e. rw (e.same, e.child_same) w) (both_or_neither t.ike t.ipsec o)

pub opens_ipsec_keeps : (spi owner operator : ℕ) → Keeps (λ (t : Tables). after_call t (opens_ipsec spi owner operator))
unfolding after_call
opens_ipsec_keeps spi owner operator t w =
    ⊎_elim (λ e. rw e w) (opened_ipsec t w spi owner operator) (open_ipsec_cases t.ike t.ipsec spi owner operator)
