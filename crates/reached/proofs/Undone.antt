-- Closing what was just opened gives back the tables that it was opened in, if calls reach these from empty ones.
use Prim.Native.Nat.{ℕ, zero, suc, ◌<◌}
use mathlib.Core.Path.{◌≡◌, refl, ◌∙◌}
use mathlib.Core.Logic.{⊎_elim}
use mathlib.Core.List.{List, [], ◌∷◌, map}
use borrow.Author.Tests.{eqb-true, eqb-false, eq-eqb, ne_eqb, lt-ltb}
use lib.Dec.{eqb}
use lib.ListN.{length, get_or, set, length-set, length-map, get_or-map}
use lib.Seq.{get_or-set_same, set-set, set-get_or, ext_get_or}
use Rattle.octets.specs.Limits.{ipsec_places}
use Rattle.octets.specs.Lists.{place_of}
use Rattle.octets.proofs.Small.{chosen}
use Rattle.octets.proofs.Places.{place_has}
use Rattle.records.specs.Records.{ike_spi, ipsec_spi, no_ike, no_ipsec, released}
use Rattle.tables.specs.Opening.{ike_of, child_of}
use Rattle.tables.specs.Calls.{tables_answer, close_ike}
use Rattle.tables.specs.Tables.{Tables}
use Rattle.tables.specs.Opened.{BothOpened}
use Rattle.tables.specs.declared.calls.Opening.{Opening}
use Rattle.records.specs.declared.ipsec.IpsecRecord.{IpsecRecord}
use Rattle.tables.proofs.Lookup.{finds_opened}
use Rattle.tables.proofs.Cases.{both_or_neither}
use Rattle.reached.specs.WellFormed.{Cleared, WellFormed}
use Rattle.reached.specs.Reached.{after_all, empty}
use Rattle.reached.specs.Undone.{ClosingUndoes}
use Rattle.reached.proofs.Opens.{names_operator}
use Rattle.reached.proofs.Stored.{owned_by_none}
use Rattle.reached.proofs.Reached.{reached}

map-set : {A : Type 0} (f : A → A) (xs : List A) (i : ℕ) (x : A) → map f (set xs i x) ≡ set (map f xs) i (f x)
map-set f [] i x = refl
map-set f (y ∷ xs) zero x = refl
map-set f (y ∷ xs) (suc i) x = rw (map-set f xs i x)

-- clearing a free place changes nothing
free_again : {A : Type 0} (key : A → ℕ) (d : A) (xs : List A) → Cleared key d xs → place_of key 0 xs < length xs
    → set xs (place_of key 0 xs) d ≡ xs
free_again key d xs clear room =
    rw (← clear (place_of key 0 xs) room (place_has key 0 xs d room)) (set-get_or xs (place_of key 0 xs) d)

-- a record that names another owner stays
unreleased : (o : ℕ) (r : IpsecRecord) → ((r.spi ≡ 0 → ⊥) → r.owner ≡ o → ⊥) → released o r ≡ r
unreleased o r other =
    chosen (λ (x : IpsecRecord). x ≡ r) (eqb r.spi 0) (λ e. refl)
    (λ e. chosen (λ (x : IpsecRecord). x ≡ r) (eqb r.owner o)
    (λ f. absurd (other (eqb-false r.spi 0 e) (eqb-true r.owner o f))) (λ f. refl))

module _ (t : Tables) (w : WellFormed t) (o : Opening) (b : BothOpened t.ike t.ipsec o) where
  abbrev p : ℕ
  p = place_of ike_spi 0 t.ike

  abbrev q : ℕ
  q = place_of ipsec_spi 0 t.ipsec

  -- none of the IPsec records names the new SPI
  none_released : map (released o.spi) t.ipsec ≡ t.ipsec
  none_released =
      ext_get_or no_ipsec (map (released o.spi) t.ipsec) t.ipsec (length-map t.ipsec (released o.spi))
      (λ i l.
      get_or-map (released o.spi) t.ipsec i no_ipsec
      ∙ unreleased o.spi (get_or t.ipsec i no_ipsec)
      (owned_by_none t w o.spi b.new i (rw (← length-map t.ipsec (released o.spi)) l)))

  undone : close_ike (set t.ike p (ike_of o)) (set t.ipsec q (child_of o)) o.spi o.agreed.operator
      ≡ tables_answer 0 t.ike t.ipsec
  unfolding close_ike
  undone =
      let gone : released o.spi (child_of o) ≡ no_ipsec =
      rw (ne_eqb o.child 0 b.child_named, eq-eqb o.spi o.spi refl) in
      rw (
        length-set t.ipsec q (child_of o),
        eq-eqb (length t.ipsec) ipsec_places w.ipsecs.long,
        ne_eqb o.spi 0 b.named,
        names_operator t o b,
        finds_opened ike_spi no_ike t.ike (ike_of o) b.room b.new,
        length-set t.ike p (ike_of o),
        lt-ltb p (length t.ike) b.room,
        get_or-set_same t.ike p (ike_of o) no_ike b.room,
        eq-eqb o.agreed.operator o.agreed.operator refl,
        set-set t.ike p (ike_of o) no_ike,
        map-set (released o.spi) t.ipsec q (child_of o),
        none_released,
        gone,
        free_again ike_spi no_ike t.ike w.ikes.clear b.room,
        free_again ipsec_spi no_ipsec t.ipsec w.ipsecs.clear b.child_room,
      )

pub closing_undoes : ClosingUndoes
closing_undoes cs typed o done =
    let t = after_all empty cs in
    ⊎_elim (λ b. rw b.is (undone t (reached cs typed) o b)) (λ n. absurd (n.refused done))
    (both_or_neither t.ike t.ipsec o)
