-- Each table call by its number: what is stored where nothing is refused, and that nothing is where something is.
use Prim.Native.Nat.{ℕ}
use mathlib.Core.Path.{◌≡◌, refl}
use mathlib.Core.List.{List, map}
use mathlib.Core.Bool.{Bool, true, false, ◌&&◌, ◌||◌, not}
use lib.Dec.{eqb, leb, ltb}
use lib.ListN.{length, get_or, set}
use Rattle.octets.specs.Limits.{ike_places, ipsec_places, ike_share, ipsec_share}
use Rattle.octets.specs.Lists.{place_of}
use Rattle.records.specs.Records.{ike_spi, ipsec_spi, no_ike, new_ipsec, no_ipsec, released, deletion_marked}
use Rattle.tables.specs.Opening.{ike_of, child_of}
use Rattle.octets.specs.Operators.{is_operator}
use Rattle.tables.specs.Calls.{IkeAnswer, IpsecAnswer, TablesAnswer, ike_answer, ipsec_answer, tables_answer, has_ipsec, opening_fits}
use Rattle.tables.specs.Calls.{ikes_of, ipsecs_of}
use Rattle.tables.specs.Calls.{open_both, open_ipsec, close_ike, close_ipsec, mark_deletion}
use Rattle.tables.specs.Changes.{is_own, is_own_child, bad_list, bad_closing, bad_adding, bad_marking}
use Rattle.tables.specs.Changes.{adding_number, closing_number, both_number}
use Rattle.walks.proofs.Choices.{Decided, decided}
use Rattle.tables.specs.declared.calls.Opening.{Opening}
use Rattle.records.specs.declared.ike.IkeRecord.{IkeRecord}
use Rattle.records.specs.declared.ipsec.IpsecRecord.{IpsecRecord}

-- that an SPI is not 0 is a check before, so that a record that is found is one's own as `owns` has it
own_closed : (x z y o : Bool) → closing_number ((x || z) || y) (not z && o) ≡ closing_number ((x || z) || y) o
own_closed true z y o = refl
own_closed false true y o = refl
own_closed false false y o = refl

own_added : (x z y o taken limited room : Bool)
    → adding_number ((x || z) || y) (not z && o) taken limited room
    ≡ adding_number ((x || z) || y) o taken limited room
own_added true z y o taken limited room = refl
own_added false true y o taken limited room = refl
own_added false false y o taken limited room = refl

-- what a call answers, and the tables after it
abbrev pub IkeIs : ℕ → List IkeRecord → IkeAnswer → Type 0
IkeIs number ike r = (number ≡ r.number) × (ike ≡ r.ike)

abbrev pub IpsecIs : ℕ → List IpsecRecord → IpsecAnswer → Type 0
IpsecIs number ipsec r = (number ≡ r.number) × (ipsec ≡ r.ipsec)

abbrev pub TablesAre : ℕ → List IkeRecord → List IpsecRecord → TablesAnswer → Type 0
TablesAre number ike ipsec r = (number ≡ r.number) × (ike ≡ r.ike) × (ipsec ≡ r.ipsec)

module _ (ike : List IkeRecord) (long : length ike ≡ ike_places) where
  module _ (ipsec : List IpsecRecord) where
    module _ (o : Opening) where
      abbrev pub number_both : ℕ
      number_both =
          both_number (opening_fits (length ipsec) o) (ltb (place_of ike_spi o.spi ike) ike_places)
          (ltb (place_of ipsec_spi o.child ipsec) (length ipsec)) (leb ike_share (ikes_of o.agreed.operator ike))
          (leb ipsec_share (ipsecs_of o.agreed.operator ike ipsec)) (ltb (place_of ike_spi 0 ike) ike_places)
          (ltb (place_of ipsec_spi 0 ipsec) (length ipsec))

      abbrev ike_opened : List IkeRecord
      ike_opened = set ike (place_of ike_spi 0 ike) (ike_of o)

      abbrev child_opened : List IpsecRecord
      child_opened = set ipsec (place_of ipsec_spi 0 ipsec) (child_of o)

      pub opens_both_lem : Decided number_both (TablesAre 0 ike_opened child_opened (open_both ike ipsec o))
          (TablesAre number_both ike ipsec (open_both ike ipsec o))
      unfolding open_both
      opens_both_lem =
          rw long
          (decided number_both (tables_answer 0 ike_opened child_opened) (tables_answer number_both ike ipsec)
          (TablesAre 0 ike_opened child_opened) (TablesAre number_both ike ipsec) (refl, refl, refl) (refl, refl, refl))

    module _ (spi owner operator : ℕ) where
      abbrev owned : ℕ
      owned = place_of ike_spi owner ike

      abbrev pub number_added : ℕ
      number_added =
          adding_number (bad_adding (length ipsec) spi owner operator) (is_own owned (get_or ike owned no_ike) operator)
          (ltb (place_of ipsec_spi spi ipsec) (length ipsec)) (leb ipsec_share (ipsecs_of operator ike ipsec))
          (ltb (place_of ipsec_spi 0 ipsec) (length ipsec))

      abbrev added : List IpsecRecord
      added = set ipsec (place_of ipsec_spi 0 ipsec) (new_ipsec spi owner (get_or ike owned no_ike).pair)

      pub opens_ipsec_lem : Decided number_added (IpsecIs 0 added (open_ipsec ike ipsec spi owner operator))
          (IpsecIs number_added ipsec (open_ipsec ike ipsec spi owner operator))
      unfolding open_ipsec
      opens_ipsec_lem =
          rw (
            long,
            own_added (bad_list (length ipsec) spi) (eqb owner 0) (not (is_operator operator))
                (is_own owned (get_or ike owned no_ike) operator) (has_ipsec spi ipsec)
                (leb ipsec_share (ipsecs_of operator ike ipsec)) (has_ipsec 0 ipsec),
          )
          (decided number_added (ipsec_answer 0 added) (ipsec_answer number_added ipsec) (IpsecIs 0 added)
          (IpsecIs number_added ipsec) (refl, refl) (refl, refl))

    module _ (spi operator : ℕ) where
      abbrev closed_at : ℕ
      closed_at = place_of ike_spi spi ike

      abbrev pub number_closed : ℕ
      number_closed =
          closing_number (bad_closing (length ipsec) spi operator) (is_own closed_at (get_or ike closed_at no_ike) operator)

      abbrev ike_closed : List IkeRecord
      ike_closed = set ike closed_at no_ike

      abbrev owned_closed : List IpsecRecord
      owned_closed = map (released spi) ipsec

      pub closes_ike_lem : Decided number_closed (TablesAre 0 ike_closed owned_closed (close_ike ike ipsec spi operator))
          (TablesAre number_closed ike ipsec (close_ike ike ipsec spi operator))
      unfolding close_ike
      closes_ike_lem =
          rw (
            long,
            own_closed (not (eqb (length ipsec) ipsec_places)) (eqb spi 0) (not (is_operator operator))
                (is_own closed_at (get_or ike closed_at no_ike) operator),
          )
          (decided number_closed (tables_answer 0 ike_closed owned_closed) (tables_answer number_closed ike ipsec)
          (TablesAre 0 ike_closed owned_closed) (TablesAre number_closed ike ipsec) (refl, refl, refl) (refl, refl, refl))

      abbrev child_at : ℕ
      child_at = place_of ipsec_spi spi ipsec

      abbrev child : IpsecRecord
      child = get_or ipsec child_at no_ipsec

      abbrev pub number_child : ℕ
      number_child =
          closing_number (bad_closing (length ipsec) spi operator)
          (is_own_child child (place_of ike_spi child.owner ike) (get_or ike (place_of ike_spi child.owner ike) no_ike)
          operator)

      abbrev child_closed : List IpsecRecord
      child_closed = set ipsec child_at no_ipsec

      pub closes_ipsec_lem : Decided number_child (IpsecIs 0 child_closed (close_ipsec ike ipsec spi operator))
          (IpsecIs number_child ipsec (close_ipsec ike ipsec spi operator))
      unfolding close_ipsec
      closes_ipsec_lem =
          rw long
          (decided number_child (ipsec_answer 0 child_closed) (ipsec_answer number_child ipsec) (IpsecIs 0 child_closed)
          (IpsecIs number_child ipsec) (refl, refl) (refl, refl))

  module _ (spi operator : ℕ) where
    abbrev marked_at : ℕ
    marked_at = place_of ike_spi spi ike

    abbrev pub number_marked : ℕ
    number_marked = closing_number (bad_marking spi operator) (is_own marked_at (get_or ike marked_at no_ike) operator)

    abbrev marked : List IkeRecord
    marked = set ike marked_at (deletion_marked (get_or ike marked_at no_ike))

    pub marks_deletion_lem : Decided number_marked (IkeIs 0 marked (mark_deletion ike spi operator))
        (IkeIs number_marked ike (mark_deletion ike spi operator))
    unfolding mark_deletion
    marks_deletion_lem =
        rw (
          long,
          own_closed false (eqb spi 0) (not (is_operator operator)) (is_own marked_at (get_or ike marked_at no_ike) operator),
        )
        (decided number_marked (ike_answer 0 marked) (ike_answer number_marked ike) (IkeIs 0 marked)
        (IkeIs number_marked ike) (refl, refl) (refl, refl))
