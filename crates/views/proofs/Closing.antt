-- 01's closing of an IKE record is a call that goes by its SPI: "Closing an IKE record closes the IPsec records it
-- owns." 02, E9: whether the record is the operator's is seen in the record that the SPI means.
use Prim.Native.Nat.{ℕ}
use mathlib.Core.Path.{◌≡◌, refl, ap}
use mathlib.Core.List.{map}
use mathlib.Core.Bool.{Bool, true, false, cond, not}
use mathlib.Core.Option.{Option, none, some}
use lib.Dec.{eqb}
use lib.ListN.{length, set}
use Rattle.octets.specs.declared.number.Number.TheVariants.{Done, BadArgument, NoSuchRecord}
use Rattle.octets.specs.Lists.{place_of}
use Rattle.octets.specs.Numbers.{number_of}
use Rattle.octets.proofs.Small.{chosen, neither}
use Rattle.records.specs.Records.{ike_spi, no_ike, released}
use Rattle.tables.specs.Calls.{TablesAnswer, tables_answer, has_ike, list_fits, close_ike}
use Rattle.tables.specs.Changes.{bad_closing}
use Rattle.tables.specs.Tables.{Tables, tables, meant}
use Rattle.tables.specs.View.{View, view, Change, stays, closes, applied, Proper, BySpi}
use Rattle.records.specs.declared.ike.IkeRecord.{IkeRecord}
use Rattle.views.proofs.View.{applied_stays}

-- a closing as it is called
pub record Closing : Type 0 where
  pub spi : ℕ
  pub operator : ℕ

-- the tables after a closing, whatever its number
abbrev closed : Closing → Tables → Tables
closed c t = let a = close_ike t.ike t.ipsec c.spi c.operator in tables a.ike a.ipsec

module _ (c : Closing) where
  abbrev spi : ℕ
  spi = c.spi

  abbrev bad : ℕ → Bool
  bad lent = bad_closing lent spi c.operator

  abbrev own : IkeRecord → Bool
  own r = eqb r.agreed.operator c.operator

  abbrev closing : Option IkeRecord → Change
  closing none = stays
  closing (some r) = cond (own r) closes stays

  abbrev number : Option IkeRecord → ℕ
  number none = number_of NoSuchRecord
  number (some r) = cond (own r) (number_of Done) (number_of NoSuchRecord)

  abbrev does : View → Change
  does v = cond (bad v.lent) stays (closing v.entry)

  abbrev says : View → ℕ
  says v = cond (bad v.lent) (number_of BadArgument) (number v.entry)

  proper : (v : View) → Proper v.entry (does v)
  proper v = go (bad v.lent) v.entry
    where
      go : (b : Bool) (o : Option IkeRecord) → Proper o (cond b stays (closing o))
      go true none = refl
      go true (some r) = tt
      go false none = refl
      go false (some r) = chosen (Proper (some r)) (own r) (λ e. tt) (λ e. tt)

  -- the call as a whole, by its checks
  module _ (t : Tables) where
    applied_closes : applied spi closes t ≡ tables (set t.ike (place_of ike_spi spi t.ike) no_ike)
        (map (released spi) t.ipsec)
    unfolding applied
    applied_closes = refl

    abbrev end : Tables
    end = applied spi (does (view spi t)) t

    abbrev Is : Type 0
    Is = close_ike t.ike t.ipsec spi c.operator
        ≡ tables_answer (says (view spi t)) end.ike end.ipsec

    is : Is
    unfolding close_ike
    is = go (bad (length t.ipsec)) refl (has_ike spi t.ike) refl (own (meant t.ike spi)) refl
      where
        named : bad (length t.ipsec) ≡ false → eqb spi 0 ≡ false
        named e = (neither (not (list_fits t.ipsec)) (eqb spi 0) (neither _ _ e).0).1

        go : (a : Bool) → bad (length t.ipsec) ≡ a → (b : Bool) → has_ike spi t.ike ≡ b
            → (o : Bool) → own (meant t.ike spi) ≡ o → Is
        go true e b f o g = rw (e, applied_stays spi t)
        go false e false f o g = rw (e, f, named e, applied_stays spi t)
        go false e true f true g = rw (e, f, named e, g, applied_closes)
        go false e true f false g = rw (e, f, named e, g, applied_stays spi t)

    step_is : closed c t ≡ end
    step_is = ap (λ (x : TablesAnswer). tables x.ike x.ipsec) is

pub closing_by_spi : BySpi (λ (c : Closing). c.spi) closed
    (λ c t. (close_ike t.ike t.ipsec c.spi c.operator).number)
closing_by_spi =
    record {
      does = does;
      says = says;
      proper = proper;
      step_is = step_is;
      answer_is = λ c t. ap (λ (x : TablesAnswer). x.number) (is c t);
    }
