-- The record that a call of an operator means, by what the operator sees.
use Prim.Native.Nat.{ℕ}
use mathlib.Core.Path.{◌≡◌, refl, ◌∙◌}
use mathlib.Core.List.{List}
use mathlib.Core.Bool.{Bool, true, false, ◌&&◌, not}
use mathlib.Core.Option.{Option, none, some}
use borrow.Author.Tests.{eq-eqb, eqb-true}
use lib.Dec.{eqb}
use Rattle.octets.specs.Operators.{is_operator}
use Rattle.octets.proofs.Small.{both, and_true}
use Rattle.policy.specs.Policy.{policy_of}
use Rattle.records.specs.Records.{ike_spi, no_ike}
use Rattle.records.specs.declared.ike.IkeRecord.{IkeRecord}
use Rattle.tables.specs.Calls.{has_ike, owns}
use Rattle.tables.specs.Tables.{meant}
use Rattle.sharing.specs.Table as table
use Rattle.sharing.proofs.Views.{found_key}
use Rattle.sharing.proofs.Lookups.{owned, owns_has, owns_finds, owns_not}
use Rattle.isolating.specs.State.{State, Own, own_in}
use Rattle.isolating.specs.Changes.{is_of, Rewrites}

-- an own record, and whether there is one
abbrev pub record_of : Option IkeRecord → IkeRecord
record_of none = no_ike
record_of (some r) = r

abbrev pub own_record : Own → ℕ → IkeRecord
own_record v spi = record_of (v.ike.find spi)

abbrev pub own_has : Own → ℕ → Bool
own_has v spi = table.has table.any (v.ike.find spi)

-- why an operator has no record with an SPI
data Missed (o spi : ℕ) (ike : List IkeRecord) : Type 0 where
  no_spi : eqb spi 0 ≡ true → Missed o spi ike
  nowhere : has_ike spi ike ≡ false → Missed o spi ike
  anothers : has_ike spi ike ≡ true → eqb (meant ike spi).agreed.operator o ≡ false → Missed o spi ike

missed : (o spi : ℕ) (ike : List IkeRecord) → owns o spi ike ≡ false → Missed o spi ike
missed o spi ike e = go (eqb spi 0) refl (has_ike spi ike) refl e
  where
    go : (a : Bool) → eqb spi 0 ≡ a → (b : Bool) → has_ike spi ike ≡ b
        → not a && (b && eqb (meant ike spi).agreed.operator o) ≡ false → Missed o spi ike
    go true f b g h = no_spi f
    go false f true g h = anothers g h
    go false f false g h = nowhere g

module _ (o : ℕ) (s : State) (spi : ℕ) where
  pub owns_seen : owns o spi s.ike ≡ own_has (own_in o s) spi
  unfolding own_in
  owns_seen = owns_has ike_spi no_ike (is_of o) spi s.ike

  pub finds : owns o spi s.ike ≡ true → (own_in o s).ike.find spi ≡ some (meant s.ike spi)
  unfolding own_in
  finds e = owns_finds ike_spi no_ike (is_of o) spi s.ike e

  pub misses : owns o spi s.ike ≡ false → (own_in o s).ike.find spi ≡ none
  unfolding own_in
  misses e = owns_not ike_spi no_ike (is_of o) spi s.ike e

  pub policy_seen : (own_in o s).policy ≡ policy_of s.policies o
  unfolding own_in
  policy_seen = refl

-- what the checks of a request, of a response and of a clone request show
pub owned_by : (o spi : ℕ) (ike : List IkeRecord) → not (eqb spi 0) ≡ true → has_ike spi ike ≡ true
    → (meant ike spi).agreed.operator ≡ o → owns o spi ike ≡ true
owned_by o spi ike named there mine = and_true named (and_true there (eq-eqb (meant ike spi).agreed.operator o mine))

-- a record that takes the place of the one that an SPI means, with its SPI and its operator
pub rewrites_meant : (o spi : ℕ) (s : State) (r : IkeRecord) → r.spi ≡ (meant s.ike spi).spi
    → r.agreed.operator ≡ (meant s.ike spi).agreed.operator → is_operator o ≡ true → owns o spi s.ike ≡ true
    → Rewrites o spi r s
rewrites_meant o spi s r same keeps known e =
    let h = owned ike_spi no_ike (is_of o) spi s.ike e in
    record {
      known = known;
      owned = e;
      same = same ∙ found_key ike_spi spi (meant s.ike spi) s.ike h.is;
      mine = keeps ∙ eqb-true _ o h.mine;
    }

pub there_by : (o spi : ℕ) (ike : List IkeRecord) → owns o spi ike ≡ true → has_ike spi ike ≡ true
there_by o spi ike e = (both (has_ike spi ike) _ (both (not (eqb spi 0)) _ e).1).0

-- A number of checks that refuse alike where the SPI is 0, where no record has it and where another's has: it goes by
-- the own record with the SPI.
pub by_own : (o spi : ℕ) (s : State) (f : Bool → IkeRecord → ℕ)
    → (eqb spi 0 ≡ true → f (has_ike spi s.ike) (meant s.ike spi) ≡ f false no_ike)
    → f false (meant s.ike spi) ≡ f false no_ike
    → (eqb (meant s.ike spi).agreed.operator o ≡ false → f true (meant s.ike spi) ≡ f false no_ike)
    → f (has_ike spi s.ike) (meant s.ike spi) ≡ f (own_has (own_in o s) spi) (own_record (own_in o s) spi)
by_own o spi s f zero none_there others = go (owns o spi s.ike) refl
  where
    refused : Missed o spi s.ike → f (has_ike spi s.ike) (meant s.ike spi) ≡ f false no_ike
    refused (no_spi e) = zero e
    refused (nowhere e) = rw e none_there
    refused (anothers e g) = rw e (others g)

    go : (b : Bool) → owns o spi s.ike ≡ b
        → f (has_ike spi s.ike) (meant s.ike spi) ≡ f (own_has (own_in o s) spi) (own_record (own_in o s) spi)
    go true e = rw (finds o s spi e, there_by o spi s.ike e)
    go false e = rw (misses o s spi e) (refused (missed o spi s.ike e))
