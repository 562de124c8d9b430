-- Inner. The tables by SPI: what a call that gives an SPI sees of them, and what it may change. Serves the proof of
-- demand 3, which does not speak of it; each kind of call is shown to be such (`closing_by_spi` in
-- `views/proofs/Closing.antt`, `by_spi` in `reordering/proofs/Events.antt`).
use Rattle.std.specs.Prelude.{ℕ, ◌≡◌, map, cond, length, get_or, set}
use Rattle.std.proofs.Math.Option.{Option, none, some}
use Rattle.octets.specs.Lists.{place_of}
use Rattle.address.specs.declared.pair.Pair.{Pair}
use Rattle.records.specs.Records.{ike_spi, no_ike, follows, released}
use Rattle.tables.specs.Tables.{Tables, tables, in_use}
use Rattle.records.specs.declared.ike.IkeRecord.{IkeRecord}
use Rattle.records.specs.declared.ipsec.IpsecRecord.{IpsecRecord}

-- What a call sees: the IKE record that its SPI means, if any, and how many IPsec records are lent.
pub record View : Type 0 where
  pub entry : Option IkeRecord
  pub lent : ℕ

-- 01: "the lowest place in use with the SPI is meant".
abbrev pub view : ℕ → Tables → View
view spi t =
    record {
      entry = cond (in_use spi t) (some (get_or t.ike (place_of ike_spi spi t.ike) no_ike)) none;
      lent = length t.ipsec;
    }

-- What a call does to the IKE SA that its SPI means: nothing; it makes the record this one, and its IPsec records take
-- a pair or stay as they are; or it closes the record, and with it the IPsec records it owns.
pub data Change : Type 0 where
  stays : Change
  becomes : IkeRecord → Option Pair → Change
  closes : Change

abbrev pub entry_after : Change → IkeRecord → IkeRecord
entry_after stays r = r
entry_after (becomes new p) r = new
entry_after closes r = no_ike

abbrev pub child_after : ℕ → Change → IpsecRecord → IpsecRecord
child_after spi stays x = x
child_after spi (becomes r none) x = x
child_after spi (becomes r (some p)) x = follows spi p x
child_after spi closes x = released spi x

-- The tables after it: "the IKE record and all its IPsec records ..., and no other record changes".
unfoldable pub applied : ℕ → Change → Tables → Tables
applied spi c t =
    let place = place_of ike_spi spi t.ike in
    tables (set t.ike place (entry_after c (get_or t.ike place no_ike))) (map (child_after spi c) t.ipsec)

-- Where no record is meant nothing changes, and a record that is not closed keeps its SPI.
abbrev pub Proper : Option IkeRecord → Change → Type 0
Proper none c = c ≡ stays
Proper (some r) stays = Unit {0}
Proper (some r) (becomes new p) = new.spi ≡ r.spi
Proper (some r) closes = Unit {0}

-- Calls that go by their SPI: what each does and answers depends on its view alone. 01: "an IKE SA's requests are all
-- those that give its SPI"; each kind of call that demand 3 speaks of is such.
pub record BySpi {E A : Type 0} (spi : E → ℕ) (step : E → Tables → Tables) (answer : E → Tables → A) : Type 0 where
  pub does : E → View → Change
  pub says : E → View → A
  pub proper : (e : E) (v : View) → Proper v.entry (does e v)
  pub step_is : (e : E) (t : Tables) → step e t ≡ applied (spi e) (does e (view (spi e) t)) t
  pub answer_is : (e : E) (t : Tables) → answer e t ≡ says e (view (spi e) t)
