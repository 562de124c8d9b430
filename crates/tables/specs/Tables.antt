-- Trusted. Both tables together.
--
--   Tables   the list of IKE records and the list of IPsec records
--   in_use    an IKE SA has an SPI
--   meant    the record that an SPI means
use Rattle.std.specs.Prelude.{ℕ, List, Bool, ◌&&◌, not, eqb, get_or}
use Rattle.octets.specs.Lists.{place_of}
use Rattle.records.specs.Records.{ike_spi, no_ike}
use Rattle.records.specs.declared.ike.IkeRecord.{IkeRecord}
use Rattle.records.specs.declared.ipsec.IpsecRecord.{IpsecRecord}
use Rattle.tables.specs.Calls.{has_ike}

pub record Tables : Type 0 where
  pub ike : List IkeRecord
  pub ipsec : List IpsecRecord

abbrev pub tables : List IkeRecord → List IpsecRecord → Tables
tables ike ipsec = record { ike = ike; ipsec = ipsec }

-- An IKE SA of these tables has this SPI. 0 is no SPI, whatever place is free.
abbrev pub in_use : ℕ → Tables → Bool
in_use spi t = not (eqb spi 0) && has_ike spi t.ike

-- 01: "the lowest place in use with the SPI is meant"; a free place's where there is none.
abbrev pub meant : List IkeRecord → ℕ → IkeRecord
meant ike spi = get_or ike (place_of ike_spi spi ike) no_ike
