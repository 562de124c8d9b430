-- Trusted. IKE and IPsec records: their keys, new ones, closed ones, and how one is changed: 01, "Tables".
--
--   ike_spi, ipsec_spi        a record's key
--   settled, none_agreed     what is agreed, as it is stored; of a free place
--   new_ike, new_ipsec        a record as it is opened; `fresh_ike` with what is agreed as it stands
--   clone_of                 a clone of a record
--   no_ike, no_ipsec          a free place
--   released, follows       an IPsec record after its owner is closed, after it moves
--   marks_in                 what of a record a request is decided by
--   rewritten               a record with all that a request may change in it
--   remarked, relisted      a record with other marks (and pair and check), with another list
--   unchecked               a record whose check has ended
--   deletion_marked          a record that is being deleted
--   of_operator, of_peer      a record in use is an operator's, and of a peer number
use Rattle.std.specs.Prelude.{ℕ, Bool, cond, ◌&&◌, not, List, eqb, replicate}
use Rattle.octets.specs.Limits.{addresses_most}
use Rattle.octets.specs.Flags.{zero_or_one}
use Rattle.address.specs.Address.{no_pair, no_address}
use Rattle.address.specs.declared.address.Address.{Address}
use Rattle.address.specs.declared.pair.Pair.{Pair}
use Rattle.records.specs.Pending.{no_check}
use Rattle.records.specs.declared.check.PendingCheck.{PendingCheck}
use Rattle.records.specs.declared.ike.Agreed.{Agreed}
use Rattle.records.specs.declared.ike.IkeRecord.{IkeRecord}
use Rattle.records.specs.declared.ike.Marks.{Marks}
use Rattle.records.specs.declared.ipsec.IpsecRecord.{IpsecRecord}

abbrev pub ike_spi : IkeRecord → ℕ
ike_spi r = r.spi

abbrev pub ipsec_spi : IpsecRecord → ℕ
ipsec_spi r = r.spi

-- What is agreed at an opening, as it is stored; and of a place that is free.
abbrev pub settled : Agreed → Agreed
settled a =
    record {
      mobike = zero_or_one a.mobike;
      cloning = zero_or_one a.cloning;
      operator = a.operator;
      peer = a.peer;
    }

abbrev pub none_agreed : Agreed
none_agreed = record { mobike = 0; cloning = 0; operator = 0; peer = 0 }

-- 01: "A new IKE record has no marks, an empty list, tally 0." It has no pending check (02, E6) and no deletion mark
-- (E8) either.
abbrev pub fresh_ike : ℕ → Agreed → Pair → IkeRecord
fresh_ike spi agreed pair =
    record {
      spi = spi;
      agreed = agreed;
      pair = pair;
      update_mark = 0;
      list_mark = 0;
      count = 0;
      addresses = replicate addresses_most no_address;
      unknown = 0;
      check = no_check;
      deleting = 0;
    }

abbrev pub new_ike : ℕ → Agreed → Pair → IkeRecord
new_ike spi agreed pair = fresh_ike spi (settled agreed) pair

-- E8: "The clone has a new SPI, the same pair, peer and agreements, no marks, an empty list, tally 0, no pending check".
abbrev pub clone_of : ℕ → IkeRecord → IkeRecord
clone_of spi r = fresh_ike spi r.agreed r.pair

-- 01: "A place is free when its SPI is 0; closing sets all its fields to 0 or none."
abbrev pub no_ike : IkeRecord
no_ike = new_ike 0 none_agreed no_pair

abbrev pub new_ipsec : ℕ → ℕ → Pair → IpsecRecord
new_ipsec spi owner pair = record { spi = spi; owner = owner; pair = pair }

abbrev pub no_ipsec : IpsecRecord
no_ipsec = new_ipsec 0 0 no_pair

-- 01: "Closing an IKE record closes the IPsec records it owns." A free place is no record, whatever owner it still
-- names.
abbrev pub released : ℕ → IpsecRecord → IpsecRecord
released owner r = cond (eqb r.spi 0) r (cond (eqb r.owner owner) no_ipsec r)

-- E6: "moves all its IPsec records to the IKE record's pair": those in use with this owner.
abbrev pub follows : ℕ → Pair → IpsecRecord → IpsecRecord
follows owner pair r = cond (eqb r.spi 0) r (cond (eqb r.owner owner) (new_ipsec r.spi r.owner pair) r)

-- what of a record a request is decided by: 01's "MOBIKE agreed or not", "an update mark and a list mark", "an unknown
-- tally"
abbrev pub marks_in : IkeRecord → Marks
marks_in r =
    record {
      agreed = r.agreed;
      update_mark = r.update_mark;
      list_mark = r.list_mark;
      unknown = r.unknown;
    }

-- the record with all that a request may change in it; what else it holds is kept
abbrev pub rewritten : Pair → ℕ → ℕ → ℕ → List Address → ℕ → PendingCheck → IkeRecord → IkeRecord
rewritten pair update_mark list_mark count addresses unknown check r =
    record {
      spi = r.spi;
      agreed = r.agreed;
      pair = pair;
      update_mark = update_mark;
      list_mark = list_mark;
      count = count;
      addresses = addresses;
      unknown = unknown;
      check = check;
      deleting = r.deleting;
    }

-- the record with these marks and this tally; and, where it moves, "the IKE record ... take[s] the packet's pair" and
-- keeps the check "in place of an older one" (02, E6)
abbrev pub remarked : Marks → Bool → Pair → PendingCheck → IkeRecord → IkeRecord
remarked m moves pair check r =
    rewritten (cond moves pair r.pair) m.update_mark m.list_mark r.count r.addresses m.unknown
    (cond moves check r.check) r

-- the record with another list
abbrev pub relisted : ℕ → List Address → IkeRecord → IkeRecord
relisted count addresses r =
    rewritten r.pair r.update_mark r.list_mark count addresses r.unknown r.check r

-- E6: "each ends the check and changes nothing else"
abbrev pub unchecked : IkeRecord → IkeRecord
unchecked r =
    rewritten r.pair r.update_mark r.list_mark r.count r.addresses r.unknown no_check r

-- E8: "a mark for being deleted, set by a call". A yes is stored as 1.
abbrev pub deletion_marked : IkeRecord → IkeRecord
deletion_marked r =
    record {
      spi = r.spi;
      agreed = r.agreed;
      pair = r.pair;
      update_mark = r.update_mark;
      list_mark = r.list_mark;
      count = r.count;
      addresses = r.addresses;
      unknown = r.unknown;
      check = r.check;
      deleting = 1;
    }

-- E9: "Each IKE record ... names operator A (0) or B (1)".
abbrev pub of_operator : ℕ → IkeRecord → Bool
of_operator operator r = not (eqb r.spi 0) && eqb r.agreed.operator operator

-- E8: "peer has 4 records or more": those in use with its number, being deleted or not; E9: "peer limits are per
-- operator".
abbrev pub of_peer : ℕ → ℕ → IkeRecord → Bool
of_peer operator peer r = of_operator operator r && eqb r.agreed.peer peer
