-- Trusted. Addresses and address pairs: 01, "Tables". Every fact of an address is stated once, over how many octets
-- its family has.
--
--   width_of                how many octets an address of a family has; 0: no such family
--   address_fits            sixteen octets are an address of a family
--   both_fit, pair_fits      two addresses are of a family; those of a pair
--   addresses_of            a list as it is stored: the first n, and nothing after them
--   families_of, octets_of   the families and the octets of a stored list
--   no_address, no_pair      what stands in a place that holds none
--
-- An address as it travels:   IPv4   | 4 octets | 12 zeros: the tail |
--                             IPv6   | 16 octets                     |
use Rattle.std.specs.Prelude.{ℕ, Bool, cond, ◌&&◌, not, eqb, drop, replicate}
use mathlib.Core.List.{List, map, zip_with}
use Rattle.octets.specs.Limits.{address_octets, ip4_octets, ip6_octets}
use Rattle.octets.specs.Lists.{all, first_only}
use Rattle.address.specs.declared.address.Address.{Address}
use Rattle.address.specs.declared.pair.Pair.{Pair}

-- 01: "family not 4 or 6"; "of 4 or 16 octets".
abbrev pub width_of : ℕ → ℕ
width_of family = cond (eqb family 4) ip4_octets (cond (eqb family 6) ip6_octets 0)

abbrev pub address_of : ℕ → List ℕ → Address
address_of family octets = record { family = family; octets = octets }

-- a place of a list that holds no address
abbrev pub no_address : Address
no_address = address_of 0 (replicate address_octets 0)

-- 01: "an additional address is family and octets". The first n: "Places past a list's count ... aren't looked at; in
-- a list newly kept or given they are 0."
abbrev pub addresses_of : ℕ → List ℕ → List (List ℕ) → List Address
addresses_of n families octets = first_only no_address n (zip_with address_of families octets)

abbrev pub families_of : List Address → List ℕ
families_of addresses = map (λ (a : Address). a.family) addresses

abbrev pub octets_of : List Address → List (List ℕ)
octets_of addresses = map (λ (a : Address). a.octets) addresses

abbrev pub is_zero : ℕ → Bool
is_zero x = eqb x 0

-- 01: "1: family not 4 or 6, IPv4 tail not zero". The tail is what follows the octets that the family has.
abbrev pub address_fits : ℕ → List ℕ → Bool
address_fits family octets = not (eqb (width_of family) 0) && all is_zero (drop (width_of family) octets)

-- two addresses of one family, as in a pair and in a rule
abbrev pub both_fit : ℕ → List ℕ → List ℕ → Bool
both_fit family source destination = address_fits family source && address_fits family destination

abbrev pub pair_fits : Pair → Bool
pair_fits p = both_fit p.family p.source p.destination

-- a place that is closed or was never used
abbrev pub no_pair : Pair
no_pair =
    record {
      family = 0;
      source = replicate address_octets 0;
      destination = replicate address_octets 0;
      source_port = 0;
      destination_port = 0;
    }
