-- Trusted. The request that the writer is asked for: 01, "The display's end", its first paragraph.
--
--   Draft              all that the writer is given but the output; `draft` makes one
--   if_asked            notifications where they are asked for, else none
--   address_notify      an additional address as a notification; `address_notifies` those of a list
--   pair_octets         the data of NO_NATS_ALLOWED for a pair
--   tail_notifies       the end of a request: the list of addresses and the cookie
--   requested          the notifications of a request, in the writer's order
--   request_octets      their octets
--
-- When a request fits is in Fits.antt; the NAT values' and the cookie's notifications, which a response has too, in
-- `writing/specs/Parts.antt`.
use Rattle.std.specs.Prelude.{ℕ, ◌/◌, ◌%◌, Bool, cond, eqb, take}
use mathlib.Core.List.{List, [], ◌∷◌, ◌++◌, zip_with}
use Rattle.octets.specs.Wire.{additional_ip4_address, additional_ip6_address, no_additional_addresses}
use Rattle.octets.specs.Wire.{update_sa_addresses, no_nats_allowed}
use Rattle.address.specs.Address.{width_of}
use Rattle.address.specs.declared.pair.Pair.{Pair}
use Rattle.writing.specs.Notify.{Notification, notification, chained}
use Rattle.writing.specs.Parts.{nat_notifies, cookie_notifies}
use Rattle.asking.specs.declared.ask.Ask.{Ask}

-- All that the writer is given but the output.
pub record Draft : Type 0 where
  pub ask : Ask
  pub pair : Pair
  pub families : List ℕ
  pub addresses : List (List ℕ)
  pub nat-source : List ℕ
  pub nat-destination : List ℕ
  pub cookie : List ℕ

abbrev pub draft : Ask → Pair → List ℕ → List (List ℕ) → List ℕ → List ℕ → List ℕ → Draft
draft ask pair families addresses nat-source nat-destination cookie =
    record {
      ask = ask;
      pair = pair;
      families = families;
      addresses = addresses;
      nat-source = nat-source;
      nat-destination = nat-destination;
      cookie = cookie;
    }

-- 01: "those asked for".
abbrev pub if_asked : Bool → List Notification → List Notification
if_asked asked notifies = cond asked notifies []

-- 01: "16397, 16398: ADDITIONAL_IP4_ADDRESS, _IP6_ADDRESS: 4, 16" octets.
abbrev pub address_notify_type : ℕ → ℕ
address_notify_type family = cond (eqb family 4) additional_ip4_address additional_ip6_address

abbrev pub address_notify : ℕ → List ℕ → Notification
address_notify family octets = notification (address_notify_type family) (take (width_of family) octets)

abbrev pub address_notifies : List ℕ → List (List ℕ) → List Notification
address_notifies families addresses = zip_with address_notify families addresses

-- 01: "NO_NATS_ALLOWED holds source address, destination address, source port, destination port, of 4 or 16 octets
-- and 2 octets."
abbrev pub port_octets : ℕ → ℕ → List ℕ
port_octets source destination = (source / 256) ∷ (source % 256) ∷ (destination / 256) ∷ (destination % 256) ∷ []

unfoldable pub no_nats_octets : ℕ → List ℕ → List ℕ → ℕ → ℕ → List ℕ
no_nats_octets width source destination source_port destination_port =
    take width source ++ (take width destination ++ port_octets source_port destination_port)

abbrev pub pair_octets : Pair → List ℕ
pair_octets p =
    no_nats_octets (width_of p.family) p.source p.destination p.source_port p.destination_port

-- 01: "NO_ADDITIONAL_ADDRESSES or 1 to 16 addresses, cookie": the end of a request.
abbrev pub tail_notifies : Bool → ℕ → List ℕ → List (List ℕ) → List ℕ → List Notification
tail_notifies no-additional count families addresses cookie =
    if_asked no-additional (notification no_additional_addresses [] ∷ [])
    ++ (address_notifies (take count families) (take count addresses)
    ++ cookie_notifies cookie)

-- 01: "The writer writes, in this order, those asked for: update, NO_NATS_ALLOWED, NAT source, NAT destination (both or
-- neither), NO_ADDITIONAL_ADDRESSES or 1 to 16 addresses, cookie."
abbrev pub requested : Draft → List Notification
requested q =
    if_asked q.ask.update (notification update_sa_addresses [] ∷ [])
    ++ (if_asked q.ask.no_nats (notification no_nats_allowed (pair_octets q.pair) ∷ [])
    ++ (if_asked q.ask.nat_source (nat_notifies q.nat-source q.nat-destination)
    ++ tail_notifies q.ask.no_additional q.ask.count q.families q.addresses q.cookie))

-- 01: "Type 0 ends the chain."
abbrev pub request_octets : Draft → List ℕ
request_octets q = chained (requested q) 0
