-- Trusted. The writer's 564 octets are those of the longest request: no request has more, and one has as many.
--
--   longest      a request for everything: an update, a pair of IPv6, both NAT values, a full list, the longest cookie
--   RoomExact    the statement; `room_exact` in `proofs/Longest.antt` proves it
use Rattle.std.specs.Prelude.{◌≤◌, ◌≡◌, true, false, length, replicate}
use Rattle.octets.specs.Limits.{addresses_most, address_octets, nat_octets, cookie_most, request_room}
use Rattle.address.specs.declared.pair.Pair.{Pair}
use Rattle.asking.specs.Draft.{Draft, draft, request_octets}
use Rattle.asking.specs.Fits.{request_fits}
use Rattle.asking.specs.declared.ask.Ask.{Ask}

abbrev pub ask_all : Ask
ask_all =
    record {
      update = true;
      no_nats = true;
      nat_source = true;
      nat_destination = true;
      no_additional = false;
      count = addresses_most;
    }

abbrev pub long_pair : Pair
long_pair =
    record {
      family = 6;
      source = replicate address_octets 0;
      destination = replicate address_octets 0;
      source_port = 0;
      destination_port = 0;
    }

abbrev pub longest : Draft
longest =
    draft ask_all long_pair (replicate addresses_most 6) (replicate addresses_most (replicate address_octets 0))
    (replicate nat_octets 0) (replicate nat_octets 0) (replicate cookie_most 0)

pub record RoomExact : Type 0 where
  pub enough : (q : Draft) → request_fits q ≡ true → length (request_octets q) ≤ request_room
  pub fits : request_fits longest ≡ true
  pub needed : length (request_octets longest) ≡ request_room
