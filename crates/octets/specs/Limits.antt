-- Trusted. The limits of 01, each named once; `octets/src/limits.rt` has them for the code.
--
--   body_most                     the longest body that is read
--   ike_places, ipsec_places       places of the two tables
--   peer_records_most              a peer with so many IKE records gets no clone
--   operators                    how many share the gateway
--   ike_share, ipsec_share         an operator with so many records gets no more
--   addresses_most, rules_most     places of a list of addresses, and of the policy
--   address_octets                an address as it travels, of either family
--   ip4_octets, ip6_octets         an address in a payload
--   port_size                     a port in a payload
--   payload_header, notify_header  what stands before a payload's content, and before a Notify's data (with no SPI)
--   nat_octets                    a NAT detection value
--   cookie_least, cookie_most      the data of a COOKIE2
--   no_nats_least, no_nats_most      the data of a NO_NATS_ALLOWED, by its family
--   response_room, request_room    the least output that a response, and a request, is written to
--   tally_most                    where a tally stays
use Rattle.std.specs.Prelude.{ℕ, ◌+◌, ◌*◌}

-- "a body of 0 to 4,096 octets"
abbrev pub body_most : ℕ
body_most = 4096

-- "32 IKE records"
abbrev pub ike_places : ℕ
ike_places = 32

-- "128 IPsec records"
abbrev pub ipsec_places : ℕ
ipsec_places = 128

-- 02, E8: "42 peer has 4 records or more"
abbrev pub peer_records_most : ℕ
peer_records_most = 4

-- 02, E9: "operator A (0) or B (1), one bit"
abbrev pub operators : ℕ
operators = 2

-- 02, E9: "each operator has at most 20 of the 32 and 80 of the 128 IPsec records"
abbrev pub ike_share : ℕ
ike_share = 20

abbrev pub ipsec_share : ℕ
ipsec_share = 80

-- "up to 16 additional addresses"; "The first 16 are kept"
abbrev pub addresses_most : ℕ
addresses_most = 16

-- "The policy is up to 16 rules"
abbrev pub rules_most : ℕ
rules_most = 16

-- "Addresses travel as 16 octets each"
abbrev pub address_octets : ℕ
address_octets = 16

-- "ADDITIONAL_IP4_ADDRESS, _IP6_ADDRESS: 4, 16"; "of 4 or 16 octets and 2 octets"
abbrev pub ip4_octets : ℕ
ip4_octets = 4

abbrev pub ip6_octets : ℕ
ip6_octets = 16

abbrev pub port_size : ℕ
port_size = 2

-- "next type (1 octet), flags (1, top bit is critical), length (2, header counted)"
abbrev pub payload_header : ℕ
payload_header = 4

-- "after the header come protocol ID (1), SPI size (1), notify type (2), SPI, data"
abbrev pub notify_header : ℕ
notify_header = payload_header + 4

-- "NAT_DETECTION_SOURCE_IP, _DESTINATION_IP: 20"; "a lent NAT value not of 20 octets"
abbrev pub nat_octets : ℕ
nat_octets = 20

-- "COOKIE2: 8 to 64"
abbrev pub cookie_least : ℕ
cookie_least = 8

abbrev pub cookie_most : ℕ
cookie_most = 64

-- "NO_NATS_ALLOWED: 12 or 36"; it "holds source address, destination address, source port, destination port"
abbrev pub no_nats_size : ℕ → ℕ
no_nats_size width = 2 * width + 2 * port_size

abbrev pub no_nats_least : ℕ
no_nats_least = no_nats_size ip4_octets

abbrev pub no_nats_most : ℕ
no_nats_most = no_nats_size ip6_octets

-- "output under 128 octets (writer: 564)". A response is at most both NAT values and a cookie; a request an update,
-- NO_NATS_ALLOWED, both NAT values, sixteen addresses and a cookie. `Rooms.antt` beside this says that the sums
-- are 128 and 564.
abbrev pub response_room : ℕ
response_room = 2 * (notify_header + nat_octets) + (notify_header + cookie_most)

abbrev pub request_room : ℕ
request_room =
    notify_header + (notify_header + no_nats_most) + 2 * (notify_header + nat_octets)
    + addresses_most * (notify_header + ip6_octets) + (notify_header + cookie_most)

-- "an unknown tally that stays at 4,294,967,295 once there"
abbrev pub tally_most : ℕ
tally_most = 4294967295
