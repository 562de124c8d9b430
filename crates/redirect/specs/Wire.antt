-- Trusted. The notify types, identity types and sizes of the redirect notifications (02, E7; RFC 5685, 9), each named
-- once; `redirect/src/wire.rt` has them for the code.
--
--   redirect_supported, redirect, redirected_from   the notify types
--   ip4_identity, ip6_identity, fqdn_identity        the identity types
--   fqdn_least, fqdn_most                           the octets of a name
--   nonce_least, nonce_most                         the octets of a nonce
--   identity_header                                what stands before an identity: its type and its length
--   redirect_room                                  the least output that is written to
use Rattle.std.specs.Prelude.{ℕ, ◌+◌}

-- 02: "REDIRECT (16407), REDIRECT_SUPPORTED (16406, no data) and REDIRECTED_FROM (16408) of RFC 5685"
abbrev pub redirect_supported : ℕ
redirect_supported = 16406

abbrev pub redirect : ℕ
redirect = 16407

abbrev pub redirected_from : ℕ
redirected_from = 16408

-- 02: "Identity types are 1, 2 and, in REDIRECT only, 3"; RFC 5685, 9.2: "1 - IPv4 address", "2 - IPv6 address",
-- "3 - FQDN of the new VPN gateway"
abbrev pub ip4_identity : ℕ
ip4_identity = 1

abbrev pub ip6_identity : ℕ
ip6_identity = 2

abbrev pub fqdn_identity : ℕ
fqdn_identity = 3

-- 02: "of 4, 16 and 1 to 255 octets"
abbrev pub fqdn_least : ℕ
fqdn_least = 1

abbrev pub fqdn_most : ℕ
fqdn_most = 255

-- 02: "the nonce must equal the one sent, 16 to 256 octets"
abbrev pub nonce_least : ℕ
nonce_least = 16

abbrev pub nonce_most : ℕ
nonce_most = 256

-- RFC 5685, 9.2: "GW Ident Type" and "GW Ident Len", an octet each
abbrev pub identity_header : ℕ
identity_header = 2

-- 02: "2 output under 513 octets", whatever is written: the longest data. `Rooms.antt` beside this says that the sum
-- is 513.
abbrev pub redirect_room : ℕ
redirect_room = identity_header + fqdn_most + nonce_most
