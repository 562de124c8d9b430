-- Trusted. Numbers and addresses as octets: 01, "The payload chain" and "Tables".
--
--   be16     the 16-bit number at an offset of some octets
--   padded   octets with zeros after them, up to an address as it travels
use Rattle.std.specs.Prelude.{ℕ, ◌+◌, ◌*◌, List, ◌++◌, get_or, take, replicate}
use Rattle.octets.specs.Limits.{address_octets}

-- 01: "Numbers are big-endian." The 16-bit number whose first octet stands at `at`.
abbrev pub be16 : List ℕ → ℕ → ℕ
be16 octets at = get_or octets at 0 * 256 + get_or octets (at + 1) 0

-- 01: "Addresses travel as 16 octets each, ..., IPv4 in the first four with zeros after."
abbrev pub padded : List ℕ → List ℕ
padded octets = take address_octets (octets ++ replicate address_octets 0)
