-- Trusted. Bits of an address, and what it is for a prefix to match: 01, "The policy is up to 16 rules".
--
--   bits_of, address_bits   how many bits some octets, and an address as it travels, have
--   bit_at                 a bit of some octets
--   prefix_matches         two lists of octets begin with the same n bits
use Rattle.std.specs.Prelude.{ℕ, ◌-◌, ◌*◌, ◌/◌, ◌%◌, ◌^◌, List, Bool, eqb, get_or}
use Rattle.octets.specs.Limits.{address_octets}
use Rattle.octets.specs.Lists.{all_below}

abbrev pub bits_of : ℕ → ℕ
bits_of octets = octets * 8

abbrev pub address_bits : ℕ
address_bits = bits_of address_octets

-- bit i, the first octet's top bit first
abbrev pub bit_at : List ℕ → ℕ → ℕ
bit_at octets i = get_or octets (i / 8) 0 / 2 ^ (7 - i % 8) % 2

abbrev pub same_bit : List ℕ → List ℕ → ℕ → Bool
same_bit a b i = eqb (bit_at a i) (bit_at b i)

-- 01: "bits past the length are ignored, and length 0 matches all": the first n bits are the same.
unfoldable pub prefix_matches : List ℕ → ℕ → List ℕ → Bool
prefix_matches prefix n octets = all_below (same_bit prefix octets) n
