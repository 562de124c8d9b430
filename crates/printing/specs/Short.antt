-- Trusted. What is claimed of the lines' lengths, with every argument in its field: none has more than 107 octets, so
-- that `line_room` is enough. Shown in proofs/Short.antt.
use Rattle.std.specs.Prelude.{ℕ, ◌^◌, ◌≤◌, ◌<◌, ◌≡◌, Bool, cond, length}
use Rattle.octets.specs.Limits.{address_octets}
use Rattle.address.specs.declared.pair.Pair.{Pair}
use Rattle.printing.specs.Lines.{entry_line, refusal_line, pair_line, line_room}

abbrev pub line_most : ℕ
line_most = 107

pub record PairFields (pair : Pair) : Type 0 where
  pub family : pair.family < 2 ^ 8
  pub source : length pair.source ≡ address_octets
  pub destination : length pair.destination ≡ address_octets
  pub source_port : pair.source_port < 2 ^ 16
  pub destination_port : pair.destination_port < 2 ^ 16

pub record Short : Type 0 where
  pub room : line_most ≤ line_room
  pub entry : (ordinal number update list : ℕ) → ordinal < 2 ^ 64 → number < 2 ^ 8
      → length (entry_line ordinal number update list) ≤ line_most
  pub refusal : (number offset : ℕ) → number < 2 ^ 8 → offset < 2 ^ 64 → length (refusal_line number offset) ≤ line_most
  -- an IKE SPI has 64 bits and an IPsec SPI 32
  pub of_pair : (ipsec : Bool) (spi : ℕ) (pair : Pair) → spi < 2 ^ cond ipsec 32 64 → PairFields pair
      → length (pair_line ipsec spi pair) ≤ line_most
