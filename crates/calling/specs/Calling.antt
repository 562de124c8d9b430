-- Trusted. What the slots of an entry give to its call, for any slots; of an entry that was read it is what its values
-- say (`Performing` in replays/specs/Same.antt).
--   pair_in, opening_in, request_in   a pair, an opening, a request
--   response_in, clone_in            the response to a check, a clone request
--   spi_in, child_in, owner_in        the SPI that leads an entry, of an IKE or an IPsec record, and an owner's
--   closer_in, adder_in              the operator that closes or marks a record, and that adds one
use Rattle.std.specs.Prelude.{ℕ, ◌%◌, ◌^◌, List, get_or}
use Rattle.address.specs.declared.pair.Pair.{Pair}
use Rattle.tables.specs.declared.calls.Opening.{Opening}
use Rattle.given.specs.Given.{address_in, operator_in}
use Rattle.calling.specs.declared.Given.{Given}
use Rattle.calling.specs.declared.GivenResponse.{GivenResponse}
use Rattle.calling.specs.declared.GivenClone.{GivenClone}

module _ (s slots : List ℕ) where
  abbrev pub pair_in : Pair
  pair_in =
      record {
        family = get_or slots 2 0 % 2 ^ 8;
        source = address_in s (get_or slots 3 0);
        destination = address_in s (get_or slots 4 0);
        source_port = get_or slots 5 0 % 2 ^ 16;
        destination_port = get_or slots 6 0 % 2 ^ 16;
      }

  -- the peer, whether cloning is agreed and the operator stand behind the IPsec SPI
  abbrev pub opening_in : Opening
  opening_in =
      record {
        spi = get_or slots 0 0;
        agreed = record {
          mobike = get_or slots 1 0 % 2 ^ 8;
          cloning = get_or slots 9 0 % 2 ^ 8;
          operator = operator_in 10 slots;
          peer = get_or slots 8 0 % 2 ^ 32;
        };
        pair = pair_in;
        child = get_or slots 7 0 % 2 ^ 32;
      }

  -- the cookie and the ID of our check, which are lent with a request, behind its body
  abbrev pub request_in : Given
  request_in =
      record {
        spi = get_or slots 0 0;
        id = get_or slots 1 0 % 2 ^ 32;
        pair = pair_in;
        nat_source = record { at = get_or slots 7 0; size = get_or slots 8 0 };
        nat_destination = record { at = get_or slots 9 0; size = get_or slots 10 0 };
        first = get_or slots 11 0 % 2 ^ 8;
        body = record { at = get_or slots 12 0; size = get_or slots 13 0 };
        cookie = record { at = get_or slots 14 0; size = get_or slots 15 0 };
        check_id = get_or slots 16 0 % 2 ^ 32;
        operator = operator_in 17 slots;
      }

abbrev pub response_in : List ℕ → GivenResponse
response_in slots =
    record {
      spi = get_or slots 0 0;
      id = get_or slots 1 0 % 2 ^ 32;
      first = get_or slots 2 0 % 2 ^ 8;
      body = record { at = get_or slots 3 0; size = get_or slots 4 0 };
      operator = operator_in 5 slots;
    }

abbrev pub clone_in : List ℕ → GivenClone
clone_in slots =
    record {
      spi = get_or slots 0 0;
      new_spi = get_or slots 1 0;
      first = get_or slots 2 0 % 2 ^ 8;
      body = record { at = get_or slots 3 0; size = get_or slots 4 0 };
      operator = operator_in 5 slots;
    }

abbrev pub spi_in : List ℕ → ℕ
spi_in slots = get_or slots 0 0

abbrev pub child_in : List ℕ → ℕ
child_in slots = get_or slots 0 0 % 2 ^ 32

abbrev pub owner_in : List ℕ → ℕ
owner_in slots = get_or slots 1 0

-- behind the SPI; behind the owner's
abbrev pub closer_in : List ℕ → ℕ
closer_in = operator_in 1

abbrev pub adder_in : List ℕ → ℕ
adder_in = operator_in 2
