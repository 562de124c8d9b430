-- Trusted. The two round trips of demand 2, about the calls' own definitions: "Reading a written request gives back
-- what was asked for; writing a plainly read one gives back its octets."
--
--   given             what the exported calls hand out of a chain, as the writer takes it; `given_by` by what was seen
--   asked_for          a request with 0 or nothing for what is not asked for
--   Sized             the sizes of the arrays, which their types fix
--   GivenBack         reading this chain gives back what was asked for
--   ReadingWritten    the first round trip
--   WrittenAgain      writing what this chain gave writes it again
--   WritingRead       the second round trip
use Rattle.std.specs.Prelude.{ℕ, ◌≤◌, ◌<◌, ◌≡◌, List, [], true, cond, not, eqb, length, get_or, replicate}
use Rattle.octets.specs.Limits.{addresses_most, address_octets, nat_octets, request_room}
use Rattle.octets.specs.Lists.{first_only}
use Rattle.address.specs.Address.{no_address, no_pair, families_of, octets_of}
use Rattle.address.specs.declared.address.Address.{Address}
use Rattle.address.specs.declared.pair.Pair.{Pair}
use Rattle.findings.specs.declared.seen.Seen.{Seen}
use Rattle.findings.specs.declared.seen.Tally.{Tally}
use Rattle.values.specs.Values.{part_of, no_nats_at, addresses_in}
use Rattle.values.specs.declared.NoNats.{NoNats}
use Rattle.reader.specs.Chain.{reading}
use Rattle.asking.specs.Draft.{Draft, requested}
use Rattle.requests.specs.Written.{written, written_octets}
use Rattle.exchange.specs.Plain.{plainly_read}

abbrev pub pair_of : NoNats → Pair
pair_of n =
    record {
      family = n.family;
      source = n.source;
      destination = n.destination;
      source_port = n.source_port;
      destination_port = n.destination_port;
    }

-- What the exported calls hand out of a body by what was seen in it, as `unmavreth_write` takes it: the parts that
-- `unmavreth_nat_value` and `unmavreth_cookie` give (`PartOf`), the pair that `unmavreth_no_nats` gives, and the
-- address structs of `unmavreth_addresses`, whose families and octets the writer takes.
abbrev pub given_by : List ℕ → Seen → Draft
given_by body s =
    record {
      ask =
          record {
            update = s.update;
            no_nats = not (eqb s.no_nats 0);
            nat_source = not (eqb s.nat_source 0);
            nat_destination = not (eqb s.nat_destination 0);
            no_additional = s.no_additional;
            count = s.list.count;
          };
      pair = pair_of (no_nats_at body s.no_nats s.no_nats_len);
      families = families_of (addresses_in body s.list);
      addresses = octets_of (addresses_in body s.list);
      nat-source = part_of body s.nat_source nat_octets;
      nat-destination = part_of body s.nat_destination nat_octets;
      cookie = part_of body s.cookie s.cookie_len;
    }

-- What reading a chain hands out.
abbrev pub given : ℕ → List ℕ → Draft
given first body = given_by body (reading first body).seen

-- What was asked for, with 0 or nothing for what was not.
abbrev pub asked_for : Draft → Draft
asked_for q =
    record {
      ask = q.ask;
      pair = cond q.ask.no_nats q.pair no_pair;
      families = first_only 0 q.ask.count q.families;
      addresses = first_only (replicate address_octets 0) q.ask.count q.addresses;
      nat-source = cond q.ask.nat_source q.nat-source [];
      nat-destination = cond q.ask.nat_source q.nat-destination [];
      cookie = q.cookie;
    }

-- The sizes of the arrays, which their types fix.
pub record Sized (q : Draft) : Type 0 where
  pub source : length q.pair.source ≡ address_octets
  pub destination : length q.pair.destination ≡ address_octets
  pub families : length q.families ≡ addresses_most
  pub addresses : length q.addresses ≡ addresses_most
  pub octets : (i : ℕ) → i < addresses_most → length (get_or q.addresses i []) ≡ address_octets

-- so many payloads, none of them unknown
abbrev pub all_known : ℕ → Tally
all_known n = record { payloads = n; unknown_payloads = 0; unknown_notifies = 0; errors = 0; first_error = 0 }

-- "Reading a written request gives back what was asked for": every argument asked for, each value, and nothing else.
-- The address structs that the writer took apart come back as they were.
pub record GivenBack (q : Draft) (first : ℕ) (body : List ℕ) : Type 0 where
  pub number : (reading first body).number ≡ 0
  pub tally : (reading first body).seen.tally ≡ all_known (length (requested q))
  pub values : given first body ≡ asked_for q
  pub addresses : (l : List Address) → q.families ≡ families_of l → q.addresses ≡ octets_of l
      → addresses_in body (reading first body).seen.list ≡ first_only no_address q.ask.count l

abbrev pub ReadingWritten : Type 0
ReadingWritten =
    (q : Draft) (room : ℕ) → Sized q → (written q room).number ≡ 0
    → GivenBack q (written q room).first (written_octets q room)

-- a chain's octets are octets
abbrev pub Octets : List ℕ → Type 0
Octets body = (i : ℕ) → get_or body i 0 < 256

-- "writing a plainly read one gives back its octets": first type, length and every octet, in any output that is long
-- enough.
abbrev pub WrittenAgain : ℕ → List ℕ → Type 0
WrittenAgain first body =
    (room : ℕ) → request_room ≤ room
    → (written (given first body) room ≡ record { number = 0; first = first; length = length body })
    × (written_octets (given first body) room ≡ body)

-- A chain is plainly read exactly if writing what it gave writes it again.
abbrev pub WritingRead : Type 0
WritingRead =
    (first : ℕ) (body : List ℕ) → Octets body
    → (plainly_read first body ≡ true → WrittenAgain first body)
    × (WrittenAgain first body → plainly_read first body ≡ true)
