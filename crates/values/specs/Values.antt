-- Trusted. The values that a reading hands out, as the octets of the body at the offsets that it tells: 01, "The
-- payload chain".
--
--   part_of         octets of a body at an offset, none where they do not stand there
--   PartOf         the same as a part of the lent body: its octets, and where in memory they are
--   no_nats_of       what NO_NATS_ALLOWED holds; `absent` where it has neither size
--   no_nats_at, no_nats_seen   the same at an offset, and where a reading saw it
--   address_at      an additional address, padded to sixteen octets
--   additional_of   the additional addresses that are kept
--   addresses_in    the same with their families
--
-- NO_NATS_ALLOWED, its addresses of 4 octets (12 in all) or of 16 (36 in all):
--
--   +---------------------------------------------------------------+
--   |                        source address                         |
--   +---------------------------------------------------------------+
--   |                      destination address                      |
--   +-------------------------------+-------------------------------+
--   |          source port          |       destination port        |
--   +-------------------------------+-------------------------------+
use Rattle.std.specs.Prelude.{ℕ, ◌+◌, min, ◌≡◌, Bool, cond, ◌&&◌, not, eqb, leb, length, take, drop, replicate}
use mathlib.Core.List.{List, [], zip_with}
use Rattle.std.specs.Borrow.{Bor}
use Rattle.octets.specs.Limits.{addresses_most, address_octets}
use Rattle.octets.specs.Limits.{ip4_octets, ip6_octets, port_size, no_nats_least, no_nats_most}
use Rattle.octets.specs.Lists.{first_only}
use Rattle.octets.specs.Octets.{be16, padded}
use Rattle.address.specs.Address.{width_of, addresses_of}
use Rattle.address.specs.declared.address.Address.{Address}
use Rattle.findings.specs.declared.seen.Offsets.{Offsets}
use Rattle.findings.specs.declared.seen.Seen.{Seen}
use Rattle.values.specs.declared.NoNats.{NoNats}

-- Whether `size` octets stand at `at`. Data never begins at offset 0, behind whatever header, so 0 means that there
-- is none, whatever the size that comes with it; nor may they run past the end.
abbrev pub stands : List ℕ → ℕ → ℕ → Bool
stands body at size = not (eqb at 0) && leb (at + size) (length body)

-- the octets at `at`, or none where they do not stand there
abbrev pub part_of : List ℕ → ℕ → ℕ → List ℕ
part_of body at size = cond (stands body at size) (take size (drop at body)) []

-- 01: "handed to the host as a part of the lent body": not only its octets, but the stretch of the body's own memory
-- that has them. A pointer is an allocation and an offset in it. Where nothing stands, the part is empty and begins
-- where the body does.
pub record PartOf (body : Bor (List ℕ)) (at size : ℕ) (part : Bor (List ℕ)) : Type 0 where
  pub octets : part.now ≡ part_of body.now at size
  pub allocation : part.ref_ptr.0 ≡ body.ref_ptr.0
  pub offset : part.ref_ptr.1 ≡ body.ref_ptr.1 + cond (stands body.now at size) at 0

abbrev pub absent : NoNats
absent =
    record {
      family = 0;
      source = replicate address_octets 0;
      destination = replicate address_octets 0;
      source_port = 0;
      destination_port = 0;
    }

-- 01: "NO_NATS_ALLOWED holds source address, destination address, source port, destination port, of 4 or 16 octets
-- and 2 octets."
abbrev pub no_nats_in : ℕ → ℕ → List ℕ → NoNats
no_nats_in family width octets =
    record {
      family = family;
      source = padded (take width octets);
      destination = padded (take width (drop width octets));
      source_port = be16 octets (width + width);
      destination_port = be16 octets (width + width + port_size);
    }

abbrev pub no_nats_of : List ℕ → NoNats
no_nats_of octets =
    cond (eqb (length octets) no_nats_least) (no_nats_in 4 ip4_octets octets)
    (cond (eqb (length octets) no_nats_most) (no_nats_in 6 ip6_octets octets) absent)

-- by the offset and the size that a reading tells
abbrev pub no_nats_at : List ℕ → ℕ → ℕ → NoNats
no_nats_at body at size = no_nats_of (part_of body at size)

abbrev pub no_nats_seen : List ℕ → Seen → NoNats
no_nats_seen body seen = no_nats_at body seen.no_nats seen.no_nats_len

-- 01: "Addresses travel as 16 octets each, ..., IPv4 in the first four with zeros after."
abbrev pub address_at : List ℕ → ℕ → ℕ → List ℕ
address_at body at family = padded (part_of body at (width_of family))

-- 01: "The first 16 are kept"; "Places past a list's count ... aren't looked at; in a list newly kept or given they
-- are 0."
abbrev pub additional_of : List ℕ → Offsets → List (List ℕ)
additional_of body l =
    first_only (replicate address_octets 0) (min l.count addresses_most)
    (zip_with (address_at body) l.offsets l.families)

-- the additional addresses with their families, as a record keeps them
abbrev pub addresses_in : List ℕ → Offsets → List Address
addresses_in body l = addresses_of (min l.count addresses_most) l.families (additional_of body l)
