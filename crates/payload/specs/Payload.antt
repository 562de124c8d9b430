-- Trusted. One payload of a chain, or what is wrong with it: 01, "The payload chain". In the manner of RFC 7296, 3.2
-- and 3.10:
--
--    0                   1                   2                   3
--    0 1 2 3 4 5 6 7 8 9 0 1 2 3 4 5 6 7 8 9 0 1 2 3 4 5 6 7 8 9 0 1
--   +---------------+-+-------------+-------------------------------+
--   |   next type   |C|  reserved   |    length, header counted     |   every payload; C is critical
--   +---------------+-+-------------+-------------------------------+
--   |  protocol ID  |   SPI size    |          notify type          |   a Notify, type 41
--   +---------------+---------------+-------------------------------+
--   |     SPI, of SPI size octets; then data, to the payload's end  |
--   +---------------------------------------------------------------+
--
--   flags_at, length_at          where these fields stand in a payload, counted from its first octet
--   spi_size_at, notify_type_at    the same of a Notify
--   spi_fits                    a notification of this kind may have an SPI of so many octets
--   notify_at                   the Notify at an offset, its length read
--   sized                      the payload of a type at an offset, its length read
--   payload_at                  the payload of a type at an offset
--   Found: Payload, Faulty     what stands there: a payload of so many octets with its content, or a fault
--   Skipped, Unknown, Notify   its content
--   ChainLength, NotifyShape, DataSize, Critical   the faults that a payload has by itself
use Rattle.std.specs.Prelude.{ℕ, ◌+◌, ◌-◌, List, Bool, cond, ◌&&◌, ◌||◌, length, get_or, eqb, leb, ltb, Result, Ok, Err}
use Rattle.octets.specs.Limits.{payload_header, notify_header}
use Rattle.octets.specs.Wire.{critical_bit, first_known_payload, last_known_payload, notify_payload}
use Rattle.octets.specs.Octets.{be16}
use Rattle.notify.specs.Notify.{kind_of, data_fits, is_unknown}
use Rattle.notify.specs.declared.notify.NotifyKind.{NotifyKind}
use Rattle.payload.specs.declared.payload.Fault.{Fault}
use Rattle.payload.specs.declared.payload.Fault.TheVariants.{ChainLength, NotifyShape, DataSize, Critical}
use Rattle.payload.specs.declared.payload.Content.{Content}
use Rattle.payload.specs.declared.payload.Content.TheVariants.{Skipped, Unknown, Notify}

-- what stands at an offset: a payload of so many octets with its content, or a fault
abbrev pub Found : Type 0
Found = Result (ℕ × Content) Fault

pattern abbrev pub Payload : ℕ → Content → Found
Payload size content = Ok (size, content)

pattern abbrev pub Faulty : Fault → Found
Faulty fault = Err fault

abbrev pub flags_at : ℕ
flags_at = 1

abbrev pub length_at : ℕ
length_at = 2

abbrev pub spi_size_at : ℕ
spi_size_at = 5

abbrev pub notify_type_at : ℕ
notify_type_at = 6

-- 01: "or an SPI size there other than 0": a type of the table has no SPI, any other may have one.
abbrev pub spi_fits : NotifyKind → ℕ → Bool
spi_fits kind spi_size = eqb spi_size 0 || is_unknown kind

-- A Notify with its SPI size, its notify type and its kind read off.
abbrev pub notified : NotifyKind → ℕ → ℕ → ℕ → Found
notified kind notify_type size spi_size =
    let data_size = size - notify_header - spi_size in
    cond (spi_fits kind spi_size)
    (cond (data_fits kind data_size) (Payload size (Notify kind notify_type data_size)) (Faulty DataSize))
    (Faulty NotifyShape)

-- 01: "Type 41 is Notify: after the header come protocol ID (1), SPI size (1), notify type (2), SPI, data.";
-- "a Notify under 8, or its SPI past its length". The protocol ID is not looked at.
unfoldable pub notify_at : List ℕ → ℕ → ℕ → Found
notify_at body at size =
    let spi_size = get_or body (at + spi_size_at) 0 in
    let notify_type = be16 body (at + notify_type_at) in
    cond (ltb size notify_header || ltb (size - notify_header) spi_size) (Faulty NotifyShape)
    (notified (kind_of notify_type) notify_type size spi_size)

-- 01: "Types 33 to 48 other than 41 are skipped. Any other type but 0 is unknown: critical gives answer 7, else it is
-- skipped and tallied." The top bit of the flags is critical; the others are not looked at.
unfoldable pub sized : ℕ → List ℕ → ℕ → ℕ → Found
sized payload_type body at size =
    cond (eqb payload_type notify_payload) (notify_at body at size)
    (cond (leb first_known_payload payload_type && leb payload_type last_known_payload) (Payload size Skipped)
    (cond (leb critical_bit (get_or body (at + flags_at) 0)) (Faulty (Critical payload_type)) (Payload size Unknown)))

-- 01: "Each payload has next type (1 octet), flags (1, top bit is critical), length (2, header counted).";
-- "under 4 octets left; length under 4 or past the end".
unfoldable pub payload_at : ℕ → List ℕ → ℕ → Found
payload_at payload_type body at =
    let left = length body - at in
    let size = be16 body (at + length_at) in
    cond (ltb left payload_header) (Faulty ChainLength)
    (cond (ltb size payload_header || ltb left size) (Faulty ChainLength)
    (sized payload_type body at size))
