-- Trusted. Octets written at an offset of a buffer, and Notify payloads as octets: 01, "The payload chain".
--
--   placed         a buffer with octets written at an offset of it
--   notify_octets   one Notify payload with no SPI
--   Notification   a notify type and its data
--   first_type      the type of the first payload of a chain of notifications
--   chained        notifications one behind the other
--
--    0                   1                   2                   3
--    0 1 2 3 4 5 6 7 8 9 0 1 2 3 4 5 6 7 8 9 0 1 2 3 4 5 6 7 8 9 0 1
--   +---------------+---------------+-------------------------------+
--   |   next type   |     0 (flags) |    length, header counted     |
--   +---------------+---------------+-------------------------------+
--   | 0 (protocol)  |  0 (SPI size) |          notify type          |
--   +---------------+---------------+-------------------------------+
--   |                             data                              |
--   +---------------------------------------------------------------+
use Rattle.std.specs.Prelude.{ℕ, ◌+◌, ◌/◌, ◌%◌, List, [], ◌∷◌, ◌++◌, length, take, drop}
use Rattle.octets.specs.Limits.{notify_header}
use Rattle.octets.specs.Wire.{notify_payload}

-- `out` with the octets at `at`; everything else is as it was.
unfoldable pub placed : List ℕ → ℕ → List ℕ → List ℕ
placed out at octets = take at out ++ (octets ++ drop (at + length octets) out)

-- A Notify payload with no SPI. 01: "Each payload has next type (1 octet), flags (1, top bit is critical), length
-- (2, header counted)."; "Numbers are big-endian."; "Type 41 is Notify: after the header come protocol ID (1), SPI
-- size (1), notify type (2), SPI, data."; "The critical bit of known types, the reserved bits and the protocol ID are
-- ignored on reading, and written as 0."
unfoldable pub notify_octets : ℕ → ℕ → List ℕ → List ℕ
notify_octets next notify_type octets =
    let size = notify_header + length octets in
    next ∷ 0 ∷ (size / 256) ∷ (size % 256) ∷ 0 ∷ 0 ∷ (notify_type / 256) ∷ (notify_type % 256) ∷ octets

-- A notification with no SPI: its notify type and its data.
pub record Notification : Type 0 where
  pub notify_type : ℕ
  pub octets : List ℕ

abbrev pub notification : ℕ → List ℕ → Notification
notification notify_type octets = record { notify_type = notify_type; octets = octets }

-- The type of what stands first: a Notify, or what follows the notifications where there are none.
abbrev pub first_type : List Notification → ℕ → ℕ
first_type [] next = next
first_type (x ∷ xs) next = notify_payload

-- Notifications one behind the other, each with the type of what follows it; `next` is the type of what follows the
-- last.
unfoldable pub chained : List Notification → ℕ → List ℕ
chained [] next = []
chained (x ∷ xs) next = notify_octets (first_type xs next) x.notify_type x.octets ++ chained xs next
