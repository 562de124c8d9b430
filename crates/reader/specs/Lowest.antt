-- Trusted. Of the faults that one payload has, that of the lowest number is told: 02, E4: "at one payload the lowest of
-- them is told"; 01: "in one payload, 6 comes before 7".
--
--   fault_checks   what can be wrong with the payload of a type at an offset, behind what was seen, each asked by
--                 itself, in the order of the numbers, 7 last
--   told_at        the number that is told at this offset, 0 where reading a chain does not stop there
--   LowestTold    where a payload is due, the number told there is that of the first check that fails
use Rattle.std.specs.Prelude.{ℕ, ◌+◌, ◌-◌, ◌≤◌, ◌≡◌, List, [], ◌∷◌, Bool, cond, ◌&&◌, ◌||◌, not, eqb, leb, ltb, length, get_or}
use Rattle.octets.specs.Checks.{Check, ◌gives◌, first_failed}
use Rattle.octets.specs.Limits.{payload_header, notify_header}
use Rattle.octets.specs.Numbers.{number_of}
use Rattle.octets.specs.Octets.{be16}
use Rattle.octets.specs.Wire.{critical_bit, first_known_payload, last_known_payload, notify_payload}
use Rattle.octets.specs.declared.number.Number.TheVariants.{BadChainLength, BadNotify, BadDataSize}
use Rattle.octets.specs.declared.number.Number.TheVariants.{Repeated, UnknownCritical}
use Rattle.notify.specs.Notify.{kind_of, data_fits}
use Rattle.notify.specs.declared.notify.NotifyKind.{NotifyKind}
use Rattle.payload.specs.Payload.{flags_at, length_at, spi_size_at, notify_type_at, spi_fits}
use Rattle.findings.specs.Seen.{repeats}
use Rattle.findings.specs.declared.seen.Seen.{Seen}
use Rattle.reader.specs.Chain.{Outcome, Whole, Broken, chain_at, scanned, fault_number}

module _ (s : Seen) (payload_type : ℕ) (body : List ℕ) (at : ℕ) where
  abbrev pub left : ℕ
  left = length body - at

  abbrev pub size : ℕ
  size = be16 body (at + length_at)

  abbrev pub is_notify : Bool
  is_notify = eqb payload_type notify_payload

  abbrev pub spi_size : ℕ
  spi_size = get_or body (at + spi_size_at) 0

  abbrev pub kind : NotifyKind
  kind = kind_of (be16 body (at + notify_type_at))

  abbrev pub is_known : Bool
  is_known = leb first_known_payload payload_type && leb payload_type last_known_payload

  -- "under 4 octets left; length under 4 or past the end"; "a Notify under 8, or its SPI past its length", "an SPI size
  -- there other than 0"; "any fault in the table"; "a second ..."; "Any other type but 0 is unknown: critical gives
  -- answer 7"
  abbrev pub fault_checks : List Check
  fault_checks =
      (ltb left payload_header || (ltb size payload_header || ltb left size)) gives BadChainLength
      ∷ (is_notify && ((ltb size notify_header || ltb (size - notify_header) spi_size) || not (spi_fits kind spi_size)))
      gives BadNotify
      ∷ (is_notify && not (data_fits kind (size - notify_header - spi_size))) gives BadDataSize
      ∷ (is_notify && repeats s kind) gives Repeated
      ∷ (not is_known && leb critical_bit (get_or body (at + flags_at) 0)) gives UnknownCritical
      ∷ []

abbrev pub told_at : ℕ → Outcome → ℕ
told_at at Whole = 0
told_at at (Broken f stop) = cond (eqb stop at) (number_of (fault_number f)) 0

abbrev pub LowestTold : Type 0
LowestTold =
    (s : Seen) (payload_type : ℕ) (body : List ℕ) (at : ℕ) → at ≤ length body → (payload_type ≡ 0 → ⊥)
    → told_at at (scanned s (chain_at body payload_type at)).outcome ≡ first_failed (fault_checks s payload_type body at)
