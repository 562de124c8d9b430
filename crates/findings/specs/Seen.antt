-- Trusted. What a chain's payloads say, gathered one by one, and which notifications may not stand together: 01, "The
-- payload chain". Data is told by its offset in the body; it stands behind a header, so 0 means that there is none.
--
--   Seen                    what was seen: the tally, the flags, the offsets of what is handed out, and the list
--   Tally                   payloads, unknown payloads, unknown notifications; errors among these, the first one's type
--   Offsets                 the additional addresses: how many, and of the first sixteen the offset and the family
--   nothing_seen             where no payload was read yet
--   content_noted            what was seen, with one payload more; its data would stand at the offset
--   counted, unknown_notify  the tally, with one payload more, with one unknown notification more
--   noted, notify_listed     what was seen, and its list, with one notification more
--   conflicts, repeats      a payload, a notification of this kind, may not stand behind what was seen
--   is                      two kinds are the same
use Rattle.std.specs.Prelude.{ℕ, ◌+◌, Bool, true, false, cond, ◌&&◌, ◌||◌, not, set, replicate, eqb}
use Rattle.octets.specs.Limits.{addresses_most}
use Rattle.notify.specs.Notify.{is_unknown, is_error}
use Rattle.notify.specs.declared.notify.NotifyKind.{NotifyKind}
use Rattle.notify.specs.declared.notify.NotifyKind.TheVariants.{NatDetectionSource, NatDetectionDestination}
use Rattle.notify.specs.declared.notify.NotifyKind.TheVariants.{MobikeSupported, AdditionalIp4, AdditionalIp6}
use Rattle.notify.specs.declared.notify.NotifyKind.TheVariants.{NoAdditionalAddresses}
use Rattle.notify.specs.declared.notify.NotifyKind.TheVariants.{UpdateSaAddresses, Cookie2, NoNatsAllowed}
use Rattle.notify.specs.declared.notify.NotifyKind.TheVariants.{UnacceptableAddresses, UnexpectedNatDetected}
use Rattle.notify.specs.declared.notify.NotifyKind.TheVariants.{OtherError, OtherStatus}
use Rattle.payload.specs.declared.payload.Content.{Content}
use Rattle.payload.specs.declared.payload.Content.TheVariants.{Skipped, Unknown as UnknownPayload, Notify}
use Rattle.findings.specs.declared.seen.Tally.{Tally}
use Rattle.findings.specs.declared.seen.Offsets.{Offsets}
use Rattle.findings.specs.declared.seen.Seen.{Seen}

abbrev pub no_tally : Tally
no_tally = record { payloads = 0; unknown_payloads = 0; unknown_notifies = 0; errors = 0; first_error = 0 }

abbrev pub no_offsets : Offsets
no_offsets = record { count = 0; offsets = replicate addresses_most 0; families = replicate addresses_most 0 }

abbrev pub nothing_seen : Seen
nothing_seen =
    record {
      tally = no_tally;
      update = false;
      no_additional = false;
      nat_source = 0;
      nat_destination = 0;
      no_nats = 0;
      no_nats_len = 0;
      cookie = 0;
      cookie_len = 0;
      list = no_offsets;
    }

-- 01: "The answer counts the payloads read"; "Any other type but 0 is unknown: ... else it is skipped and tallied."
abbrev pub counted : Tally → ℕ → Tally
counted t unknown =
    record {
      payloads = t.payloads + 1;
      unknown_payloads = t.unknown_payloads + unknown;
      unknown_notifies = t.unknown_notifies;
      errors = t.errors;
      first_error = t.first_error;
    }

-- 01: "Every other notify type is tallied as unknown, whatever its SPI or data." The errors among them are what the
-- initiator's end looks for ("the first error").
abbrev pub unknown_notify : Tally → NotifyKind → ℕ → Tally
unknown_notify t kind notify_type =
    record {
      payloads = t.payloads;
      unknown_payloads = t.unknown_payloads;
      unknown_notifies = t.unknown_notifies + 1;
      errors = cond (is_error kind) (t.errors + 1) t.errors;
      first_error = cond (is_error kind && eqb t.errors 0) notify_type t.first_error;
    }

-- 01: "The first 16 are kept"; all are counted. Both lists have 16 places, past which `set` changes nothing.
abbrev pub listed : Offsets → ℕ → ℕ → Offsets
listed l family at =
    record {
      count = l.count + 1;
      offsets = set l.offsets l.count at;
      families = set l.families l.count family;
    }

-- kinds as numbers, to compare them
abbrev pub ordinal : NotifyKind → ℕ
ordinal NatDetectionSource = 0
ordinal NatDetectionDestination = 1
ordinal MobikeSupported = 2
ordinal AdditionalIp4 = 3
ordinal AdditionalIp6 = 4
ordinal NoAdditionalAddresses = 5
ordinal UpdateSaAddresses = 6
ordinal Cookie2 = 7
ordinal NoNatsAllowed = 8
ordinal UnacceptableAddresses = 9
ordinal UnexpectedNatDetected = 10
ordinal OtherError = 11
ordinal OtherStatus = 12

abbrev pub is : NotifyKind → NotifyKind → Bool
is a b = eqb (ordinal a) (ordinal b)

-- What a notification adds to the list of additional addresses.
abbrev pub notify_listed : Offsets → NotifyKind → ℕ → Offsets
notify_listed l kind at =
    cond (is kind AdditionalIp4) (listed l 4 at) (cond (is kind AdditionalIp6) (listed l 6 at) l)

-- What a notification adds to what was seen, its data, of so many octets, at `at`. Of several NAT_DETECTION_SOURCE_IP
-- the first is handed out, a choice that 01 leaves free; of the others that hand out data a second one is a fault.
unfoldable pub noted : Seen → NotifyKind → ℕ → ℕ → ℕ → Seen
noted s kind notify_type at size =
    record {
      tally = cond (is_unknown kind) (unknown_notify s.tally kind notify_type) s.tally;
      update = cond (is kind UpdateSaAddresses) true s.update;
      no_additional = cond (is kind NoAdditionalAddresses) true s.no_additional;
      nat_source = cond (is kind NatDetectionSource && eqb s.nat_source 0) at s.nat_source;
      nat_destination = cond (is kind NatDetectionDestination) at s.nat_destination;
      no_nats = cond (is kind NoNatsAllowed) at s.no_nats;
      no_nats_len = cond (is kind NoNatsAllowed) size s.no_nats_len;
      cookie = cond (is kind Cookie2) at s.cookie;
      cookie_len = cond (is kind Cookie2) size s.cookie_len;
      list = notify_listed s.list kind at;
    }

abbrev pub with_tally : Seen → Tally → Seen
with_tally s t =
    record {
      tally = t;
      update = s.update;
      no_additional = s.no_additional;
      nat_source = s.nat_source;
      nat_destination = s.nat_destination;
      no_nats = s.no_nats;
      no_nats_len = s.no_nats_len;
      cookie = s.cookie;
      cookie_len = s.cookie_len;
      list = s.list;
    }

-- What a payload adds: it is counted, and a Notify is noted too.
unfoldable pub content_noted : Seen → Content → ℕ → Seen
content_noted s Skipped at = with_tally s (counted s.tally 0)
content_noted s UnknownPayload at = with_tally s (counted s.tally 1)
content_noted s (Notify kind notify_type size) at =
    noted (with_tally s (counted s.tally 0)) kind notify_type at size

-- 01: "a second UPDATE_SA_ADDRESSES, NO_ADDITIONAL_ADDRESSES, COOKIE2, NO_NATS_ALLOWED or NAT_DETECTION_DESTINATION_IP;
-- NO_ADDITIONAL_ADDRESSES together with an ADDITIONAL address".
abbrev pub repeats : Seen → NotifyKind → Bool
repeats s NatDetectionSource = false
repeats s NatDetectionDestination = not (eqb s.nat_destination 0)
repeats s MobikeSupported = false
repeats s AdditionalIp4 = s.no_additional
repeats s AdditionalIp6 = s.no_additional
repeats s NoAdditionalAddresses = s.no_additional || not (eqb s.list.count 0)
repeats s UpdateSaAddresses = s.update
repeats s Cookie2 = not (eqb s.cookie 0)
repeats s NoNatsAllowed = not (eqb s.no_nats 0)
repeats s UnacceptableAddresses = false
repeats s UnexpectedNatDetected = false
repeats s OtherError = false
repeats s OtherStatus = false

abbrev pub conflicts : Seen → Content → Bool
conflicts s Skipped = false
conflicts s UnknownPayload = false
conflicts s (Notify kind notify_type size) = repeats s kind
