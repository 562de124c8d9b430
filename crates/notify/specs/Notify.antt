-- Trusted. Notify types, their kinds and the sizes of their data: the table of 01, "The payload chain". The types stand
-- in `octets/specs/Wire.antt`, the sizes in `octets/specs/Limits.antt`.
--
--   Type           Name                                       Data octets      Kind
--   16388, 16389   NAT_DETECTION_SOURCE_IP, _DESTINATION_IP   20               NatDetectionSource, -Destination
--   16396          MOBIKE_SUPPORTED                           any, ignored     MobikeSupported
--   16397, 16398   ADDITIONAL_IP4_ADDRESS, _IP6_ADDRESS       4, 16            AdditionalIp4, AdditionalIp6
--   16399          NO_ADDITIONAL_ADDRESSES                    0                NoAdditionalAddresses
--   16400          UPDATE_SA_ADDRESSES                        0                UpdateSaAddresses
--   16401          COOKIE2                                    8 to 64          Cookie2
--   16402          NO_NATS_ALLOWED                            12 or 36         NoNatsAllowed
--   40, 41         UNACCEPTABLE_ADDRESSES, UNEXPECTED_NAT_DETECTED             kinds of these names, not in 01's table
--   others         below 16384, and from there on                              OtherError, OtherStatus
--
--   kind_of       the kind of a notify type
--   data_fits     the column "Data octets"
--   is_error      the kinds of types below 16384
--   is_unknown    the kinds that are tallied as unknown: those that the table of 01 has not
use Rattle.std.specs.Prelude.{ℕ, Bool, true, false, cond, ◌&&◌, ◌||◌, eqb, leb, ltb}
use Rattle.octets.specs.Limits.{ip4_octets, ip6_octets, nat_octets, cookie_least, cookie_most, no_nats_least, no_nats_most}
use Rattle.octets.specs.Wire.{nat_detection_source_ip, nat_detection_destination_ip, mobike_supported}
use Rattle.octets.specs.Wire.{additional_ip4_address, additional_ip6_address, no_additional_addresses}
use Rattle.octets.specs.Wire.{update_sa_addresses, cookie2, no_nats_allowed}
use Rattle.octets.specs.Wire.{unacceptable_addresses, unexpected_nat_detected, first_status}
use Rattle.notify.specs.declared.notify.NotifyKind.{NotifyKind}
use Rattle.notify.specs.declared.notify.NotifyKind.TheVariants.{NatDetectionSource, NatDetectionDestination}
use Rattle.notify.specs.declared.notify.NotifyKind.TheVariants.{MobikeSupported, AdditionalIp4, AdditionalIp6}
use Rattle.notify.specs.declared.notify.NotifyKind.TheVariants.{NoAdditionalAddresses}
use Rattle.notify.specs.declared.notify.NotifyKind.TheVariants.{UpdateSaAddresses, Cookie2, NoNatsAllowed}
use Rattle.notify.specs.declared.notify.NotifyKind.TheVariants.{UnacceptableAddresses, UnexpectedNatDetected}
use Rattle.notify.specs.declared.notify.NotifyKind.TheVariants.{OtherError, OtherStatus}

-- 01: "The numbers belong to the notify type as its named constants." The table's, then those that the initiator's end
-- tells apart: "the first error, told as NAT seen (41), unacceptable (40) or failed (any other type below 16384)".
unfoldable pub kind_of : ℕ → NotifyKind
kind_of notify_type =
    cond (eqb notify_type nat_detection_source_ip) NatDetectionSource
    (cond (eqb notify_type nat_detection_destination_ip) NatDetectionDestination
    (cond (eqb notify_type mobike_supported) MobikeSupported
    (cond (eqb notify_type additional_ip4_address) AdditionalIp4
    (cond (eqb notify_type additional_ip6_address) AdditionalIp6
    (cond (eqb notify_type no_additional_addresses) NoAdditionalAddresses
    (cond (eqb notify_type update_sa_addresses) UpdateSaAddresses
    (cond (eqb notify_type cookie2) Cookie2
    (cond (eqb notify_type no_nats_allowed) NoNatsAllowed
    (cond (eqb notify_type unacceptable_addresses) UnacceptableAddresses
    (cond (eqb notify_type unexpected_nat_detected) UnexpectedNatDetected
    (cond (ltb notify_type first_status) OtherError
    OtherStatus)))))))))))

-- 01's column "Data octets"; unknown types are taken "whatever [their] SPI or data".
abbrev pub data_fits : NotifyKind → ℕ → Bool
data_fits NatDetectionSource size = eqb size nat_octets
data_fits NatDetectionDestination size = eqb size nat_octets
data_fits MobikeSupported size = true
data_fits AdditionalIp4 size = eqb size ip4_octets
data_fits AdditionalIp6 size = eqb size ip6_octets
data_fits NoAdditionalAddresses size = eqb size 0
data_fits UpdateSaAddresses size = eqb size 0
data_fits Cookie2 size = leb cookie_least size && leb size cookie_most
data_fits NoNatsAllowed size = eqb size no_nats_least || eqb size no_nats_most
data_fits UnacceptableAddresses size = true
data_fits UnexpectedNatDetected size = true
data_fits OtherError size = true
data_fits OtherStatus size = true

-- An error: a type below 16384.
abbrev pub is_error : NotifyKind → Bool
is_error NatDetectionSource = false
is_error NatDetectionDestination = false
is_error MobikeSupported = false
is_error AdditionalIp4 = false
is_error AdditionalIp6 = false
is_error NoAdditionalAddresses = false
is_error UpdateSaAddresses = false
is_error Cookie2 = false
is_error NoNatsAllowed = false
is_error UnacceptableAddresses = true
is_error UnexpectedNatDetected = true
is_error OtherError = true
is_error OtherStatus = false

-- 01: "Every other notify type is tallied as unknown, whatever its SPI or data."
abbrev pub is_unknown : NotifyKind → Bool
is_unknown NatDetectionSource = false
is_unknown NatDetectionDestination = false
is_unknown MobikeSupported = false
is_unknown AdditionalIp4 = false
is_unknown AdditionalIp6 = false
is_unknown NoAdditionalAddresses = false
is_unknown UpdateSaAddresses = false
is_unknown Cookie2 = false
is_unknown NoNatsAllowed = false
is_unknown UnacceptableAddresses = true
is_unknown UnexpectedNatDetected = true
is_unknown OtherError = true
is_unknown OtherStatus = true
