-- Trusted. The payload types and notify types of 01 ("The payload chain"), each named once. The code has the payload
-- types in `octets/src/wire.rt`, the notify types as constants of theirs (`notify::notify::NotifyType`).
--
--   notify_payload                          the payload type of a Notify
--   first_known_payload, last_known_payload    payload types in between are known
--   critical_bit                            a payload's flags, if it is critical, are at least this
--   first_status                            notify types below this are errors
--   clone_ike_sa_supported, clone_ike_sa        the notify types of 02, E8, known in a clone request alone
--   the others                             the notify types of 01's table, and its errors, under the RFC's names
use Rattle.std.specs.Prelude.{ℕ}

-- "Type 41 is Notify"; "Types 33 to 48 other than 41 are skipped."
abbrev pub notify_payload : ℕ
notify_payload = 41

abbrev pub first_known_payload : ℕ
first_known_payload = 33

abbrev pub last_known_payload : ℕ
last_known_payload = 48

-- "flags (1, top bit is critical)": an octet with the top bit is at least this
abbrev pub critical_bit : ℕ
critical_bit = 128

-- The table's notify types.
abbrev pub nat_detection_source_ip : ℕ
nat_detection_source_ip = 16388

abbrev pub nat_detection_destination_ip : ℕ
nat_detection_destination_ip = 16389

abbrev pub mobike_supported : ℕ
mobike_supported = 16396

abbrev pub additional_ip4_address : ℕ
additional_ip4_address = 16397

abbrev pub additional_ip6_address : ℕ
additional_ip6_address = 16398

abbrev pub no_additional_addresses : ℕ
no_additional_addresses = 16399

abbrev pub update_sa_addresses : ℕ
update_sa_addresses = 16400

abbrev pub cookie2 : ℕ
cookie2 = 16401

abbrev pub no_nats_allowed : ℕ
no_nats_allowed = 16402

-- 02, E8: "CLONE_IKE_SA_SUPPORTED (16432) and CLONE_IKE_SA (16433)" of RFC 7791.
abbrev pub clone_ike_sa_supported : ℕ
clone_ike_sa_supported = 16432

abbrev pub clone_ike_sa : ℕ
clone_ike_sa = 16433

-- Error types: "INVALID_SYNTAX (7)", "UNSUPPORTED_CRITICAL_PAYLOAD (1)", "UNEXPECTED_NAT_DETECTED (41)",
-- "UNACCEPTABLE_ADDRESSES (40)"; "any other type below 16384". 02, E8: "TEMPORARY_FAILURE, 43", "NO_ADDITIONAL_SAS, 35".
abbrev pub unsupported_critical_payload : ℕ
unsupported_critical_payload = 1

abbrev pub invalid_syntax : ℕ
invalid_syntax = 7

abbrev pub no_additional_sas : ℕ
no_additional_sas = 35

abbrev pub unacceptable_addresses : ℕ
unacceptable_addresses = 40

abbrev pub unexpected_nat_detected : ℕ
unexpected_nat_detected = 41

abbrev pub temporary_failure : ℕ
temporary_failure = 43

abbrev pub first_status : ℕ
first_status = 16384
