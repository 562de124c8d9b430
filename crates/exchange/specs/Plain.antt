-- Trusted. Plainly read chains. "Plainly read" is 01's own term: "A chain is plainly read if it has this order and
-- these payloads only, zero flags and protocol IDs, one NAT source and one NAT destination or neither, and at most 16
-- addresses."
--
--   rank           a kind's place in the writer's order, 0 where it has none
--   may_follow      whether one rank may stand behind another
--   zero_fields     the flags and the protocol ID of a Notify are 0
--   in_order        the chain has this order, these payloads only, and zero fields
--   nats_paired     both NAT detection kinds or neither
--   plainly_read    all of it
use Rattle.std.specs.Prelude.{ℕ, ◌+◌, List, Bool, true, false, cond, ◌&&◌, ◌||◌, not, eqb, leb, ltb, get_or}
use Rattle.octets.specs.Limits.{payload_header, addresses_most}
use Rattle.notify.specs.declared.notify.NotifyKind.{NotifyKind}
use Rattle.notify.specs.declared.notify.NotifyKind.TheVariants.{UpdateSaAddresses, NoNatsAllowed, Cookie2}
use Rattle.notify.specs.declared.notify.NotifyKind.TheVariants.{NatDetectionSource, NatDetectionDestination}
use Rattle.notify.specs.declared.notify.NotifyKind.TheVariants.{NoAdditionalAddresses, AdditionalIp4, AdditionalIp6}
use Rattle.notify.specs.declared.notify.NotifyKind.TheVariants.{MobikeSupported, OtherError, OtherStatus}
use Rattle.notify.specs.declared.notify.NotifyKind.TheVariants.{UnacceptableAddresses, UnexpectedNatDetected}
use Rattle.payload.specs.declared.payload.Content.TheVariants.{Skipped, Unknown as UnknownPayload, Notify}
use Rattle.findings.specs.declared.seen.Seen.{Seen}
use Rattle.reader.specs.Chain.{Chain, ends, faulty, payload, chain_at, reading}

-- the rank of an additional address, of which several may stand together
abbrev pub address_rank : ℕ
address_rank = 6

-- "this order": a kind's place in the order of the writer; "these payloads only": 0 where it has none there.
abbrev pub rank : NotifyKind → ℕ
rank UpdateSaAddresses = 1
rank NoNatsAllowed = 2
rank NatDetectionSource = 3
rank NatDetectionDestination = 4
rank NoAdditionalAddresses = 5
rank AdditionalIp4 = address_rank
rank AdditionalIp6 = address_rank
rank Cookie2 = 7
rank MobikeSupported = 0
rank UnacceptableAddresses = 0
rank UnexpectedNatDetected = 0
rank OtherError = 0
rank OtherStatus = 0

-- A notification stands behind one of a lower rank, or an address behind an address.
abbrev pub may_follow : ℕ → ℕ → Bool
may_follow last next = ltb last next || (eqb last address_rank && eqb next address_rank)

-- "zero flags and protocol IDs": of the Notify at `at`; the flags stand behind the next type, the protocol ID behind
-- the header.
abbrev pub zero_fields : List ℕ → ℕ → Bool
zero_fields body at = eqb (get_or body (at + 1) 0) 0 && eqb (get_or body (at + payload_header) 0) 0

-- The chain has this order, these payloads only, and zero fields, behind a notification of rank `last` (0: none).
abbrev pub in_order : List ℕ → ℕ → Chain → Bool
in_order body last ends = true
in_order body last (faulty f at) = false
in_order body last (payload at Skipped rest) = false
in_order body last (payload at UnknownPayload rest) = false
in_order body last (payload at (Notify kind notify_type size) rest) =
    zero_fields body at && (may_follow last (rank kind) && in_order body (rank kind) rest)

-- "one NAT source and one NAT destination or neither": in this order there is at most one of each; offset 0 means none.
abbrev pub nats_paired : Seen → Bool
nats_paired s =
    cond (eqb s.nat_source 0) (eqb s.nat_destination 0) (not (eqb s.nat_destination 0))

unfoldable pub plainly_read : ℕ → List ℕ → Bool
plainly_read first body =
    let r = reading first body in
    eqb r.number 0
    && (in_order body 0 (chain_at body first 0)
    && (nats_paired r.seen
    && leb r.seen.list.count addresses_most))
