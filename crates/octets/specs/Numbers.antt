-- Trusted. The numbers that a call gives, by name: 01, "The numbers given back", and 02, E4: "Split 6 everywhere into
-- 61 (chain lengths), 62 (Notify lengths or SPI), 63 (data size), 64 (repeated or contradictory notification), and 65
-- (octets after the end)"; E6: "14 (no pending check, or another ID)"; and E7: "30 malformed ..., 31 a middle IKE_AUTH
-- response, or a nonce outside IKE_SA_INIT, 32 nonce missing or different, 33 time in seconds before the last accepted
-- one's, 34 five accepted ones less than 300 seconds before it"; and E8: "40 support not agreed", "44 no CLONE_IKE_SA
-- there, 41 being deleted or table full ..., 42 peer has 4 records or more"; and E9: "43 operator at its share"; and
-- E10: "50 no such road or over 8, 51 sample or wait too large, 52 no road qualifies".
--
--   Number     an enum, as `octets/src/number.rt` declares it: a name for each number
--   number_of   the number for it
--   told        the number that checks come to: that of the refusal, and Done's where there is none
use Rattle.std.specs.Prelude.{ℕ, Result, Ok, Err}
use Rattle.octets.specs.declared.number.Number.{Number}
use Rattle.octets.specs.declared.number.Number.TheVariants.{Done, BadArgument, OutputTooShort, BodyTooLong}
use Rattle.octets.specs.declared.number.Number.TheVariants.{NoSuchRecord, MobikeNotAgreed}
use Rattle.octets.specs.declared.number.Number.TheVariants.{BadChainLength, BadNotify, BadDataSize}
use Rattle.octets.specs.declared.number.Number.TheVariants.{Repeated, OctetsAfterEnd}
use Rattle.octets.specs.declared.number.Number.TheVariants.{UnknownCritical, AddressesAltered, NotAcceptable}
use Rattle.octets.specs.declared.number.Number.TheVariants.{Full, SpiInUse, BadPolicy, CheckNotPending}
use Rattle.octets.specs.declared.number.Number.TheVariants.{BadRedirect, WrongExchange, WrongNonce}
use Rattle.octets.specs.declared.number.Number.TheVariants.{TimeBeforeLast, TooManyRedirects}
use Rattle.octets.specs.declared.number.Number.TheVariants.{CloningNotAgreed, CannotCloneNow}
use Rattle.octets.specs.declared.number.Number.TheVariants.{PeerAtLimit, NoCloneRequest, OperatorAtShare}
use Rattle.octets.specs.declared.number.Number.TheVariants.{NoSuchPath, TooManyMilliseconds, NoPathQualifies}

abbrev pub number_of : Number → ℕ
number_of Done = 0
number_of BadArgument = 1
number_of OutputTooShort = 2
number_of BodyTooLong = 3
number_of NoSuchRecord = 4
number_of MobikeNotAgreed = 5
number_of BadChainLength = 61
number_of BadNotify = 62
number_of BadDataSize = 63
number_of Repeated = 64
number_of OctetsAfterEnd = 65
number_of UnknownCritical = 7
number_of AddressesAltered = 8
number_of NotAcceptable = 9
number_of Full = 10
number_of SpiInUse = 11
number_of BadPolicy = 12
number_of CheckNotPending = 14
number_of BadRedirect = 30
number_of WrongExchange = 31
number_of WrongNonce = 32
number_of TimeBeforeLast = 33
number_of TooManyRedirects = 34
number_of CloningNotAgreed = 40
number_of CannotCloneNow = 41
number_of PeerAtLimit = 42
number_of OperatorAtShare = 43
number_of NoCloneRequest = 44
number_of NoSuchPath = 50
number_of TooManyMilliseconds = 51
number_of NoPathQualifies = 52

abbrev pub told : {A : Type 0} → Result A Number → ℕ
told (Ok _) = number_of Done
told (Err n) = number_of n
