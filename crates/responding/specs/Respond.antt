-- Trusted. The response as a list of notifications: 01's "One request, step by step", step 4, and the column "Response"
-- of its table of numbers.
--
--   wants_nats    whether the request had both NAT detection kinds
--   error_then    an error with its data, then the cookie
--   response_to   the response to a request that was decided, by the verdict on it
--   Response     what is told of a response: the type of its first payload, and how many octets it has
--   told_of       the same, of a list of notifications
--   no_response   the same, where nothing is written
use Rattle.std.specs.Prelude.{ℕ, List, [], ◌∷◌, ◌++◌, Bool, cond, ◌&&◌, not, eqb, length}
use Rattle.octets.specs.Wire.{unacceptable_addresses, unexpected_nat_detected}
use Rattle.writing.specs.Notify.{Notification, notification, first_type, chained}
use Rattle.writing.specs.Parts.{nat_notifies, cookie_notifies}
use Rattle.findings.specs.declared.seen.Seen.{Seen}
use Rattle.verdict.specs.declared.update.Verdict.{Verdict}
use Rattle.verdict.specs.declared.update.Verdict.TheVariants.{Accepted, Altered, Unacceptable}
use Rattle.responding.specs.declared.respond.Response.{Response}

-- 01: "both NAT detection kinds"; E2: they are answered "in any INFORMATIONAL request", with an update or without.
abbrev pub wants_nats : Seen → Bool
wants_nats s = not (eqb s.nat_source 0) && not (eqb s.nat_destination 0)

-- "for 8 and 9 the error, then COOKIE2 if the request had it"; 6 and 7 have no cookie here: they "copy no COOKIE2".
abbrev pub error_then : ℕ → List ℕ → List ℕ → List Notification
error_then notify_type octets cookie = notification notify_type octets ∷ cookie_notifies cookie

-- "UNEXPECTED_NAT_DETECTED (41)" for 8, "UNACCEPTABLE_ADDRESSES (40)" for 9. "Otherwise, for a request with ... both
-- NAT detection kinds, the two lent values, source first; then COOKIE2 unchanged."; E2 leaves out the update that stood
-- between.
abbrev pub response_to : Verdict → Bool → List ℕ → List ℕ → List ℕ → List Notification
response_to Accepted wanted nat-source nat-destination cookie =
    cond wanted (nat_notifies nat-source nat-destination) [] ++ cookie_notifies cookie
response_to Altered wanted nat-source nat-destination cookie = error_then unexpected_nat_detected [] cookie
response_to Unacceptable wanted nat-source nat-destination cookie = error_then unacceptable_addresses [] cookie

-- "Its first type is 41, or 0 where nothing is written."
abbrev pub told_of : List Notification → Response
told_of xs = record { first = first_type xs 0; length = length (chained xs 0) }

-- "None" "reports length 0"
abbrev pub no_response : Response
no_response = record { first = 0; length = 0 }
