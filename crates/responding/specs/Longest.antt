-- Trusted. The handler's 128 octets are those of the longest response: none has more, and one has as many.
--
--   longest         both NAT values and the longest cookie
--   ResponseExact   the statement; `response_exact` in `proofs/Longest.antt` proves it
use Rattle.std.specs.Prelude.{ℕ, ◌≤◌, ◌≡◌, List, Bool, true, length, replicate}
use Rattle.octets.specs.Limits.{nat_octets, cookie_most, response_room}
use Rattle.writing.specs.Notify.{Notification, chained}
use Rattle.verdict.specs.declared.update.Verdict.{Verdict}
use Rattle.verdict.specs.declared.update.Verdict.TheVariants.{Accepted}
use Rattle.responding.specs.Respond.{response_to}

abbrev pub longest : List Notification
longest = response_to Accepted true (replicate nat_octets 0) (replicate nat_octets 0) (replicate cookie_most 0)

-- Lent values have 20 octets, by check 1, and a cookie that was read at most 64.
pub record ResponseExact : Type 0 where
  pub enough : (v : Verdict) (wanted : Bool) (nat-source nat-destination cookie : List ℕ)
      → length nat-source ≡ nat_octets → length nat-destination ≡ nat_octets → length cookie ≤ cookie_most
      → length (chained (response_to v wanted nat-source nat-destination cookie) 0) ≤ response_room
  pub needed : length (chained longest 0) ≡ response_room
