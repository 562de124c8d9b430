-- Trusted. The pending return routability check of an IKE record: 02, E6, and RFC 4555, 3.7.
--
--   PendingCheck   cookie by its length and 64 octets, and the message ID of our request; 02's "pending check"
--   cookie_sized    a cookie of this length can be sent
--   no_check        none
--   check_of        the check that a request of ours with a cookie and an ID makes
--   is_pending      a check is under way
--   cookie_sent     the cookie of a check
use Rattle.std.specs.Prelude.{ℕ, List, Bool, cond, ◌&&◌, leb, length, take, replicate}
use Rattle.octets.specs.Limits.{cookie_least, cookie_most}
use Rattle.octets.specs.Lists.{first_of}
use Rattle.records.specs.declared.check.PendingCheck.{PendingCheck}

-- E6: "a cookie of 8 to 64 octets".
abbrev pub cookie_sized : ℕ → Bool
cookie_sized n = leb cookie_least n && leb n cookie_most

abbrev pub no_check : PendingCheck
no_check = record { length = 0; octets = replicate cookie_most 0; id = 0 }

-- E6: "a pending check: a cookie of 8 to 64 octets and the ID of our request". Octets past its length are 0, as 01 has
-- it of every list newly kept; of a cookie of another length there is none.
unfoldable pub check_of : List ℕ → ℕ → PendingCheck
check_of cookie id =
    cond (cookie_sized (length cookie))
    (record { length = length cookie; octets = first_of cookie_most 0 (length cookie) cookie; id = id })
    no_check

-- E6: "a kept cookie of another length reads as no check".
abbrev pub is_pending : PendingCheck → Bool
is_pending c = cookie_sized c.length

abbrev pub cookie_sent : PendingCheck → List ℕ
cookie_sent c = take c.length c.octets
