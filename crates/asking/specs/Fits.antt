-- Trusted. When what is asked of the writer fits; else it answers 1: 01, "The display's end" and "The numbers given
-- back".
--
--   unless_asked    true of what is not asked for, whatever its arguments
--   count_fits      how many addresses
--   nats_fit        the two NAT detection values, by their lengths
--   listed_fits     the address at a place of the list
--   cookie_fits     a cookie to send, by its length
--   request_fits    all of them
use Rattle.std.specs.Prelude.{ℕ, List, [], Bool, cond, ◌&&◌, ◌||◌, not, eqb, leb, ltb, length, get_or}
use Rattle.octets.specs.Limits.{addresses_most, nat_octets, cookie_least, cookie_most}
use Rattle.octets.specs.Lists.{all_below}
use Rattle.address.specs.Address.{address_fits, pair_fits}
use Rattle.asking.specs.Draft.{Draft}
use Rattle.asking.specs.declared.ask.Ask.{Ask}

-- 01: "Places past a list's count, and arguments for what isn't asked for, aren't looked at".
abbrev pub unless_asked : Bool → Bool → Bool
unless_asked asked fits = not asked || fits

-- 01: "Asking for more than 16, for addresses with NO_ADDITIONAL_ADDRESSES ... is answer 1."
abbrev pub count_fits : Ask → Bool
count_fits a = leb a.count addresses_most && unless_asked a.no_additional (eqb a.count 0)

-- 01: "... or for one NAT kind alone is answer 1"; "a lent NAT value not of 20 octets".
abbrev pub nats_fit : Ask → ℕ → ℕ → Bool
nats_fit a source-length destination-length =
    cond a.nat_source
    (a.nat_destination && (eqb source-length nat_octets && eqb destination-length nat_octets))
    (not a.nat_destination)

abbrev pub listed_fits : List ℕ → List (List ℕ) → ℕ → Bool
listed_fits families addresses i = address_fits (get_or families i 0) (get_or addresses i [])

-- 01, number 1: "a cookie to send not of 0 or 8 to 64 octets".
unfoldable pub cookie_fits : ℕ → Bool
cookie_fits n = eqb n 0 || (not (ltb n cookie_least) && leb n cookie_most)

-- 01, number 1: "family not 4 or 6, IPv4 tail not zero, ..., a lent NAT value not of 20 octets, or a cookie to send not
-- of 0 or 8 to 64 octets", each of what is asked for.
unfoldable pub request_fits : Draft → Bool
request_fits q =
    count_fits q.ask
    && (nats_fit q.ask (length q.nat-source) (length q.nat-destination)
    && (unless_asked q.ask.no_nats (pair_fits q.pair)
    && (all_below (listed_fits q.families q.addresses) q.ask.count
    && cookie_fits (length q.cookie))))
