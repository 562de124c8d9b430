-- Inner. How much room each part of a request takes at most, and which payload type stands before it, for the contracts
-- of `putting`; `requests/proofs/Whole.antt` puts the parts together to the request as `asking/specs/Draft.antt` has
-- it.
use Rattle.std.specs.Prelude.{ℕ, ◌+◌, ◌*◌, ◌≤◌, ◌≡◌, List, ◌∷◌, Bool, length}
use Rattle.octets.specs.Limits.{notify_header, nat_octets, no_nats_most, ip6_octets, addresses_most, cookie_most}
use Rattle.writing.specs.Notify.{Notification, first_type}
use Rattle.asking.specs.Draft.{if_asked, tail_notifies}

abbrev pub no_nats_room : ℕ
no_nats_room = notify_header + no_nats_most

abbrev pub nats_room : ℕ
nats_room = 2 * (notify_header + nat_octets)

abbrev pub address_room : ℕ
address_room = notify_header + ip6_octets

abbrev pub cookie_room : ℕ
cookie_room = notify_header + cookie_most

-- NO_ADDITIONAL_ADDRESSES stands only where no address does, and takes less.
abbrev pub tail_room : ℕ
tail_room = addresses_most * address_room + cookie_room

-- r is the type of what stands first where notifications are put if they are asked for, whichever they are.
abbrev pub TypeIf : Bool → ℕ → ℕ → Type 0
TypeIf asked next r = (x : Notification) (xs : List Notification) → r ≡ first_type (if_asked asked (x ∷ xs)) next

-- r is the first type of a request's end with so many addresses and a cookie of `size` octets, whichever they are.
abbrev pub TailType : Bool → ℕ → ℕ → ℕ → Type 0
TailType no-additional count size r =
    (families : List ℕ) (addresses : List (List ℕ)) (cookie : List ℕ)
    → count ≤ length families → count ≤ length addresses → length cookie ≡ size
    → r ≡ first_type (tail_notifies no-additional count families addresses cookie) 0
