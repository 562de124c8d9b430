-- Trusted. Notifications that a request and a response both carry: 01, step 4 of "One request, step by step", and "The
-- display's end".
--
--   nat_notifies      the two NAT detection notifications, source first
--   cookie_notifies   the cookie's notification; none where the cookie is empty
use Rattle.std.specs.Prelude.{ℕ, List, [], ◌∷◌, cond, not, eqb, length}
use Rattle.octets.specs.Wire.{cookie2, nat_detection_destination_ip, nat_detection_source_ip}
use Rattle.writing.specs.Notify.{Notification, notification}

-- "the two lent values, source first"; "NAT source, NAT destination (both or neither)".
abbrev pub nat_notifies : List ℕ → List ℕ → List Notification
nat_notifies nat-source nat-destination =
    notification nat_detection_source_ip nat-source ∷ notification nat_detection_destination_ip nat-destination ∷ []

-- "then COOKIE2 unchanged": its data in a payload of its own, since next type and flags are written anew.
abbrev pub cookie_notifies : List ℕ → List Notification
cookie_notifies cookie = cond (not (eqb (length cookie) 0)) (notification cookie2 cookie ∷ []) []
