-- The room that the handler asks for is that of the longest response.
use Prim.Native.Nat.{ℕ, ◌+◌, ◌≤◌}
use mathlib.Core.Path.{◌≡◌, refl}
use mathlib.Core.List.{List, [], ◌∷◌}
use mathlib.Core.Bool.{Bool, true, false}
use native.Mathlib.Omega.{arith}
use lib.ListN.{length, length-append}
use Rattle.octets.specs.Limits.{nat_octets, cookie_most, response_room}
use Rattle.octets.specs.Wire.{unacceptable_addresses, unexpected_nat_detected}
use Rattle.octets.specs.Wire.{nat_detection_destination_ip, nat_detection_source_ip}
use Rattle.writing.specs.Notify.{Notification, notification, notify_octets, first_type, chained}
use Rattle.writing.specs.Parts.{cookie_notifies}
use Rattle.writing.proofs.Chained.{chained_append, length-one}
use Rattle.verdict.specs.declared.update.Verdict.{Verdict}
use Rattle.verdict.specs.declared.update.Verdict.TheVariants.{Accepted, Altered, Unacceptable}
use Rattle.responding.specs.Respond.{response_to}
use Rattle.responding.specs.Longest.{ResponseExact}
use Rattle.responding.proofs.Lengths.{cookie_length}

-- one notification before others
length-first : (x : Notification) (ys : List Notification)
    → length (chained (x ∷ ys) 0) ≡ length (chained (x ∷ []) (first_type ys 0)) + length (chained ys 0)
length-first x ys =
    rw (chained_append (x ∷ []) ys 0) (length-append (chained (x ∷ []) (first_type ys 0)) (chained ys 0))

-- an error without data, then the cookie
error_short : (notify_type : ℕ) (cookie : List ℕ) → length cookie ≤ cookie_most
    → length (chained (notification notify_type [] ∷ cookie_notifies cookie) 0) ≤ response_room
error_short notify_type cookie c =
    let x = notification notify_type [] in
    let ys = cookie_notifies cookie in
    omega (arith, c, length-first x ys, length-one x (first_type ys 0), cookie_length cookie)

short : (v : Verdict) (wanted : Bool) (nat-source nat-destination cookie : List ℕ)
    → length nat-source ≡ nat_octets → length nat-destination ≡ nat_octets → length cookie ≤ cookie_most
    → length (chained (response_to v wanted nat-source nat-destination cookie) 0) ≤ response_room
short Accepted true nat-source nat-destination cookie s d c =
    let x = notification nat_detection_source_ip nat-source in
    let y = notification nat_detection_destination_ip nat-destination in
    let ys = cookie_notifies cookie in
    omega (
      arith,
      s,
      d,
      c,
      length-first x (y ∷ ys),
      length-first y ys,
      length-one x (first_type (y ∷ ys) 0),
      length-one y (first_type ys 0),
      cookie_length cookie,
    )
short Accepted false nat-source nat-destination cookie s d c = omega (arith, c, cookie_length cookie)
short Altered wanted nat-source nat-destination cookie s d c = error_short unexpected_nat_detected cookie c
short Unacceptable wanted nat-source nat-destination cookie s d c = error_short unacceptable_addresses cookie c

pub response_exact : ResponseExact
unfolding chained notify_octets
response_exact = record { enough = short; needed = refl }
