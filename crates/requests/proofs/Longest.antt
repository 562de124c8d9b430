-- The room that the writer asks for is that of the longest request.
use Prim.Native.Nat.{◌+◌, ◌≤◌}
use mathlib.Core.Path.{◌≡◌, refl}
use mathlib.Core.List.{List, [], ◌++◌, zip_with}
use mathlib.Core.Bool.{true}
use native.Mathlib.Omega.{arith}
use lib.ListN.{length, length-append}
use Rattle.octets.specs.Limits.{request_room}
use Rattle.octets.specs.Wire.{update_sa_addresses}
use Rattle.writing.specs.Notify.{Notification, notification, notify_octets, first_type, chained}
use Rattle.writing.proofs.Chained.{chained_append}
use Rattle.asking.specs.Draft.{Draft, no_nats_octets, request_octets}
use Rattle.asking.specs.Fits.{cookie_fits, request_fits}
use Rattle.asking.proofs.Fitting.{fitting}
use Rattle.putting.proofs.Asked.{length-asked}
use Rattle.requests.specs.Longest.{RoomExact}
use Rattle.requests.proofs.Whole.{update, no_nats_lem, nats, tail, no_nats_short, nats_short, tail_short}

-- two parts have the octets of both
length_both : (xs ys : List Notification)
    → length (chained (xs ++ ys) 0) ≡ length (chained xs (first_type ys 0)) + length (chained ys 0)
length_both xs ys = rw (chained_append xs ys 0) (length-append (chained xs (first_type ys 0)) (chained ys 0))

pub no_longer : (q : Draft) → request_fits q ≡ true → length (request_octets q) ≤ request_room
no_longer q fits =
    let fit = fitting q fits in
    let c = nats q ++ tail q in
    let b = no_nats_lem q ++ c in
    omega (
      arith,
      length_both (update q) b,
      length_both (no_nats_lem q) c,
      length_both (nats q) (tail q),
      length-asked q.ask.update (notification update_sa_addresses []) (first_type b 0),
      no_nats_short q fit (first_type c 0),
      nats_short q fit (first_type (tail q) 0),
      tail_short q fit,
    )

pub room_exact : RoomExact
unfolding chained notify_octets no_nats_octets zip_with request_fits cookie_fits
room_exact = record { enough = no_longer; fits = refl; needed = refl }
