-- What is told and handed out of a reading is what the exported calls promise.
use Prim.Native.Nat.{ℕ}
use mathlib.Core.Path.{◌≡◌, refl}
use mathlib.Core.List.{List}
use Rattle.std.specs.Prelude.{Result, Ok, Err}
use Rattle.std.specs.Borrow.{Bor}
use Rattle.octets.specs.declared.number.Number.{Number}
use Rattle.values.specs.Values.{PartOf}
use Rattle.redirect.specs.Read.{RedirectReadAs, FromReadAs}
use Rattle.redirect.specs.Gateway.{ReadAs, HandedOut, read_told}
use Rattle.redirect.specs.declared.gateway.Gateway.{Gateway}
use Rattle.redirect.specs.declared.gateway.Notification.TheVariants.{Redirect, RedirectedFrom}

-- at offset 0 nothing stands, of whatever size
pub nothing : {octets part : Bor (List ℕ)} (size : ℕ) → PartOf octets 0 0 part → PartOf octets 0 size part
nothing size h = record { octets = h.octets; allocation = h.allocation; offset = h.offset }

pub redirect_told : (octets : Bor (List ℕ)) (r : Result Gateway Number) (h : Gateway) → ReadAs Redirect octets r
    → HandedOut octets r h → RedirectReadAs octets (read_told r) h.identity h.nonce
redirect_told octets (Ok g) h (sound, given) out =
    record { is = rw (sound, given.type_is); identity_part = rw out given.identity_part; nonce_part = rw out given.nonce_part }
redirect_told octets (Err n) h (wrong, e) out =
    rw e (record { is = rw wrong; identity_part = nothing _ out.0; nonce_part = nothing _ out.1 })

pub from_told : (octets : Bor (List ℕ)) (r : Result Gateway Number) (h : Gateway) → ReadAs RedirectedFrom octets r
    → HandedOut octets r h → FromReadAs octets (read_told r) h.identity
from_told octets (Ok g) h (sound, given) out =
    record { is = rw (sound, given.type_is); identity_part = rw out given.identity_part }
from_told octets (Err n) h (wrong, e) out = rw e (record { is = rw wrong; identity_part = nothing _ out.0 })
