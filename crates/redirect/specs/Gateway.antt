-- Inner. A gateway read or to write, as the functions below the exported calls pass it on.
--
--   may_be_named            whether a notification may name a gateway by an FQDN
--   malformed               what 30 tells of a notification's data
--   GatewayIn               a gateway in lent data: its identity and its nonce are parts of it
--   ReadAs                  what a reading gives: the gateway, or 30
--   HandedOut               the parts that are handed out of a reading
--   read_told, written_told   what is told of a reading and of a writing
use Rattle.std.specs.Prelude.{ℕ, ◌≡◌, List, Bool, true, false, Result, Ok, Err}
use Rattle.std.specs.Borrow.{Bor}
use Rattle.octets.specs.declared.number.Number.{Number}
use Rattle.octets.specs.declared.number.Number.TheVariants.{BadRedirect}
use Rattle.octets.specs.Numbers.{number_of}
use Rattle.values.specs.Values.{PartOf}
use Rattle.redirect.specs.Wire.{identity_header}
use Rattle.redirect.specs.Read.{identity_type, identity_size, nonce_at, nonce_size, redirect_malformed, from_malformed}
use Rattle.redirect.specs.declared.gateway.Gateway.{Gateway}
use Rattle.redirect.specs.declared.gateway.GatewayRead.{GatewayRead}
use Rattle.redirect.specs.declared.gateway.DataWritten.{DataWritten}
use Rattle.redirect.specs.declared.gateway.Notification.{Notification}
use Rattle.redirect.specs.declared.gateway.Notification.TheVariants.{Redirect, RedirectedFrom}

abbrev pub may_be_named : Notification → Bool
may_be_named Redirect = true
may_be_named RedirectedFrom = false

abbrev pub malformed : Notification → List ℕ → Bool
malformed Redirect octets = redirect_malformed octets
malformed RedirectedFrom octets = from_malformed octets

pub record GatewayIn (octets : Bor (List ℕ)) (g : Gateway) : Type 0 where
  pub type_is : g.identity_type ≡ identity_type octets.now
  pub identity_part : PartOf octets identity_header (identity_size octets.now) g.identity
  pub nonce_part : PartOf octets (nonce_at octets.now) (nonce_size octets.now) g.nonce

abbrev pub ReadAs : Notification → Bor (List ℕ) → Result Gateway Number → Type 0
ReadAs n octets (Ok g) = (malformed n octets.now ≡ false) × GatewayIn octets g
ReadAs n octets (Err e) = (malformed n octets.now ≡ true) × (e ≡ BadRedirect)

-- What is handed out of a reading: nothing with a refusal, as at offset 0.
abbrev pub HandedOut : Bor (List ℕ) → Result Gateway Number → Gateway → Type 0
HandedOut octets (Ok g) h = h ≡ g
HandedOut octets (Err n) h = PartOf octets 0 0 h.identity × PartOf octets 0 0 h.nonce

abbrev pub read_told : Result Gateway Number → GatewayRead
read_told (Ok g) = record { number = 0; identity_type = g.identity_type }
read_told (Err n) = record { number = number_of n; identity_type = 0 }

abbrev pub written_told : Result ℕ Number → DataWritten
written_told (Ok length) = record { number = 0; length = length }
written_told (Err n) = record { number = number_of n; length = 0 }
