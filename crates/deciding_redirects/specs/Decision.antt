-- Trusted. The decision on a REDIRECT (02, E7: "It is accepted exactly if no refusal applies").
--
--   Asked            what it goes by beside the record: the exchange by its number, the nonce sent, the time, the data
--   data_checks       what 30, 31 and 32 tell
--   decision_checks   all checks, in their order; `heard` are the times of accepted ones
--   decision_number   the number told: 0 accepted, else that of the first check that fails
--   after_number      the record after a decision with a number; `after_decision` after a decision
--   told_of           what is told of it; `decision_told`: by the gateway that it gives
--   DecidedAs        what the exported call promises
use Rattle.std.specs.Prelude.{ℕ, ◌≡◌, List, [], ◌∷◌, ◌++◌, cond, ◌&&◌, ◌||◌, not, eqb, length, Result, Ok, Err}
use Rattle.std.specs.Borrow.{Bor}
use Rattle.octets.specs.declared.number.Number.{Number}
use Rattle.octets.specs.declared.number.Number.TheVariants.{BadRedirect, WrongExchange, WrongNonce}
use Rattle.octets.specs.Numbers.{number_of}
use Rattle.octets.specs.Checks.{Check, ◌gives◌, first_failed}
use Rattle.initiator.specs.Response.{same}
use Rattle.redirect.specs.Identity.{nonce_fits}
use Rattle.redirect.specs.declared.gateway.Gateway.{Gateway}
use Rattle.redirect.specs.Read.{nonce_in, redirect_malformed, type_told, IdentityOf}
use Rattle.redirecting.specs.Exchange.{exchange_of, is_init, allows}
use Rattle.redirecting.specs.Times.{kept, time_checks, keeping}
use Rattle.deciding_redirects.specs.declared.RedirectDecision.{RedirectDecision}
use Rattle.redirecting.specs.declared.exchange.Exchange.{Exchange}
use Rattle.redirecting.specs.declared.times.Accepted.{Accepted}

pub record Asked : Type 0 where
  pub exchange : ℕ
  pub sent : List ℕ
  pub time : ℕ
  pub octets : List ℕ

abbrev pub asked : ℕ → List ℕ → ℕ → List ℕ → Asked
asked exchange sent time octets = record { exchange = exchange; sent = sent; time = time; octets = octets }

-- "30 malformed (..., length of a nonce sent ...)": the nonce sent is asked for in IKE_SA_INIT alone.
-- "31 a middle IKE_AUTH response, or a nonce outside IKE_SA_INIT, 32 nonce missing or different".
abbrev pub data_checks : Exchange → List ℕ → List ℕ → List Check
data_checks exchange sent octets =
    let nonce = nonce_in octets in
    (redirect_malformed octets || (is_init exchange && not (nonce_fits (length sent)))) gives BadRedirect
    ∷ (not (allows exchange) || (not (is_init exchange) && not (eqb (length nonce) 0))) gives WrongExchange
    ∷ (is_init exchange && not (same nonce sent)) gives WrongNonce
    ∷ []

-- "Refusals, in order: ... 30 ..., 31 ..., 32 ..., 33 ..., 34 ..."
abbrev pub decision_checks : List ℕ → Asked → List Check
decision_checks heard a = data_checks (exchange_of a.exchange) a.sent a.octets ++ time_checks heard a.time

unfoldable pub decision_number : List ℕ → Asked → ℕ
decision_number heard a = first_failed (decision_checks heard a)

-- "the display's record keeps its time"; "none changes the record"
unfoldable pub after_number : Accepted → ℕ → ℕ → Accepted
after_number r time number = cond (eqb number 0) (keeping r time) r

abbrev pub after_decision : Accepted → Asked → Accepted
after_decision r a = after_number r a.time (decision_number (kept r) a)

-- the type of the gateway's identity and the length of the nonce; with a refusal nothing
abbrev pub told_of : ℕ → List ℕ → RedirectDecision
told_of number octets =
    record {
      number = number;
      identity_type = type_told number octets;
      nonce_len = cond (eqb number 0) (length (nonce_in octets)) 0;
    }

-- the same of a gateway in the data, or a refusal
abbrev pub decision_told : Result Gateway Number → RedirectDecision
decision_told (Ok g) = record { number = 0; identity_type = g.identity_type; nonce_len = length g.nonce.now }
decision_told (Err n) = record { number = number_of n; identity_type = 0; nonce_len = 0 }

-- What is promised where `r` was lent and `after` is left in it. The identity is handed out as a part of the data.
pub record DecidedAs (r : Accepted) (exchange : ℕ) (sent : List ℕ) (time : ℕ) (octets : Bor (List ℕ))
    (d : RedirectDecision) (after : Accepted) (identity : Bor (List ℕ)) : Type 0 where
  pub is : d ≡ told_of (decision_number (kept r) (asked exchange sent time octets.now)) octets.now
  pub record_is : after ≡ after_decision r (asked exchange sent time octets.now)
  pub identity_part : IdentityOf d.number octets identity
