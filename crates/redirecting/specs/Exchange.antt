-- Trusted. The exchange that a REDIRECT came in (02, E7: "decide a REDIRECT from it and the exchange").
--
--   exchange_of   the exchange for the number that a host gives
--   is_init       the nonce is sent back in it
--   allows       a REDIRECT may come in it
use Rattle.std.specs.Prelude.{ℕ, Bool, true, false, cond, eqb}
use Rattle.redirecting.specs.declared.exchange.Exchange.{Exchange}
use Rattle.redirecting.specs.declared.exchange.Exchange.TheVariants.{SaInit, FirstAuth, MiddleAuth, LastAuth}
use Rattle.redirecting.specs.declared.exchange.Exchange.TheVariants.{Informational, Other}

-- The IKE_AUTH responses are told apart as RFC 5685, 6, does: "the client MUST accept the REDIRECT notification only in
-- the first IKE_AUTH response or the last IKE_AUTH response". Any other number is another exchange.
unfoldable pub exchange_of : ℕ → Exchange
exchange_of number =
    cond (eqb number 0) SaInit
    (cond (eqb number 1) FirstAuth
    (cond (eqb number 2) MiddleAuth
    (cond (eqb number 3) LastAuth
    (cond (eqb number 4) Informational
    Other))))

-- "In IKE_SA_INIT the nonce must equal the one sent"
abbrev pub is_init : Exchange → Bool
is_init SaInit = true
is_init FirstAuth = false
is_init MiddleAuth = false
is_init LastAuth = false
is_init Informational = false
is_init Other = false

-- "31 a middle IKE_AUTH response"; RFC 5685, 3, 5 and 6, have a REDIRECT in no other exchange than these four.
abbrev pub allows : Exchange → Bool
allows SaInit = true
allows FirstAuth = true
allows MiddleAuth = false
allows LastAuth = true
allows Informational = true
allows Other = false
