-- Trusted. The data of the redirect notifications, read (02, E7: "read and write the data").
--
--   identity_type, identity_size           the first two octets of the data
--   identity_in                           the identity, behind them
--   nonce_at, nonce_size, nonce_in          what stands behind the identity: in a REDIRECT the nonce
--   cut                                  the data ends before its identity does
--   redirect_malformed, from_malformed     what 30 tells, of a REDIRECT and of a REDIRECTED_FROM
--   redirect_checks, from_checks, supported_checks   the checks of each reading
--   gateway_read                          what is told of a REDIRECT or a REDIRECTED_FROM
--   RedirectReadAs, FromReadAs           what the exported calls promise: this, and the parts that are handed out
--
-- REDIRECT and REDIRECTED_FROM (which has no nonce), RFC 5685, 9.2 and 9.3:
--
--   +---------------+---------------+-------------------------------+
--   | identity type | identity size |           identity            |
--   +---------------+---------------+-------------------------------+
--   |                             nonce                             |
--   +---------------------------------------------------------------+
use Rattle.std.specs.Prelude.{ℕ, ◌+◌, ◌-◌, ◌≡◌, List, [], ◌∷◌, Bool, true, false, cond, ◌||◌, not, eqb, ltb, length, get_or}
use Rattle.std.specs.Borrow.{Bor}
use Rattle.octets.specs.declared.number.Number.TheVariants.{BadRedirect}
use Rattle.octets.specs.Checks.{Check, ◌gives◌, first_failed}
use Rattle.values.specs.Values.{part_of, PartOf}
use Rattle.redirect.specs.Wire.{identity_header}
use Rattle.redirect.specs.Identity.{identity_fits}
use Rattle.redirect.specs.declared.gateway.GatewayRead.{GatewayRead}

-- 0 where the data ends before it
abbrev pub identity_type : List ℕ → ℕ
identity_type octets = get_or octets 0 0

abbrev pub identity_size : List ℕ → ℕ
identity_size octets = get_or octets 1 0

-- the identity, as a part of the data
abbrev pub identity_in : List ℕ → List ℕ
identity_in octets = part_of octets identity_header (identity_size octets)

-- What stands behind the identity is the nonce. RFC 5685, 9.2: "The 'Nonce Data' field is present in the REDIRECT
-- payload only when the REDIRECT payload is sent in the IKE_SA_INIT response message."
abbrev pub nonce_at : List ℕ → ℕ
nonce_at octets = identity_header + identity_size octets

abbrev pub nonce_size : List ℕ → ℕ
nonce_size octets = length octets - nonce_at octets

abbrev pub nonce_in : List ℕ → List ℕ
nonce_in octets = part_of octets (nonce_at octets) (nonce_size octets)

-- "data cut": the identity, or what stands before it, is not whole
abbrev pub cut : List ℕ → Bool
cut octets = ltb (length octets) (nonce_at octets)

-- "30 malformed (data cut or left over, identity type or length, ...)". In a REDIRECT what follows the identity is the
-- nonce, so nothing is left over.
unfoldable pub redirect_malformed : List ℕ → Bool
redirect_malformed octets = cut octets || not (identity_fits true (identity_type octets) (identity_size octets))

-- in a REDIRECTED_FROM no name may stand, and nothing behind the identity
unfoldable pub from_malformed : List ℕ → Bool
from_malformed octets =
    cut octets
    || (not (identity_fits false (identity_type octets) (identity_size octets)) || not (eqb (nonce_size octets) 0))

abbrev pub redirect_checks : List ℕ → List Check
redirect_checks octets = redirect_malformed octets gives BadRedirect ∷ []

abbrev pub from_checks : List ℕ → List Check
from_checks octets = from_malformed octets gives BadRedirect ∷ []

-- "REDIRECT_SUPPORTED (16406, no data)": whatever stands there is left over
abbrev pub supported_checks : List ℕ → List Check
supported_checks octets = not (eqb (length octets) 0) gives BadRedirect ∷ []

-- with a refusal nothing else is told
abbrev pub type_told : ℕ → List ℕ → ℕ
type_told number octets = cond (eqb number 0) (identity_type octets) 0

abbrev pub gateway_read : ℕ → List ℕ → GatewayRead
gateway_read number octets = record { number = number; identity_type = type_told number octets }

-- Where a part stands that is handed out with this number: offset 0, and so nowhere, with a refusal.
abbrev pub stands_at : ℕ → ℕ → ℕ
stands_at number at = cond (eqb number 0) at 0

-- The identity handed out with a number, as a part of the lent data.
abbrev pub IdentityOf : ℕ → Bor (List ℕ) → Bor (List ℕ) → Type 0
IdentityOf number octets part = PartOf octets (stands_at number identity_header) (identity_size octets.now) part

abbrev pub NonceOf : ℕ → Bor (List ℕ) → Bor (List ℕ) → Type 0
NonceOf number octets part = PartOf octets (stands_at number (nonce_at octets.now)) (nonce_size octets.now) part

-- What is promised of a REDIRECT's data, and of a REDIRECTED_FROM's.
pub record RedirectReadAs (octets : Bor (List ℕ)) (r : GatewayRead) (identity nonce : Bor (List ℕ)) : Type 0 where
  pub is : r ≡ gateway_read (first_failed (redirect_checks octets.now)) octets.now
  pub identity_part : IdentityOf r.number octets identity
  pub nonce_part : NonceOf r.number octets nonce

pub record FromReadAs (octets : Bor (List ℕ)) (r : GatewayRead) (identity : Bor (List ℕ)) : Type 0 where
  pub is : r ≡ gateway_read (first_failed (from_checks octets.now)) octets.now
  pub identity_part : IdentityOf r.number octets identity
