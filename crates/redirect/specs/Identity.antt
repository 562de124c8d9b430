-- Trusted. Which gateway identities and nonces have a size that is allowed (02, E7).
--
--   identity_fits   whether an identity of a type may have a size; `named`: whether a name may stand there
--   nonce_fits      whether a nonce may have a size
--   no_nonce_or      the same of a nonce to write, where no octets are no nonce
use Rattle.std.specs.Prelude.{ℕ, Bool, false, cond, ◌&&◌, ◌||◌, eqb, leb}
use Rattle.octets.specs.Limits.{ip4_octets, ip6_octets}
use Rattle.redirect.specs.Wire.{ip4_identity, ip6_identity, fqdn_identity, fqdn_least, fqdn_most}
use Rattle.redirect.specs.Wire.{nonce_least, nonce_most}

-- "Identity types are 1, 2 and, in REDIRECT only, 3, of 4, 16 and 1 to 255 octets."
unfoldable pub identity_fits : Bool → ℕ → ℕ → Bool
identity_fits named identity_type size =
    cond (eqb identity_type ip4_identity) (eqb size ip4_octets)
    (cond (eqb identity_type ip6_identity) (eqb size ip6_octets)
    (cond (eqb identity_type fqdn_identity) (named && (leb fqdn_least size && leb size fqdn_most))
    false))

-- "16 to 256 octets"
unfoldable pub nonce_fits : ℕ → Bool
nonce_fits size = leb nonce_least size && leb size nonce_most

-- A REDIRECT outside IKE_SA_INIT carries none: RFC 5685, 9.2: "It MUST NOT be included in the REDIRECT payload if sent
-- in an IKE_AUTH response or in a gateway-initiated redirect message."
unfoldable pub no_nonce_or : ℕ → Bool
no_nonce_or size = eqb size 0 || nonce_fits size
