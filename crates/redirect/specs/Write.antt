-- Trusted. The data of the redirect notifications, written (02, E7: "read and write the data").
--
--   gateway_octets   the data of a REDIRECT, or of a REDIRECTED_FROM where the nonce is empty
--   unfit           what 30 tells of an identity and a nonce to write; `named`: whether a name may stand there
--   write_checks     the checks of each writer, in their order, for an output of `room` octets
--   written         what is told: the number, and how many octets were written
--   DataWrittenAs   what the exported calls promise of both
use Rattle.std.specs.Prelude.{ℕ, ◌≡◌, List, [], ◌∷◌, ◌++◌, Bool, cond, ◌||◌, not, eqb, ltb, length}
use Rattle.octets.specs.declared.number.Number.TheVariants.{OutputTooShort, BadRedirect}
use Rattle.octets.specs.Checks.{Check, ◌gives◌, first_failed}
use Rattle.writing.specs.Notify.{placed}
use Rattle.redirect.specs.Wire.{redirect_room}
use Rattle.redirect.specs.Identity.{identity_fits, no_nonce_or}
use Rattle.redirect.specs.declared.gateway.DataWritten.{DataWritten}

-- RFC 5685, 9.2 and 9.3: "GW Ident Type", "GW Ident Len", the identity, "Nonce Data"
unfoldable pub gateway_octets : ℕ → List ℕ → List ℕ → List ℕ
gateway_octets identity_type identity nonce = identity_type ∷ length identity ∷ identity ++ nonce

-- "30 malformed (..., identity type or length, length of a nonce sent or to write)"
abbrev pub unfit : Bool → ℕ → List ℕ → List ℕ → Bool
unfit named identity_type identity nonce =
    not (identity_fits named identity_type (length identity)) || not (no_nonce_or (length nonce))

-- "Refusals, in order: 2 output under 513 octets, 30 malformed"
abbrev pub write_checks : Bool → ℕ → List Check
write_checks malformed room =
    ltb room redirect_room gives OutputTooShort
    ∷ malformed gives BadRedirect
    ∷ []

unfoldable pub written : List Check → List ℕ → DataWritten
written checks octets =
    let number = first_failed checks in
    record { number = number; length = cond (eqb number 0) (length octets) 0 }

-- What is promised where `out` was lent and `end` is left in it: a refusal writes nothing, and octets past the reported
-- length are untouched.
pub record DataWrittenAs (malformed : Bool) (octets out : List ℕ) (r : DataWritten) (end : List ℕ) : Type 0 where
  pub is : r ≡ written (write_checks malformed (length out)) octets
  pub end_is : end ≡ cond (eqb r.number 0) (placed out 0 octets) out
