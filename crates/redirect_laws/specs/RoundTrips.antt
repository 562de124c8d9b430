-- Trusted. What is claimed of the data of the redirect notifications (02, E7: "read and write the data"): what was
-- written reads back the same, and what was read is written as the same octets. `round_trips` in
-- `proofs/RoundTrips.antt` proves it.
--
--   redirect_written, from_written   the number that a writer answers, for an output of `room` octets
--   redirect_read, from_read         the number that a reader answers
use Rattle.std.specs.Prelude.{ℕ, ◌≤◌, ◌≡◌, List, [], true, false, cond, length}
use Rattle.octets.specs.declared.number.Number.TheVariants.{BadRedirect}
use Rattle.octets.specs.Numbers.{number_of}
use Rattle.octets.specs.Checks.{first_failed}
use Rattle.redirect.specs.Wire.{redirect_room}
use Rattle.redirect.specs.Identity.{no_nonce_or}
use Rattle.redirect.specs.Read.{identity_type, identity_in, nonce_in, redirect_checks, from_checks, supported_checks}
use Rattle.redirect.specs.Write.{gateway_octets, unfit, write_checks}

abbrev pub redirect_written : ℕ → List ℕ → List ℕ → ℕ → ℕ
redirect_written t identity nonce room = first_failed (write_checks (unfit true t identity nonce) room)

abbrev pub redirect_read : List ℕ → ℕ
redirect_read octets = first_failed (redirect_checks octets)

abbrev pub from_written : ℕ → List ℕ → ℕ → ℕ
from_written t identity room = first_failed (write_checks (unfit false t identity []) room)

abbrev pub from_read : List ℕ → ℕ
from_read octets = first_failed (from_checks octets)

-- what reading a REDIRECT gives
pub record Reads (octets : List ℕ) (t : ℕ) (identity nonce : List ℕ) : Type 0 where
  pub number : redirect_read octets ≡ 0
  pub type_is : identity_type octets ≡ t
  pub identity_is : identity_in octets ≡ identity
  pub nonce_is : nonce_in octets ≡ nonce

-- and a REDIRECTED_FROM
pub record ReadsFrom (octets : List ℕ) (t : ℕ) (identity : List ℕ) : Type 0 where
  pub number : from_read octets ≡ 0
  pub type_is : identity_type octets ≡ t
  pub identity_is : identity_in octets ≡ identity

pub record RoundTrips : Type 0 where
  -- a REDIRECT that was written reads back the same
  pub redirect_reads : (t : ℕ) (identity nonce : List ℕ) (room : ℕ) → redirect_written t identity nonce room ≡ 0
      → Reads (gateway_octets t identity nonce) t identity nonce
  -- one that was read has the octets of what was read
  pub redirect_octets : (octets : List ℕ) → redirect_read octets ≡ 0
      → gateway_octets (identity_type octets) (identity_in octets) (nonce_in octets) ≡ octets
  -- and is written so exactly if its nonce, which reading takes as it is, is none or of 16 to 256 octets, else 30
  pub redirect_writes : (octets : List ℕ) (room : ℕ) → redirect_read octets ≡ 0 → redirect_room ≤ room
      → redirect_written (identity_type octets) (identity_in octets) (nonce_in octets) room
      ≡ cond (no_nonce_or (length (nonce_in octets))) 0 (number_of BadRedirect)
  -- a REDIRECTED_FROM, without condition
  pub from_reads : (t : ℕ) (identity : List ℕ) (room : ℕ) → from_written t identity room ≡ 0
      → ReadsFrom (gateway_octets t identity []) t identity
  pub from_octets : (octets : List ℕ) → from_read octets ≡ 0
      → gateway_octets (identity_type octets) (identity_in octets) [] ≡ octets
  pub from_writes : (octets : List ℕ) (room : ℕ) → from_read octets ≡ 0 → redirect_room ≤ room
      → from_written (identity_type octets) (identity_in octets) room ≡ 0
  -- a REDIRECT_SUPPORTED has no data
  pub supported_reads : first_failed (supported_checks []) ≡ 0
  pub supported_octets : (octets : List ℕ) → first_failed (supported_checks octets) ≡ 0 → octets ≡ []
