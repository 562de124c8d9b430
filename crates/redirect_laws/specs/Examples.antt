-- Trusted. What the words of 02, E7, come to: data read and written, and decisions one after the other on a fresh
-- record, by their numbers. `examples` in `proofs/Examples.antt` proves it.
--
--   numbers            the number of each decision
--   gateway, name      the data for an address, and a name
--   sent, shorter      a nonce of 16 octets, and one of 15 that begins alike
--   examples           an address, a name, an address with a nonce; nothing, a type alone, an address cut short
use Rattle.std.specs.Prelude.{ℕ, ◌≡◌, List, [], ◌∷◌, ◌++◌, map}
use Rattle.redirect.specs.Write.{gateway_octets}
use Rattle.redirecting.specs.Times.{kept, fresh}
use Rattle.deciding_redirects.specs.Decision.{Asked, asked, decision_number, after_decision}
use Rattle.redirecting.specs.declared.times.Accepted.{Accepted}
use Rattle.redirect_laws.specs.RoundTrips.{redirect_written, redirect_read, from_written, from_read}

unfoldable pub numbers : Accepted → List Asked → List ℕ
numbers r [] = []
numbers r (a ∷ xs) = decision_number (kept r) a ∷ numbers (after_decision r a) xs

-- 192.0.2.1 as the new gateway; "a.b"
abbrev pub gateway : List ℕ
gateway = 1 ∷ 4 ∷ 192 ∷ 0 ∷ 2 ∷ 1 ∷ []

abbrev pub name : List ℕ
name = 97 ∷ 46 ∷ 98 ∷ []

abbrev pub sent : List ℕ
sent = 0 ∷ 1 ∷ 2 ∷ 3 ∷ 4 ∷ 5 ∷ 6 ∷ 7 ∷ 8 ∷ 9 ∷ 10 ∷ 11 ∷ 12 ∷ 13 ∷ 14 ∷ 15 ∷ []

abbrev pub shorter : List ℕ
shorter = 0 ∷ 1 ∷ 2 ∷ 3 ∷ 4 ∷ 5 ∷ 6 ∷ 7 ∷ 8 ∷ 9 ∷ 10 ∷ 11 ∷ 12 ∷ 13 ∷ 14 ∷ []

abbrev pub examples : List (List ℕ)
examples =
    gateway
    ∷ (3 ∷ 3 ∷ name)
    ∷ (gateway ++ sent)
    ∷ []
    ∷ (1 ∷ [])
    ∷ (1 ∷ 4 ∷ 192 ∷ 0 ∷ 2 ∷ [])
    ∷ []

-- in INFORMATIONAL at a time; in IKE_SA_INIT with this nonce
abbrev pub informed : ℕ → Asked
informed time = asked 4 [] time gateway

abbrev pub answered : List ℕ → Asked
answered nonce = asked 0 sent 10 (gateway ++ nonce)

pub record Examples : Type 0 where
  -- the data as a REDIRECT, and as a REDIRECTED_FROM
  pub redirects : map redirect_read examples ≡ 0 ∷ 0 ∷ 0 ∷ 30 ∷ 30 ∷ 30 ∷ []
  pub froms : map from_read examples ≡ 0 ∷ 30 ∷ 30 ∷ 30 ∷ 30 ∷ 30 ∷ []
  -- a name with a nonce into 513 octets, a name alone into 512, a nonce of 15 octets, a name in a REDIRECTED_FROM
  pub writes : redirect_written 3 name sent 513 ∷ redirect_written 3 name [] 512 ∷ redirect_written 3 name shorter 513
      ∷ from_written 3 name 513 ∷ []
      ≡ 0 ∷ 2 ∷ 30 ∷ 30 ∷ []
  pub written : gateway_octets 3 name sent ≡ 3 ∷ 3 ∷ 97 ∷ 46 ∷ 98 ∷ sent
  -- five in one second, and then none until 300 seconds later; none before the last
  pub often : numbers fresh
      (map informed (7 ∷ 7 ∷ 7 ∷ 7 ∷ 7 ∷ 7 ∷ 306 ∷ 307 ∷ 306 ∷ []))
      ≡ 0 ∷ 0 ∷ 0 ∷ 0 ∷ 0 ∷ 34 ∷ 34 ∷ 0 ∷ 33 ∷ []
  -- the nonce sent; none; an octet less; an octet more
  pub nonces : numbers fresh (map answered (sent ∷ [] ∷ shorter ∷ (sent ++ 0 ∷ []) ∷ []))
      ≡ 0 ∷ 32 ∷ 32 ∷ 32 ∷ []
  -- each exchange without a nonce, a number that is none, and with a nonce outside IKE_SA_INIT
  pub exchanges : numbers fresh
      (map (λ (n : ℕ). asked n sent 1 gateway) (1 ∷ 2 ∷ 3 ∷ 4 ∷ 5 ∷ []) ++ asked 4 sent 1 (gateway ++ sent) ∷ [])
      ≡ 0 ∷ 31 ∷ 0 ∷ 0 ∷ 31 ∷ 31 ∷ []
