-- How long the cookie of a chain is.
use Rattle.std.specs.Prelude.{◌≡◌, ℕ, ◌≤◌, List, length}
use native.Mathlib.Omega.{arith}
use Rattle.octets.specs.Limits.{cookie_most}
use Rattle.findings.specs.declared.seen.Seen.{Seen}
use Rattle.values.proofs.Stands.{part_length}
use Rattle.reader.specs.Chain.{reading}
use Rattle.reader.proofs.Cookie.{cookie_short}
use Rattle.answering.specs.Core.{cookie_in}

-- the cookie of a chain that was read has at most 64 octets
pub cookie_part : (first : ℕ) (body : List ℕ) (s : Seen) → s ≡ (reading first body).seen
    → length (cookie_in body s) ≤ cookie_most
cookie_part first body s e =
    let short : s.cookie_len ≤ cookie_most = rw e (cookie_short first body) in
    omega (arith, part_length body s.cookie s.cookie_len, short)
