-- The reader's beginning and its end: a body that is not too long is answered by how its scan ended.
use borrow.Author.Tests.{le-ltb, lt-ltb}
use native.Mathlib.Omega.{arith}
use Prim.Native.Nat.{ℕ, ◌≤◌, ◌<◌}
use mathlib.Core.Path.{◌≡◌, ◌∙◌}
use mathlib.Core.List.{List}
use lib.ListN.{length}
use Rattle.octets.specs.Limits.{body_most}
use Rattle.octets.specs.Numbers.{number_of}
use Rattle.octets.specs.declared.number.Number.TheVariants.{BodyTooLong}
use Rattle.findings.specs.Seen.{nothing_seen}
use Rattle.reader.specs.Chain.{chain_at, scanned, reading, refused, ReadAs}
use Rattle.reader.specs.declared.read.Reading.{Reading}
use Rattle.reader.specs.Ends.{ends_as, Scanning}
use Rattle.reader.proofs.Count.{promised}
use Rattle.reader.proofs.Ordinal.{ordinal_told_lem}

pub begins : (body : List ℕ) → length body ≤ body_most → Scanning body 0 nothing_seen
begins body h = omega arith

-- what its scan comes to is the reading of a body that is not too long
pub scanned_whole : (first : ℕ) (body : List ℕ) (r : Reading) → length body ≤ body_most
    → let x = scanned nothing_seen (chain_at body first 0) in
    r ≡ ends_as x.outcome x.seen → ReadAs first body r
unfolding reading
scanned_whole first body r h e = promised first body r (rw (le-ltb _ _ h) (e ∙ ordinal_told_lem first body))

-- a body that is too long is refused before any of it is read
pub too_long : (first : ℕ) (body : List ℕ) (r : Reading) → body_most < length body
    → r ≡ refused (number_of BodyTooLong) 0 0 0 → ReadAs first body r
unfolding reading
too_long first body r h e = promised first body r (rw (lt-ltb body_most (length body) h) e)
