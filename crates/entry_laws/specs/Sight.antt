-- Trusted. How much of a trace has to be in sight for an entry to be decided, so that a trace of any length is read
-- through a window.
-- Shown in proofs/Sight.antt.
--   entry_most    how long an entry can be: a request with two NAT values, a body and a cookie of 4,096 octets each
--   entry_sight   so many octets decide: the operator that ends such a request, too large for its field, has up to ten
--   InSight      what comes later changes nothing, and what is not cut never does
use Rattle.std.specs.Prelude.{ℕ, ◌+◌, ◌≤◌, ◌≡◌, List, ◌++◌, length}
use Rattle.leb128.specs.RoundTrips.{Octets}
use Rattle.field_laws.specs.Sight.{longest, sight, Final}
use Rattle.entries.specs.Kinds.{fields_of}
use Rattle.entries.specs.Entries.{entry_at}
use Rattle.entries.specs.declared.kind.Kind.{Kind}
use Rattle.entries.specs.declared.kind.Kind.TheVariants.{Request}

abbrev pub entry_most : ℕ
entry_most = 16456

abbrev pub entry_sight : ℕ
entry_sight = 16465

pub record InSight : Type 0 where
  -- with so much in sight, what comes later changes nothing: neither the entry, nor a refusal
  pub in_sight : (s later : List ℕ) (at : ℕ) → Octets (s ++ later) → at + entry_sight ≤ length s
      → entry_at (s ++ later) at ≡ entry_at s at
  -- an entry, 21 and 22 stay as they are whatever follows: only 20 may come of a window's end that is not the trace's
  pub stays : (s later : List ℕ) (at : ℕ) → Octets (s ++ later) → at ≤ length s → Final (entry_at s at)
      → entry_at (s ++ later) at ≡ entry_at s at
  -- no kind needs more, behind its own octet; a request needs as much
  pub each_kind : (k : Kind) → 1 + sight (fields_of k) ≤ entry_sight
  pub exactly : 1 + sight (fields_of Request) ≡ entry_sight
  -- and can be as long as this
  pub as_long : 1 + longest (fields_of Request) ≡ entry_most
