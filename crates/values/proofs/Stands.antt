-- What is known of a part of a body, wherever it is said to stand.
use Prim.Native.Nat.{ℕ, ◌+◌, ◌≤◌}
use mathlib.Core.Path.{◌≡◌}
use mathlib.Core.List.{List}
use native.Mathlib.Omega.{arith}
use borrow.Author.Tests.{ne_eqb, le-leb}
use lib.ListN.{length, take, drop, length-take}
use Rattle.octets.proofs.Small.{chosen}
use Rattle.values.specs.Values.{stands, part_of}

module _ (body : List ℕ) (at size : ℕ) where
  pub part_length : length (part_of body at size) ≤ size
  part_length =
      chosen (λ octets. length octets ≤ size) (stands body at size)
      (λ e. rw (length-take size (drop at body)) (omega arith))
      (λ e. omega arith)

  -- octets behind a header stand there
  pub part_there : (at ≡ 0 → ⊥) → at + size ≤ length body → part_of body at size ≡ take size (drop at body)
  part_there later inside = rw (ne_eqb at 0 later, le-leb (at + size) (length body) inside)
