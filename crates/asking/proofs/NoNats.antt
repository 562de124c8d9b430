-- NO_NATS_ALLOWED's data, copied part by part into an array of the most octets that it may have.
use Prim.Native.Nat.{ℕ, ◌+◌, ◌≤◌}
use mathlib.Core.Path.{◌≡◌, ◌∙◌}
use mathlib.Core.List.{List, ◌++◌, append_assoc}
use native.Mathlib.Omega.{arith}
use lib.Seq.{take_at}
use lib.ListN.{length, take, drop, replicate, length-append, length-take, length-replicate}
use Rattle.octets.specs.Limits.{address_octets, no_nats_size, no_nats_most}
use Rattle.address.specs.Address.{width_of}
use Rattle.address.specs.declared.pair.Pair.{Pair}
use Rattle.address.proofs.Width.{width_small}
use Rattle.writing.specs.Notify.{placed}
use Rattle.writing.proofs.Placed.{placed_front, placed_then, length-placed}
use Rattle.asking.specs.Draft.{port_octets, no_nats_octets, pair_octets}

pub taken : (width : ℕ) (octets : List ℕ) → length octets ≡ address_octets → width ≤ address_octets
    → length (take width octets) ≡ width
taken width octets l w = length-take width octets ∙ omega (arith, l, w)

-- an array that is to hold the data
abbrev blank : List ℕ
blank = replicate no_nats_most 0

module _ (width : ℕ) (source destination : List ℕ) (s : length source ≡ address_octets)
    (d : length destination ≡ address_octets)
    (w : width ≤ address_octets) {one : List ℕ} (first : one ≡ placed blank 0 (take width source)) where
  all_blank : length blank ≡ no_nats_most
  all_blank = length-replicate {A = ℕ} no_nats_most 0

  pub one_length : length one ≡ no_nats_most
  one_length = rw first (length-placed blank 0 (take width source) (omega (arith, taken width source s w, all_blank))
      ∙ all_blank)

  module _ {two : List ℕ} (second : two ≡ placed one width (take width destination)) where
    pub two_length : length two ≡ no_nats_most
    two_length =
        rw second
        (length-placed one width (take width destination) (omega (arith, taken width destination d w, one_length))
        ∙ one_length)

    pub copied : (from to : ℕ) (all : List ℕ) → all ≡ placed two (width + width) (port_octets from to)
        → all ≡ placed blank 0 (no_nats_octets width source destination from to)
    unfolding no_nats_octets
    copied from to all third =
        let a = take width source in
        let b = take width destination in
        let la = taken width source s w in
        let lb = taken width destination d w in
        let r = all_blank in
        let ab = placed_then blank one two 0 width a b (omega (arith, la, lb, r)) first (omega (arith, la)) second in
        placed_then blank two all 0 (width + width) (a ++ b) (port_octets from to)
        (rw (length-append a b) (omega (arith, la, lb, r))) ab (rw (length-append a b) (omega (arith, la, lb))) third
        ∙ (rw (append_assoc a b (port_octets from to)))

-- The data of a pair whose addresses are as they travel.
module _ (p : Pair) (s : length p.source ≡ address_octets) (d : length p.destination ≡ address_octets) where
  pub data_length : length (pair_octets p) ≡ no_nats_size (width_of p.family)
  unfolding no_nats_octets
  data_length =
      let w = width_of p.family in
      let small = width_small p.family in
      simp length-append (omega (arith, taken w p.source s small, taken w p.destination d small))

-- what was placed at the front of an array is taken from it again
pub front : (out octets : List ℕ) (n : ℕ) → length octets ≡ n → take n (placed out 0 octets) ≡ octets
front out octets n e = rw (placed_front out octets) (take_at octets (drop (length octets) out) n e)

pub data_short : (p : Pair) → length (pair_octets p) ≤ no_nats_most
unfolding no_nats_octets
data_short p =
    let w = width_of p.family in
    simp length-append
    (omega (arith, width_small p.family, length-take w p.source, length-take w p.destination))
