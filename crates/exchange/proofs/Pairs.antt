-- Addresses and pairs written and read again: the octets of a family, padded, are the sixteen that were given.
use Prim.Native.Nat.{ℕ, zero, suc, ◌+◌, ◌≤◌}
use mathlib.Core.Path.{◌≡◌, refl, sym, ap, ◌∙◌}
use mathlib.Core.List.{List, [], ◌∷◌, ◌++◌, append_assoc}
use mathlib.Core.Bool.{Bool, true, false, cond, not, false≢true}
use native.Mathlib.Nat.{add-zero, div-add-mod'}
use native.Mathlib.Omega.{arith}
use borrow.Author.Tests.{eqb-true}
use lib.Dec.{eqb}
use lib.ListN.{length, take, drop, replicate, length-append, take-append-drop}
use lib.Seq.{take-append-add, length-take-le, take_at, drop_at}
use Rattle.octets.specs.Limits.{address_octets, ip4_octets, ip6_octets, no_nats_size}
use Rattle.octets.specs.Octets.{be16, padded}
use Rattle.octets.specs.Lists.{all}
use Rattle.octets.proofs.Small.{both}
use Rattle.address.specs.Address.{width_of, is_zero, address_fits}
use Rattle.address.proofs.Width.{width_small}
use Rattle.values.specs.Values.{no_nats_in, no_nats_of}
use Rattle.values.specs.declared.NoNats.{NoNats}
use Rattle.asking.specs.Draft.{port_octets, no_nats_octets}
use Rattle.exchange.proofs.Payloads.{be16_behind}

pub data Family : ℕ → Type 0 where
  four : Family 4
  six : Family 6

-- an address that fits has one of the two families
pub family_of_lem : (f : ℕ) (octets : List ℕ) → address_fits f octets ≡ true → Family f
family_of_lem f octets e = go (eqb f 4) (eqb f 6) refl refl (both _ _ e).0
  where
    go : (a b : Bool) → eqb f 4 ≡ a → eqb f 6 ≡ b → not (eqb (cond a ip4_octets (cond b ip6_octets 0)) 0) ≡ true
        → Family f
    go true b i j e = rw (eqb-true f 4 i) four
    go false true i j e = rw (eqb-true f 6 j) six
    go false false i j e = absurd (false≢true e)

-- zeros are a part of a run of zeros
zeros : (s : List ℕ) (n : ℕ) → length s ≤ n → all is_zero s ≡ true → take (length s) (replicate n 0) ≡ s
zeros [] n l z = refl
zeros (x ∷ s) zero l z = absurd (omega arith)
zeros (x ∷ s) (suc n) l z =
    let t = both _ _ z in
    rw (eqb-true x 0 t.0, zeros s n (omega arith) t.1)

padded_zeros : (s t : List ℕ) → length s + length t ≡ address_octets → all is_zero t ≡ true → padded s ≡ s ++ t
padded_zeros s t e z =
    ap (λ (n : ℕ). take n (s ++ replicate address_octets 0)) (sym e)
    ∙ take-append-add s (replicate address_octets 0) (length t)
    ∙ ap (λ (l : List ℕ). s ++ l) (zeros t address_octets (omega arith) z)

-- an address that fits is its family's octets, padded
pub padded_back : (f : ℕ) (octets : List ℕ) → length octets ≡ address_octets → address_fits f octets ≡ true
    → padded (take (width_of f) octets) ≡ octets
padded_back f octets e z =
    let w = width_of f in
    let whole = take-append-drop w octets in
    let long = sym (length-append (take w octets) (drop w octets)) ∙ ap length whole ∙ e in
    padded_zeros (take w octets) (drop w octets) long (both (not (eqb w 0)) _ z).1
    ∙ whole

abbrev pub no_nats : ℕ → List ℕ → List ℕ → ℕ → ℕ → NoNats
no_nats f source destination from to =
    record { family = f; source = source; destination = destination; source_port = from; destination_port = to }

-- The octets of NO_NATS_ALLOWED, taken apart again.
module _ (source destination : List ℕ) (from to : ℕ) (s : length source ≡ address_octets)
    (d : length destination ≡ address_octets) where
  module _ (w : ℕ) (small : w ≤ address_octets) where
    abbrev Written : List ℕ
    Written = no_nats_octets w source destination from to

    long_s : length (take w source) ≡ w
    long_s = length-take-le w source (omega arith)

    long_d : length (take w destination) ≡ w
    long_d = length-take-le w destination (omega arith)

    pair_length : length Written ≡ no_nats_size w
    unfolding no_nats_octets
    pair_length = simp (length-append, long_s, long_d) (omega arith)

    port : (i : ℕ) → be16 Written (w + w + i) ≡ be16 (port_octets from to) i
    unfolding no_nats_octets
    port i =
        let front = take w source ++ take w destination in
        let long : w + w ≡ length front = simp (length-append, long_s, long_d) in
        rw (← append_assoc (take w source) (take w destination) (port_octets from to), long)
        (be16_behind front (port_octets from to) i)

    pair_in_lem : (f : ℕ) → no_nats_in f w Written ≡ no_nats f (padded (take w source)) (padded (take w destination)) from to
    unfolding no_nats_octets
    pair_in_lem f =
        let at_from : be16 Written (w + w) ≡ from =
        ap (be16 Written) (sym (add-zero (w + w))) ∙ port 0 ∙ div-add-mod' from 256 in
        let at-to : be16 Written (w + w + 2) ≡ to = port 2 ∙ div-add-mod' to 256 in
        rw (
          at_from,
          at-to,
          take_at (take w source) _ w long_s,
          drop_at (take w source) _ w long_s,
          take_at (take w destination) _ w long_d,
        )

  pair_read : {f : ℕ} → Family f
      → no_nats_of (no_nats_octets (width_of f) source destination from to)
      ≡ no_nats f (padded (take (width_of f) source)) (padded (take (width_of f) destination)) from to
  pair_read four = rw (pair_length ip4_octets (omega arith)) (pair_in_lem ip4_octets (omega arith) 4)
  pair_read six = rw (pair_length ip6_octets (omega arith)) (pair_in_lem ip6_octets (omega arith) 6)

  pub pair_size : {f : ℕ} → Family f
      → length (no_nats_octets (width_of f) source destination from to) ≡ no_nats_size (width_of f)
  pair_size {f} g = pair_length (width_of f) (width_small f)

  pub pair_back : {f : ℕ} → Family f → address_fits f source ≡ true → address_fits f destination ≡ true
      → no_nats_of (no_nats_octets (width_of f) source destination from to) ≡ no_nats f source destination from to
  pair_back {f} g sf df = pair_read g ∙ rw (padded_back f source s sf, padded_back f destination d df)
