-- The data of notifications, as the values that a request holds.
use Prim.Native.Nat.{ℕ, zero, suc, ◌+◌, ◌≤◌, ◌<◌}
use mathlib.Core.Path.{◌≡◌, refl, sym, ◌∙◌}
use mathlib.Core.List.{List, [], ◌∷◌, ◌++◌}
use mathlib.Core.Bool.{Bool, true, false, cond, ◌&&◌, ◌||◌, not}
use native.Mathlib.Omega.{arith}
use borrow.Author.Tests.{eqb-true, leb-true, ne_eqb, le-ltb}
use lib.Dec.{eqb, leb}
use lib.ListN.{length, get_or, take, drop, replicate, length-append, length-take, length-drop, length-replicate}
use lib.ListN.{take-append-drop, drop_of_length-le}
use lib.Seq.{take-take, take_at, drop-drop, length-take-le}
use Rattle.octets.specs.Limits.{address_octets, ip4_octets, ip6_octets, cookie_least, cookie_most, no_nats_size, no_nats_least}
use Rattle.octets.specs.Limits.{no_nats_most}
use Rattle.octets.specs.Lists.{all}
use Rattle.octets.specs.Octets.{be16, padded}
use Rattle.octets.proofs.Small.{both, and_true, chosen}
use Rattle.address.specs.Address.{width_of, is_zero, address_fits, pair_fits}
use Rattle.address.specs.declared.pair.Pair.{Pair}
use Rattle.values.specs.Values.{absent, no_nats_in, no_nats_of}
use Rattle.values.specs.declared.NoNats.{NoNats}
use Rattle.asking.specs.Draft.{port_octets, no_nats_octets, pair_octets}
use Rattle.asking.specs.Fits.{cookie_fits}
use Rattle.exchange.specs.RoundTrips.{Octets, pair_of}
use Rattle.exchange.proofs.Offsets.{here, on, be16_on, high, low}

pub length-padded : (s : List ℕ) → length (padded s) ≡ address_octets
length-padded s = simp (length-take, length-append, length-replicate) (omega arith)

-- an address comes out of its sixteen octets again
pub unpadded : (s : List ℕ) (w : ℕ) → length s ≡ w → w ≤ address_octets → take w (padded s) ≡ s
unpadded s w e h = take-take w address_octets (s ++ replicate address_octets 0) h
    ∙ take_at s (replicate address_octets 0) w e

-- and zeros stand behind it
tail_zero : (s : List ℕ) (n m : ℕ) → all is_zero (drop (length s) (take m (s ++ replicate n 0))) ≡ true
tail_zero [] zero zero = refl
tail_zero [] zero (suc m) = refl
tail_zero [] (suc n) zero = refl
tail_zero [] (suc n) (suc m) = tail_zero [] n m
tail_zero (x ∷ s) n zero = refl
tail_zero (x ∷ s) n (suc m) = tail_zero s n m

pub fits_padded : (family : ℕ) (s : List ℕ) → length s ≡ width_of family → 0 < width_of family
    → address_fits family (padded s) ≡ true
fits_padded family s e h = rw (ne_eqb (width_of family) 0 (omega arith), ← e) (tail_zero s address_octets address_octets)

-- the last four octets are two ports
ports : (o : List ℕ) (k : ℕ) → Octets o → length o ≡ k + 4 → port_octets (be16 o k) (be16 o (k + 2)) ≡ drop k o
ports o k b e =
    rw (
      be16_on o k 2,
      high (get_or o k 0) (get_or o (k + 1) 0) (b (k + 1)),
      low (get_or o k 0) (get_or o (k + 1) 0) (b (k + 1)),
      high (get_or o (k + 2) 0) (get_or o (k + 3) 0) (b (k + 3)),
      low (get_or o (k + 2) 0) (get_or o (k + 3) 0) (b (k + 3)),
      here o k (omega arith),
      on o k 1 (omega arith),
      on o k 2 (omega arith),
      on o k 3 (omega arith),
      drop_of_length-le o {i = k + 4} (omega arith),
    )

-- both addresses have sixteen octets
abbrev pub Full : NoNats → Type 0
Full n = (length n.source ≡ address_octets) × (length n.destination ≡ address_octets)

-- written again with the same octets, and fit to be written
abbrev pub Again : List ℕ → Pair → Type 0
Again o p = (pair_octets p ≡ o) × (pair_fits p ≡ true)

-- A NO_NATS_ALLOWED read as a pair of addresses of a family, w octets each, is written with the same octets.
module _ (family w : ℕ) (wide : width_of family ≡ w) (some : 0 < w) (most : w ≤ address_octets) (o : List ℕ)
    (bytes : Octets o) (long : length o ≡ no_nats_size w) where
  front : length (take w o) ≡ w
  front = length-take-le w o (omega arith)

  back : length (take w (drop w o)) ≡ w
  back = length-take-le w (drop w o) (rw (length-drop w o) (omega arith))

  written_same : pair_octets (pair_of (no_nats_in family w o)) ≡ o
  unfolding no_nats_octets
  written_same =
      rw (
        wide,
        unpadded (take w o) w front most,
        unpadded (take w (drop w o)) w back most,
        ports o (w + w) bytes (omega arith),
        ← drop-drop w w o,
        take-append-drop w (drop w o),
      )
      (take-append-drop w o)

  again : Again o (pair_of (no_nats_in family w o))
  again = (
    written_same,
    and_true (fits_padded family (take w o) (front ∙ sym wide) (omega arith))
        (fits_padded family (take w (drop w o)) (back ∙ sym wide) (omega arith)),
  )

pub pair_again : (o : List ℕ) → eqb (length o) no_nats_least || eqb (length o) no_nats_most ≡ true → Octets o
    → Again o (pair_of (no_nats_of o))
pair_again o e b = go (eqb (length o) no_nats_least) refl e
  where
    go : (t : Bool) → eqb (length o) no_nats_least ≡ t → t || eqb (length o) no_nats_most ≡ true
        → Again o
        (pair_of
        (cond t (no_nats_in 4 ip4_octets o) (cond (eqb (length o) no_nats_most) (no_nats_in 6 ip6_octets o) absent)))
    go true l e = again 4 ip4_octets refl (omega arith) (omega arith) o b (eqb-true (length o) no_nats_least l)
    go false l e = rw e (again 6 ip6_octets refl (omega arith) (omega arith) o b (eqb-true (length o) no_nats_most e))

pub pair_sized : (o : List ℕ) → Full (no_nats_of o)
pair_sized o =
    chosen Full (eqb (length o) no_nats_least) (λ e. in_full 4 ip4_octets)
    (λ e. chosen Full (eqb (length o) no_nats_most) (λ e. in_full 6 ip6_octets) (λ e. (refl, refl)))
  where
    in_full : (family w : ℕ) → Full (no_nats_in family w o)
    in_full family w = (length-padded (take w o), length-padded (take w (drop w o)))

-- a COOKIE2 that was read is not empty, and fits
pub cookie_again : (n : ℕ) → leb cookie_least n && leb n cookie_most ≡ true
    → (not (eqb n 0) ≡ true) × (cookie_fits n ≡ true)
unfolding cookie_fits
cookie_again n e =
    let t = both (leb cookie_least n) (leb n cookie_most) e in
    let h = leb-true cookie_least n t.0 in
    (rw (ne_eqb n 0 (omega arith)), rw (ne_eqb n 0 (omega arith), le-ltb n cookie_least h) t.1)
