-- Octets that come later change nothing about a number that was read, nor about one that was refused with ten octets in
-- sight. Assumes nothing.
use Prim.Native.Nat.{ℕ, ◌+◌, ◌-◌, ◌≤◌, ◌<◌}
use mathlib.Core.Path.{◌≡◌, refl, sym, ◌∙◌, ap}
use mathlib.Core.Bool.{Bool, true, false}
use mathlib.Core.List.{List, ◌++◌, append_assoc}
use native.Mathlib.Omega.{arith}
use borrow.Author.Tests.{ltb-true, ltb-false}
use lib.Dec.{ltb}
use lib.ListN.{length, get_or, take, drop, length-append, length-drop, take-append-drop, get_or-append}
use lib.ListN.{get_or-eq_default}
use lib.Seq.{take-append-le, take-append_seam, get_or-drop}
use Rattle.leb128.specs.Leb128.{decoded, decoded_at, octets_of}
use Rattle.leb128.specs.Within.{Within}
use Rattle.leb128.specs.RoundTrips.{Octets, Settled}
use Rattle.leb128.specs.Leb128.{Decoded}
use Rattle.std.specs.Prelude.{Some, None}
use Rattle.leb128.proofs.Octets.{at_most_ten, at_least_one}
use Rattle.leb128.proofs.RoundTrip.{round_trips}

-- the octets of a part
pub first_octets : (s t : List ℕ) → Octets (s ++ t) → Octets s
first_octets s t o i = go (ltb i (length s)) refl
  where
    go : (b : Bool) → ltb i (length s) ≡ b → get_or s i 0 < 256
    go true p = rw (get_or-append s t 0 i (ltb-true i (length s) p)) at (o i)
    go false p = rw (get_or-eq_default s 0 (ltb-false i (length s) p)) (omega arith)

pub stays_read : (s t : List ℕ) (at v n : ℕ) → Octets s → decoded s at ≡ Some (v, n) → decoded (s ++ t) at ≡ Some (v, n)
stays_read s t at v n o e =
    let w = round_trips.writes_read s at v n o e in
    let f : s ++ t ≡ octets_of v ++ (drop (n - at) s ++ t) =
    ap (λ (l : List ℕ). l ++ t) w.2 ∙ append_assoc (octets_of v) (drop (n - at) s) t in
    rw f (round_trips.reads_written v at (drop (n - at) s ++ t) w.0 ∙ rw (← w.1))

pub stays_refused : (s t : List ℕ) (at : ℕ) → Octets (s ++ t) → 10 ≤ length s → decoded s at ≡ None
    → decoded (s ++ t) at ≡ None
stays_refused s t at o l e = go (decoded (s ++ t) at) refl
  where
    go : (r : Decoded) → decoded (s ++ t) at ≡ r → decoded (s ++ t) at ≡ None
    go None f = f
    go (Some (v, n)) f =
        let w = round_trips.writes_read (s ++ t) at v n o f in
        let k = length (octets_of v) in
        let m : k ≤ length s = omega (arith, at_most_ten v) in
        let a : take k s ≡ octets_of v =
        sym (take-append-le k s t m) ∙ ap (take k) w.2 ∙ take-append_seam (octets_of v)
        (drop (n - at) (s ++ t)) in
        let b : s ≡ octets_of v ++ drop k s = sym (take-append-drop k s) ∙ ap (λ (x : List ℕ). x ++ drop k s) a in
        absurd (round_trips.refused s at e (record { number = v; rest = drop k s; fits = w.0; octets = b }))

-- a number read from the window ends in it
pub ends_within : (s : List ℕ) (at v n : ℕ) → Octets s → decoded s at ≡ Some (v, n) → (at < n) × (n ≤ at + length s)
ends_within s at v n o e =
    let w = round_trips.writes_read s at v n o e in
    let l = ap length w.2 in
    let k = w.1 in
    (omega (arith, at_least_one v), omega (arith, simp length-append at l))

pub within : (s : List ℕ) (at : ℕ) → Octets s → (r : Decoded) → decoded_at s at ≡ r → Within s at r
within s at o None e = tt
within s at o (Some (v, n)) e =
    let p : Octets (drop at s) = λ i. rw (get_or-drop at s i 0) (o (at + i)) in
    let w = ends_within (drop at s) at v n p e in
    let l = w.1 in
    let b = w.0 in
    (b, omega (arith, simp length-drop at l))

pub settled : Settled
settled = record { stays_read = stays_read; stays_refused = stays_refused }
