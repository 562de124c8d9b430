-- The record that keeps one time more: the kept times without the oldest, where there are five, the new one behind
-- them, and 0 in the other places.
use Prim.Native.Nat.{ℕ, suc, ◌+◌, ◌-◌, ◌<◌, ◌≤◌}
use mathlib.Core.Path.{◌≡◌, refl, ap, ◌∙◌}
use mathlib.Core.List.{List, [], ◌∷◌, ◌++◌, append_assoc}
use native.Mathlib.Omega.{arith}
use lib.ListN.{length, take, drop, set, replicate, length-append, length-drop}
use lib.Seq.{take_all, drop-append-le, set_at}
use Rattle.std.proofs.lemmas.List.{drop-replicate}
use Rattle.octets.specs.Lists.{first_of}
use Rattle.redirecting.specs.Limits.{redirects_most}
use Rattle.redirecting.specs.Times.{accepted, kept, last_of, keeping}
use Rattle.redirecting.specs.declared.times.Accepted.{Accepted}

-- an element put behind others into places that hold 0
put : (places : ℕ) (xs : List ℕ) (x : ℕ) → length xs < places
    → set (xs ++ drop (length xs) (replicate places 0)) (length xs) x
    ≡ first_of places 0 (length xs + 1) (xs ++ x ∷ [])
put places xs x h =
    let left : places - length xs ≡ suc (places - (length xs + 1)) = omega arith in
    let long : length (xs ++ x ∷ []) ≡ length xs + 1 = simp length-append in
    rw (
      drop-replicate {X = ℕ} (length xs) places 0,
      left,
      take_all (length xs + 1) (xs ++ x ∷ []) (omega (arith, long)),
      append_assoc xs (x ∷ []) (replicate (places - (length xs + 1)) 0),
    )
    (set_at xs 0 (replicate (places - (length xs + 1)) 0) x (length xs) refl)

abbrev keep : List ℕ → ℕ → Accepted
keep ts time =
    let times = last_of redirects_most (ts ++ time ∷ []) in
    accepted (length times) (first_of redirects_most 0 (length times) times)

-- `part` are the kept times without the oldest, where there are five
module _ (ts : List ℕ) (time : ℕ) (few : length ts ≤ redirects_most) (part : List ℕ)
    (rest : part ≡ drop (length ts + 1 - redirects_most) ts) where
  is_last : last_of redirects_most (ts ++ time ∷ []) ≡ part ++ time ∷ []
  is_last =
      let long : length (ts ++ time ∷ []) ≡ length ts + 1 = simp length-append in
      rw (long, rest) (drop-append-le (length ts + 1 - redirects_most) ts (time ∷ []) (omega arith))

  long : length (part ++ time ∷ []) ≡ length part + 1
  long = simp length-append

  room : length part < redirects_most
  room = rw rest (simp length-drop (omega arith))

  put_last : accepted (length part + 1) (set (part ++ drop (length part) (replicate redirects_most 0)) (length part) time)
      ≡ keep ts time
  put_last = rw (is_last, long, put redirects_most part time room)

pub keeps : (r : Accepted) (ts : List ℕ) (time first : ℕ) (copied part : List ℕ) → ts ≡ kept r
    → length ts ≤ redirects_most → first ≡ length ts - 4 → part ≡ take (length ts - first) (drop first ts)
    → copied ≡ part
    → accepted (length part + 1) (set (copied ++ drop (length part) (replicate redirects_most 0)) (length part) time)
    ≡ keeping r time
unfolding keeping
keeps r ts time first copied part e few f p c =
    let all : take (length ts - first) (drop first ts) ≡ drop first ts =
    take_all (length ts - first) (drop first ts) (omega (arith, length-drop first ts)) in
    let same : first ≡ length ts + 1 - redirects_most = omega arith in
    rw c (put_last ts time few part (p ∙ all ∙ ap (λ (n : ℕ). drop n ts) same) ∙ ap (λ (xs : List ℕ). keep xs time) e)
