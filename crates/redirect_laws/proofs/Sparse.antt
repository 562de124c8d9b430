-- Times that rise and of which six span 300 seconds: how many pass a test, and one time more at their end.
use Prim.Native.Nat.{ℕ, suc, ◌+◌, ◌-◌, ◌≤◌, ◌<◌}
use mathlib.Core.Path.{◌≡◌, refl}
use mathlib.Core.List.{List, [], ◌∷◌, ◌++◌}
use mathlib.Core.Bool.{Bool, true, false, cond, ◌&&◌}
use native.Mathlib.Omega.{arith}
use borrow.Author.Tests.{ltb-true, ltb-false, leb-true, le-ltb}
use lib.Dec.{leb, ltb}
use lib.ListN.{length, get_or, take, drop, length-append, length-take, length-drop, take-append-drop, get_or-append}
use lib.Seq.{get_or-append_seam, get_or-drop}
use Rattle.octets.proofs.Small.{both}
use Rattle.redirecting.specs.Limits.{redirects_most, period_seconds}
use Rattle.redirecting.specs.Times.{latest, how_many}
use Rattle.redirecting.proofs.Count.{both_counted}
use Rattle.redirect_laws.specs.Sequences.{Rising, Spaced, inside}

-- ---- how many pass
module _ (f : ℕ → Bool) where
  pub no_more : (xs : List ℕ) → how_many f xs ≤ length xs
  no_more [] = omega arith
  no_more (x ∷ xs) = go (f x) (no_more xs)
    where
      go : (b : Bool) → how_many f xs ≤ length xs → cond b (suc (how_many f xs)) (how_many f xs) ≤ suc (length xs)
      go true h = omega arith
      go false h = omega arith

  pub none_pass : (xs : List ℕ) → ((i : ℕ) → i < length xs → f (get_or xs i 0) ≡ false) → how_many f xs ≡ 0
  none_pass [] h = refl
  none_pass (x ∷ xs) h = rw (h 0 (omega arith)) (none_pass xs (λ i l. h (suc i) (omega arith)))

  -- where not all pass, there is one that does not
  pub one_misses : (xs : List ℕ) → how_many f xs < length xs
      → (i : ℕ) × (i < length xs) × (f (get_or xs i 0) ≡ false)
  one_misses [] h = absurd (omega arith)
  one_misses (x ∷ xs) h = go (f x) refl h (one_misses xs)
    where
      go : (b : Bool) → f x ≡ b → cond b (suc (how_many f xs)) (how_many f xs) < suc (length xs)
          → (how_many f xs < length xs → (i : ℕ) × (i < length xs) × (f (get_or xs i 0) ≡ false))
          → (i : ℕ) × (i < suc (length xs)) × (f (get_or (x ∷ xs) i 0) ≡ false)
      go true e h r = let w = r (omega arith) in (suc w.0, omega (arith, w.1), w.2)
      go false e h r = (0, omega arith, e)

-- ---- no 300 seconds hold a sixth
module _ (from : ℕ) where
  abbrev within : ℕ → Bool
  within t = leb from t && ltb t (from + period_seconds)

  -- from one that lies within them on: the sixth and all later ones lie past them
  from_one : (times : List ℕ) → Spaced times → from ≤ get_or times 0 0 → inside from times ≤ redirects_most
  from_one times spaced h =
      let first = take redirects_most times in
      let rest = drop redirects_most times in
      let none : how_many within rest ≡ 0 = none_pass within rest past in
      let split = both_counted within first rest in
      rw (← take-append-drop redirects_most times)
      (omega (arith, split, none, no_more within first, length-take redirects_most times))
    where
      past : (i : ℕ) → i < length (drop redirects_most times) → within (get_or (drop redirects_most times) i 0) ≡ false
      past i l =
          let t = get_or times (redirects_most + i) 0 in
          let later = spaced 0 (redirects_most + i) (omega arith) (omega (arith, length-drop redirects_most times)) in
          rw (get_or-drop redirects_most times i 0, le-ltb t (from + period_seconds) (omega (arith, later)))
          (and-false (leb from t))
        where
          and-false : (b : Bool) → b && false ≡ false
          and-false true = refl
          and-false false = refl

  pub at_most : (times : List ℕ) → Spaced times → inside from times ≤ redirects_most
  at_most [] spaced = omega arith
  at_most (t ∷ times) spaced =
      go (within t) refl (at_most times (λ i j a l. spaced (suc i) (suc j) (omega arith) (omega arith)))
    where
      go : (b : Bool) → within t ≡ b → inside from times ≤ redirects_most → inside from (t ∷ times) ≤ redirects_most
      go true e r = from_one (t ∷ times) spaced (leb-true from t (both (leb from t) _ e).0)
      go false e r = rw e r

-- ---- one time more at the end
module _ (h : List ℕ) (t : ℕ) where
  abbrev more : List ℕ
  more = h ++ t ∷ []

  more_long : length more ≡ length h + 1
  more_long = length-append h (t ∷ [])

  before : (i : ℕ) → i < length h → get_or more i 0 ≡ get_or h i 0
  before i l = get_or-append h (t ∷ []) 0 i l

  end : (i : ℕ) → i ≡ length h → get_or more i 0 ≡ t
  end i e = rw e (get_or-append_seam h t [] 0)

  module _ (rising : Rising h) (spaced : Spaced h) (not_before : 0 < length h → latest h ≤ t)
      (fifth : redirects_most ≤ length h → get_or h (length h - redirects_most) 0 + period_seconds ≤ t) where
    latest_of : (i : ℕ) → i < length h → get_or h i 0 ≤ t
    latest_of i l =
        let m = rising i (length h - 1) (omega arith) (omega arith) in
        omega (arith, m, not_before (omega arith))

    pub more_rising : Rising more
    more_rising i j a l = go (ltb j (length h)) refl (ltb i (length h)) refl
      where
        go : (b : Bool) → ltb j (length h) ≡ b → (c : Bool) → ltb i (length h) ≡ c → get_or more i 0 ≤ get_or more j 0
        go true e c f =
            let m = ltb-true j (length h) e in
            rw (before i (omega arith), before j m) (rising i j a m)
        go false e true f =
            let m : j ≡ length h = omega (arith, ltb-false j (length h) e, more_long) in
            let o = ltb-true i (length h) f in
            rw (before i o, end j m) (latest_of i o)
        go false e false f =
            let m : j ≡ length h = omega (arith, ltb-false j (length h) e, more_long) in
            let o : i ≡ length h = omega (arith, ltb-false i (length h) f) in
            rw (end i o, end j m) (omega arith)

    pub more_spaced : Spaced more
    more_spaced i j a l = go (ltb j (length h)) refl
      where
        go : (b : Bool) → ltb j (length h) ≡ b → get_or more i 0 + period_seconds ≤ get_or more j 0
        go true e =
            let m = ltb-true j (length h) e in
            rw (before i (omega arith), before j m) (spaced i j a m)
        go false e =
            let m : j ≡ length h = omega (arith, ltb-false j (length h) e, more_long) in
            let g = rising i (length h - redirects_most) (omega arith) (omega arith) in
            rw (before i (omega arith), end j m) (omega (arith, g, fifth (omega arith)))
