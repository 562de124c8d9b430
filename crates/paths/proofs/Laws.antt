-- What the proofs of the calls share: an ordinal that is not refused is below 8, and a round trip's number. Assumes
-- nothing.
use Prim.Native.Nat.{ℕ, ◌+◌, ◌<◌}
use mathlib.Core.Path.{◌≡◌, refl, sym}
use mathlib.Core.Bool.{Bool, true, false, cond, not, ◌&&◌}
use mathlib.Core.List.{List}
use mathlib.Core.Logic.{◌≢◌}
use native.Mathlib.Omega.{arith}
use native.Mathlib.Numerals.{add-one}
use borrow.Author.Tests.{ltb-false, leb-false, ne_eqb}
use lib.Dec.{ltb, leb, eqb}
use lib.Ieee.{Float, lt, is_nan}
use Rattle.std.specs.Prelude.{Option, None, Some}
use Rattle.octets.specs.Checks.{Check, first_failed}
use Rattle.octets.proofs.Checks.{all_passed}
use Rattle.octets.proofs.Small.{neither}
use Rattle.paths.specs.Calls.{event_checks, answer, unless_refused}
use Rattle.paths.specs.Choice.{is_round_trip, best, better_of, best_of}
use Rattle.paths.specs.Best.{is_quicker, as_best}
use Rattle.paths.specs.Columns.{event_of}
use Rattle.paths.specs.declared.path.Path.{Path}
use Rattle.paths.specs.declared.path.LastEvent.TheVariants.{Nothing, RoundTrip, Loss}

pub in_place : (count ordinal milliseconds : ℕ) → first_failed (event_checks count ordinal milliseconds) ≡ 0 → ordinal < 8
in_place count ordinal milliseconds e =
    let passed = (all_passed (event_checks count ordinal milliseconds) refl e).0 in
    let none = neither (ltb 8 count) (leb count ordinal) passed in
    omega (arith, ltb-false 8 count none.0, leb-false count ordinal none.1)

pub round_trip : (kind : ℕ) (x : Float) → is_round_trip (event_of kind x) ≡ eqb kind 1
round_trip kind x = go (eqb kind 1) (eqb kind 2)
  where
    go : (a b : Bool) → is_round_trip (cond a (RoundTrip x) (cond b (Loss x) Nothing)) ≡ a
    go true b = refl
    go false true = refl
    go false false = refl

-- what is refused leaves the state
pub refused : {S : Type 0} (n : ℕ) (checks : List Check) (changed s : S) → n ≡ first_failed checks → n ≢ 0
    → answer n s ≡ unless_refused checks changed s
refused n checks changed s e z = rw (← e, ne_eqb n 0 z)

looked_at : (b : Option (ℕ × Float)) (qualified : Bool) (k : ℕ) (x : Float)
    → better_of (qualified && not (is_nan x)) (as_best b) k x
    ≡ as_best (cond (qualified && is_quicker b x) (Some (k, x)) b)
looked_at None qualified k x = go (qualified && not (is_nan x))
  where
    go : (q : Bool) → cond (q && true) (best true k x) (as_best None) ≡ as_best (cond q (Some (k, x)) None)
    go true = refl
    go false = refl
looked_at (Some b) qualified k x = go qualified (not (is_nan x)) (lt x b.1)
  where
    go : (q n l : Bool) → cond ((q && n) && l) (best true k x) (as_best (Some b)) ≡ as_best (cond (q && (n && l)) (Some (k, x)) (Some b))
    go true true true = refl
    go true true false = refl
    go true false l = refl
    go false n l = refl

-- One path more that was looked at: `now` is the best so far after it, where `heard` tells whether a round trip was
-- last heard on it.
pub one_more : (path : ℕ → Path) (b now : Option (ℕ × Float)) (k : ℕ) (heard : Bool) → as_best b ≡ best_of path k
    → is_round_trip (path k).last ≡ heard
    → now ≡ cond (heard && is_quicker b (path k).smoothed) (Some (k, (path k).smoothed)) b
    → as_best now ≡ best_of path (k + 1)
unfolding best_of
one_more path b now k heard was h n =
    rw (add-one, ← was, h, n) (sym (looked_at b heard k (path k).smoothed))
