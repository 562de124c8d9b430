-- Any number of updates leave what the one with the greatest ID alone would leave.
use Prim.Native.Nat.{◌+◌}
use mathlib.Core.Path.{◌≡◌, refl, ◌∙◌}
use mathlib.Core.List.{List, [], ◌∷◌}
use mathlib.Core.Bool.{Bool, true, false}
use mathlib.Core.Option.{Option, some}
use native.Mathlib.Omega.{arith}
use borrow.Author.Tests.{leb-true, leb-false, le-leb, lt-leb}
use lib.Dec.{leb}
use Rattle.order.specs.Order.{after, Update, Held, latest, settled, greater, greatest}

ruleset tests = (arith, leb-true, leb-false)

module _ {A : Type 0} where
  -- two updates, by whether the first counts and whether it is the greater
  two : (u w : Update A) (h : Held A) → latest w (latest u h) ≡ latest (greater u (some w)) h
  unfolding latest greater
  two u w h = go (leb h.mark u.id) refl (leb w.id u.id) refl
    where
      go : (a : Bool) → leb h.mark u.id ≡ a → (b : Bool) → leb w.id u.id ≡ b
          → latest w (latest u h) ≡ latest (greater u (some w)) h
      go true a true b = rw (latest, b, a, lt-leb (u.id + 1) w.id (omega tests))
      go true a false b =
          rw (latest, b, a, le-leb (u.id + 1) w.id (omega tests), le-leb h.mark w.id (omega tests))
      go false a true b = rw (latest, b, a, lt-leb h.mark w.id (omega tests))
      go false a false b = rw (latest, b, a)

  -- what is held at the end, its mark with it; `settled` says which value and which mark
  pub latest_is_greatest : (us : List (Update A)) (h : Held A) → after latest h us ≡ settled (greatest us) h
  unfolding settled greater greatest
  latest_is_greatest [] h = refl
  latest_is_greatest (u ∷ us) h = latest_is_greatest us (latest u h) ∙ go (greatest us)
    where
      go : (g : Option (Update A)) → settled g (latest u h) ≡ latest (greater u g) h
      go Option.none = refl
      go (some w) = two u w h
