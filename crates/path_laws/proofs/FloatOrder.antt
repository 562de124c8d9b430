-- IEEE 754's `<` and `<=` as an order, for all of its values, infinities, both zeros and subnormal ones among them: no
-- value is below itself, what is not below z is above all that is below z, and `x <= y` is that y is not below x, of
-- what is no NaN. Assumes nothing.
use Prim.Native.Nat.{ℕ, ◌+◌, ◌*◌, ◌≤◌, ◌<◌}
use mathlib.Core.Path.{◌≡◌, refl, sym, ◌∙◌}
use mathlib.Core.Bool.{Bool, true, false, ◌||◌, true≢false, false≢true}
use native.Mathlib.Nat.{mul-pos, le_of_lt}
use native.Mathlib.Omega.{arith}
use borrow.Author.Tests.{ltb-true, ltb-false, lt-ltb, le-ltb, eqb-true, eq-eqb}
use lib.Dec.{ltb, eqb}
use lib.Ieee.{Float, nan, inf, fin, lt, eq, le, is_nan, below, level, up, down}
use lib.Ieee.Fits.{down_pos}
use lib.Ieee.Positive.{through, first_pos}
use Rattle.octets.proofs.Small.{both}

-- ---- fractions: x / p < y / q ≤ z / r
less_most : (x y z p q r : ℕ) → 0 < r → x * q < y * p → y * r ≤ z * q → x * r < z * p
less_most x y z p q r R h k = go (ltb (x * r) (z * p)) refl
  where
    go : (b : Bool) → ltb (x * r) (z * p) ≡ b → x * r < z * p
    go true e = ltb-true (x * r) (z * p) e
    go false e = omega (arith, through y z x q r p R k (ltb-false (x * r) (z * p) e))

-- x / p ≤ y / q < z / r
most_less : (x y z p q r : ℕ) → 0 < p → x * q ≤ y * p → y * r < z * q → x * r < z * p
most_less x y z p q r P h k = go (ltb (x * r) (z * p)) refl
  where
    go : (b : Bool) → ltb (x * r) (z * p) ≡ b → x * r < z * p
    go true e = ltb-true (x * r) (z * p) e
    go false e = omega (arith, through z x y r p q P (ltb-false (x * r) (z * p) e) h)

-- a product is 0 by its first factor, where the second is above 0
zero_first : (a b c : ℕ) → 0 < b → a * b ≤ 0 → a * c ≤ 0
zero_first a b c B h = go (ltb 0 (a * c)) refl
  where
    go : (t : Bool) → ltb 0 (a * c) ≡ t → a * c ≤ 0
    go true e = omega (arith, mul-pos (first_pos a c (ltb-true 0 (a * c) e)) B)
    go false e = ltb-false 0 (a * c) e

-- ---- the same with signs, as `below` compares them
module _ (x y z p q r : ℕ) (P : 0 < p) (Q : 0 < q) (R : 0 < r) where
  signed_cotrans : (s t u : Bool) → below s (x * r) u (z * p) ≡ true → below t (y * r) u (z * q) ≡ false
      → below s (x * q) t (y * p) ≡ true
  signed_cotrans false false false h k =
      let l = ltb-true (x * r) (z * p) h in
      lt-ltb (x * q) (y * p) (less_most x z y p r q Q l (ltb-false (y * r) (z * q) k))
  signed_cotrans false true false h k =
      let l = ltb-true (x * r) (z * p) h in
      let m : 0 < z * q = mul-pos (first_pos z p (omega arith)) Q in
      let n = ltb-false 0 (y * r + z * q) k in
      absurd (omega arith)
  signed_cotrans false t true h k = absurd (false≢true h)
  signed_cotrans true false false h k =
      let l = ltb-true 0 (x * r + z * p) h in
      let n = ltb-false (y * r) (z * q) k in
      lt-ltb 0 (x * q + y * p) (go (ltb 0 (x * r)) refl l n)
    where
      go : (b : Bool) → ltb 0 (x * r) ≡ b → 0 < x * r + z * p → z * q ≤ y * r → 0 < x * q + y * p
      go true e l n =
          let m : 0 < x * q = mul-pos (first_pos x r (ltb-true 0 (x * r) e)) Q in
          omega arith
      go false e l n =
          let f = ltb-false 0 (x * r) e in
          let m : 0 < z * q = mul-pos (first_pos z p (omega arith)) Q in
          let o : 0 < y * p = mul-pos (first_pos y r (omega arith)) P in
          omega arith
  signed_cotrans true true false h k =
      let l = ltb-true 0 (x * r + z * p) h in
      let n = ltb-false 0 (y * r + z * q) k in
      let o = zero_first y r p R (omega arith) in
      let i = zero_first z q p Q (omega arith) in
      let m : 0 < x * q = mul-pos (first_pos x r (omega arith)) Q in
      lt-ltb (y * p) (x * q) (omega arith)
  signed_cotrans true false true h k =
      let l = ltb-true (z * p) (x * r) h in
      let m : 0 < x * q = mul-pos (first_pos x r (omega arith)) Q in
      lt-ltb 0 (x * q + y * p) (omega arith)
  signed_cotrans true true true h k =
      let l = ltb-true (z * p) (x * r) h in
      lt-ltb (y * p) (x * q) (most_less y z x q r p Q (ltb-false (z * q) (y * r) k) l)

-- ---- `<` itself
pub lt_irrefl : (x : Float) → lt x x ≡ false
unfolding lt
lt_irrefl nan = refl
lt_irrefl (inf true) = refl
lt_irrefl (inf false) = refl
lt_irrefl (fin true m e) = le-ltb (m * up e * down e) (m * up e * down e) (omega arith)
lt_irrefl (fin false m e) = le-ltb (m * up e * down e) (m * up e * down e) (omega arith)

-- x < z, and y, no NaN, is not below z
pub lt_cotrans : (x y z : Float) → is_nan y ≡ false → lt x z ≡ true → lt y z ≡ false → lt x y ≡ true
unfolding lt is_nan
lt_cotrans nan y z n h k = absurd (false≢true h)
lt_cotrans (inf s) nan z n h k = absurd (true≢false n)
lt_cotrans (inf true) (inf true) z n h k = absurd (true≢false (sym h ∙ k))
lt_cotrans (inf true) (inf false) z n h k = refl
lt_cotrans (inf false) (inf t) nan n h k = absurd (false≢true h)
lt_cotrans (inf false) (inf t) (inf u) n h k = absurd (false≢true h)
lt_cotrans (inf false) (inf t) (fin u o f) n h k = absurd (false≢true h)
lt_cotrans (inf s) (fin t i d) nan n h k = absurd (false≢true h)
lt_cotrans (inf true) (fin t i d) (inf u) n h k = refl
lt_cotrans (inf false) (fin t i d) (inf u) n h k = absurd (false≢true h)
lt_cotrans (inf s) (fin t i d) (fin u o f) n h k = h
lt_cotrans (fin s m e) nan z n h k = absurd (true≢false n)
lt_cotrans (fin s m e) (inf t) nan n h k = absurd (false≢true h)
lt_cotrans (fin s m e) (inf true) (inf true) n h k = absurd (false≢true h)
lt_cotrans (fin s m e) (inf true) (inf false) n h k = absurd (true≢false k)
lt_cotrans (fin s m e) (inf false) (inf u) n h k = refl
lt_cotrans (fin s m e) (inf true) (fin u o f) n h k = absurd (true≢false k)
lt_cotrans (fin s m e) (inf false) (fin u o f) n h k = refl
lt_cotrans (fin s m e) (fin t i d) nan n h k = absurd (false≢true h)
lt_cotrans (fin s m e) (fin t i d) (inf true) n h k = absurd (false≢true h)
lt_cotrans (fin s m e) (fin t i d) (inf false) n h k = absurd (true≢false k)
lt_cotrans (fin s m e) (fin t i d) (fin u o f) n h k =
    signed_cotrans (m * up e) (i * up d) (o * up f) (down e) (down d) (down f) (down_pos e) (down_pos d) (down_pos f)
    s t u h k

-- ---- `<=`, by two sizes with their signs: a of x and b of y
less_or : (a b : ℕ) (x : Bool) → a ≤ b → (a ≡ b → x ≡ true) → ltb a b || x ≡ true
less_or a b x h k = go (ltb a b) refl
  where
    go : (l : Bool) → ltb a b ≡ l → l || x ≡ true
    go true e = refl
    go false e = k (omega (arith, ltb-false a b e))

at_most : (a b : ℕ) (x : Bool) → (x ≡ true → a ≡ b) → ltb a b || x ≡ true → a ≤ b
at_most a b x k h = go (ltb a b) refl h
  where
    go : (l : Bool) → ltb a b ≡ l → l || x ≡ true → a ≤ b
    go true e h = le_of_lt (ltb-true a b e)
    go false e h = omega (arith, k h)

module _ (a b : ℕ) where
  signed_le : (s t : Bool) → below t b s a ≡ false → below s a t b || level s a t b ≡ true
  signed_le false false h = less_or a b (level false a false b) (ltb-false b a h) (λ e. rw (eq-eqb a b e))
  signed_le false true h =
      let z = ltb-false 0 (b + a) h in
      rw (eq-eqb a b (omega arith), eq-eqb a 0 (omega arith))
  signed_le true false h =
      less_or 0 (a + b) (level true a false b) (omega arith) (λ e. rw (eq-eqb a b (omega arith), eq-eqb a 0 (omega arith)))
  signed_le true true h = less_or b a (level true a true b) (ltb-false a b h) (λ e. rw (eq-eqb a b (sym e)))

  signed_not : (s t : Bool) → below s a t b || level s a t b ≡ true → below t b s a ≡ false
  signed_not false false h =
      le-ltb b a (at_most a b (level false a false b) (λ e. eqb-true a b (both (eqb a b) true e).0) h)
  signed_not false true h =
      let e = both (eqb a b) (eqb a 0) h in
      le-ltb 0 (b + a) (omega (arith, eqb-true a b e.0, eqb-true a 0 e.1))
  signed_not true false h = refl
  signed_not true true h =
      le-ltb a b (at_most b a (level true a true b) (λ e. sym (eqb-true a b (both (eqb a b) true e).0)) h)

-- of what is no NaN: y is not below x
pub not_lt_le : (x y : Float) → is_nan x ≡ false → is_nan y ≡ false → lt y x ≡ false → le x y ≡ true
unfolding le lt eq is_nan
not_lt_le nan y m n h = absurd (true≢false m)
not_lt_le (inf s) nan m n h = absurd (true≢false n)
not_lt_le (inf true) (inf true) m n h = refl
not_lt_le (inf true) (inf false) m n h = refl
not_lt_le (inf false) (inf true) m n h = absurd (true≢false h)
not_lt_le (inf false) (inf false) m n h = refl
not_lt_le (inf true) (fin t i d) m n h = refl
not_lt_le (inf false) (fin t i d) m n h = absurd (true≢false h)
not_lt_le (fin s i d) nan m n h = absurd (true≢false n)
not_lt_le (fin s i d) (inf true) m n h = absurd (true≢false h)
not_lt_le (fin s i d) (inf false) m n h = refl
not_lt_le (fin s i d) (fin t j e) m n h = signed_le (i * up d * down e) (j * up e * down d) s t h

pub le_not_lt : (x y : Float) → le x y ≡ true → lt y x ≡ false
unfolding le lt eq
le_not_lt nan y h = absurd (false≢true h)
le_not_lt (inf s) nan h = refl
le_not_lt (inf true) (inf true) h = refl
le_not_lt (inf true) (inf false) h = refl
le_not_lt (inf false) (inf true) h = absurd (false≢true h)
le_not_lt (inf false) (inf false) h = refl
le_not_lt (inf true) (fin t i d) h = refl
le_not_lt (inf false) (fin t i d) h = absurd (false≢true h)
le_not_lt (fin s i d) nan h = refl
le_not_lt (fin s i d) (inf true) h = absurd (false≢true h)
le_not_lt (fin s i d) (inf false) h = refl
le_not_lt (fin s i d) (fin t j e) h = signed_not (i * up d * down e) (j * up e * down d) s t h

pub lt_le : (x y : Float) → lt x y ≡ true → le x y ≡ true
unfolding le
lt_le x y h = rw h

pub le_itself : (x : Float) → is_nan x ≡ false → le x x ≡ true
le_itself x n = not_lt_le x x n n (lt_irrefl x)
