-- A float from 0 to a whole number B, and that `round` keeps a fraction there. Assumes nothing.
use Prim.Native.Nat.{ℕ, suc, ◌+◌, ◌*◌, ◌^◌, ◌≤◌, ◌<◌}
use mathlib.Core.Path.{◌≡◌, refl, sym}
use mathlib.Core.Bool.{Bool, true, false, cond, ◌&&◌, ◌||◌, true≢false}
use native.Mathlib.Nat.{le_trans, le_of_eq, le_of_lt, lt_of_lt_of_le, mul-one}
use native.Mathlib.Omega.{arith}
use lib.Dec.{T, ltb, eqb, ltb→lt, eqb→eq}
use lib.IntN.{ℤ}
use lib.Pow.{pow_pos, pow_mono, shl_lt}
use lib.Ieee.{Float, nan, inf, fin, Format, prec, emax, low, up, down, odd, units, round, le}
use lib.Ieee.Fits.{round_is, reach, down_pos}
use lib.Ieee.Exact.{HasValue, odd_sign, round_exact}
use lib.Ieee.Order.{kept, drop, round_mono}
use lib.Ieee.Positive.{through}

-- finite, not negative (nor -0), and at most B
pub data Within (B : ℕ) : Float → Type 0 where
  within : {m : ℕ} {e : ℤ} → m * up e ≤ B * down e → Within B (fin false m e)

-- ---- `round f false` gives no NaN and no sign
abbrev Unsigned : Float → Type 0
Unsigned nan = ⊥
Unsigned (inf s) = s ≡ false
Unsigned (fin s m e) = s ≡ false

value_unsigned : (x : Float) (a c : ℕ) → HasValue x false a c → Unsigned x
value_unsigned nan a c h = h
value_unsigned (inf s) a c h = absurd h
value_unsigned (fin s m e) a c h = h.0

units_unsigned : (f : Format) (q k : ℕ) → Unsigned (units f false q k)
unfolding units
units_unsigned f q k = go (ltb (q * 2 ^ k) (2 ^ (low f + suc (emax f))))
  where
    go : (b : Bool) → Unsigned (cond b (odd (suc (prec f)) false q k (low f)) (inf false))
    go true =
        let d = suc (prec f) in
        value_unsigned (odd d false q k (low f)) (q * 2 ^ k) (2 ^ low f) (odd_sign d false q k (low f))
    go false = refl

round_unsigned : (f : Format) (num den : ℕ) → Unsigned (round f false num den)
round_unsigned f num den =
    let n = num * 2 ^ low f in
    rw (round_is f false num den) (units_unsigned f (kept (prec f) n den) (drop (prec f) n den))

-- ---- what is unsigned and at most a value B
at_most : (a b : ℕ) → T (ltb a b || (eqb a b && true)) → a ≤ b
at_most a b = go (ltb a b) (eqb a b) (ltb→lt a b) (eqb→eq a b)
  where
    go : (l e : Bool) → (T l → a < b) → (T e → a ≡ b) → T (l || (e && true)) → a ≤ b
    go true e h k t = le_of_lt (h tt)
    go false true h k t = le_of_eq (k tt)
    go false false h k t = absurd t

under : (x y : Float) (B : ℕ) → Unsigned x → HasValue y false B 1 → T (le x y) → Within B x
unfolding le
under nan y B u v h = absurd u
under (inf true) y B u v h = absurd (true≢false u)
under (inf false) nan B u v h = absurd v
under (inf false) (inf t) B u v h = absurd v
under (inf false) (fin t n d) B u v h = absurd h
under (fin true m e) y B u v h = absurd (true≢false u)
under (fin false m e) nan B u v h = absurd v
under (fin false m e) (inf t) B u v h = absurd v
under (fin false m e) (fin true n d) B u v h = absurd (true≢false v.0)
under (fin false m e) (fin false n d) B u v h =
    let a = at_most (m * up e * down d) (n * up d * down e) h in
    within
    (le_trans (le_of_eq (sym (mul-one (m * up e))))
    (through (m * up e) (n * up d) B (down e) (down d) 1 (down_pos d) a (le_of_eq v.1)))

-- ---- a whole number that the format counts without a gap is a value of it
pub whole_exact : (f : Format) (B : ℕ) → B < 2 ^ prec f → HasValue (round f false B 1) false B 1
whole_exact f B h =
    round_exact f false B 1 B (low f) (pow_pos 0) h
    (lt_of_lt_of_le (shl_lt (prec f) (low f) h) (pow_mono (more (prec f) (suc (emax f)) (low f) (reach f))))
    (sym (mul-one (B * 2 ^ low f)))
  where
    more : (p q l : ℕ) → p ≤ q → p + l ≤ l + q
    more p q l h = omega arith

pub round_within : (f : Format) (B num den : ℕ) → B < 2 ^ prec f → 0 < den → num ≤ B * den
    → Within B (round f false num den)
round_within f B num den small D h =
    under (round f false num den) (round f false B 1) B (round_unsigned f num den) (whole_exact f B small)
    (round_mono f num den B 1 D (pow_pos 0) (le_trans (le_of_eq (mul-one num)) h))
