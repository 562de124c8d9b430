-- The last elements of a list: how many they are, with more behind them, and the very last.
use Prim.Native.Nat.{ℕ, ◌+◌, ◌-◌, ◌≤◌, ◌<◌, min}
use mathlib.Core.Path.{◌≡◌, sym, ap, ◌∙◌}
use mathlib.Core.List.{List, [], ◌∷◌, ◌++◌}
use native.Mathlib.Omega.{arith}
use lib.ListN.{length, get_or, drop, length-append, length-drop}
use lib.Seq.{drop-append-le, drop-append-add, drop-drop, get_or-drop, get_or-append-add}
use Rattle.redirecting.specs.Limits.{redirects_most}
use Rattle.redirecting.specs.Times.{last_of, latest}

abbrev pub last_five : List ℕ → List ℕ
last_five l = last_of redirects_most l

pub last_long : (l : List ℕ) → length (last_five l) ≡ min redirects_most (length l)
last_long l = simp length-drop (omega arith)

-- where there are no more than five, these are all
pub last_all : (l : List ℕ) → length l ≤ redirects_most → last_five l ≡ l
last_all l h = let none : length l - redirects_most ≡ 0 = omega arith in rw none

-- the element at a place of them
pub last_at : (l : List ℕ) (i : ℕ) → get_or (last_five l) i 0 ≡ get_or l (length l - redirects_most + i) 0
last_at l i = get_or-drop (length l - redirects_most) l i 0

-- one more behind them
pub last_more : (l : List ℕ) (t : ℕ) → last_five (last_five l ++ t ∷ []) ≡ last_five (l ++ t ∷ [])
last_more l t =
    let k = length l - redirects_most in
    let all = l ++ t ∷ [] in
    let long : length all ≡ length l + 1 = length-append l (t ∷ []) in
    let joined : last_five l ++ t ∷ [] ≡ drop k all = sym (drop-append-le k l (t ∷ []) (omega arith)) in
    let rest : k + (length (drop k all) - redirects_most) ≡ length all - redirects_most =
    omega (arith, long, length-drop k all) in
    ap last_five joined ∙ drop-drop (length (drop k all) - redirects_most) k all ∙ ap (λ (n : ℕ). drop n all) rest

pub latest_last : (l : List ℕ) → latest (last_five l) ≡ latest l
latest_last l =
    let same : length l - redirects_most + (length (last_five l) - 1) ≡ length l - 1 = omega (arith, last_long l) in
    last_at l (length (last_five l) - 1) ∙ ap (λ (n : ℕ). get_or l n 0) same

-- what stands before a list of five or more does not count, nor before one of any for the very last
pub last_behind : (x h : List ℕ) → redirects_most ≤ length h → last_five (x ++ h) ≡ last_five h
last_behind x h five =
    let at : length (x ++ h) - redirects_most ≡ length x + (length h - redirects_most) =
    omega (arith, length-append x h) in
    rw at (drop-append-add x h (length h - redirects_most))

pub latest_behind : (x h : List ℕ) → 0 < length h → latest (x ++ h) ≡ latest h
latest_behind x h some =
    let at : length (x ++ h) - 1 ≡ length x + (length h - 1) = omega (arith, length-append x h) in
    rw at (get_or-append-add x h (length h - 1) 0)
