-- A list copied element by element over a run of one value.
use Prim.Native.Nat.{ℕ, zero, suc, ◌+◌, ◌-◌, ◌<◌, ◌≤◌, min}
use mathlib.Core.Path.{◌≡◌, refl, sym, ap, ◌∙◌}
use mathlib.Core.List.{List, [], ◌∷◌, ◌++◌, append_assoc, append-nil}
use native.Mathlib.Nat.{sub_self, sub-zero, suc-sub-suc}
use native.Mathlib.Decide.{dec_lt}
use native.Mathlib.Omega.{arith}
use native.Mathlib.Numerals.{add-one}
use lib.ListN.{length, get_or, take, replicate, set, length-append, length-replicate, length-take, get_or-replicate}
use lib.ListN.{get_or-append}
use lib.Seq.{take-suc, take-suc-set, take_all, set_at, set_out, set-get_or, length-take-le, get_or-append-add}

module _ {A : Type 0} (z : A) where
  -- the first i of p, and z up to n elements
  abbrev pub copied : List A → ℕ → ℕ → List A
  copied p n i = take i p ++ replicate (n - i) z

  module _ (p : List A) (n i : ℕ) (fits : i < length p) (more : i < n) where
    one_more : replicate (n - i) z ≡ z ∷ replicate (n - (i + 1)) z
    one_more = ap (λ (k : ℕ). replicate k z) next
      where
        next : n - i ≡ suc (n - (i + 1))
        next = omega arith

    one_taken : (d : A) → take (i + 1) p ≡ take i p ++ (get_or p i d ∷ [])
    one_taken d = rw add-one (take-suc p i d fits)

    one_set : (x : A) → take (i + 1) (set p i x) ≡ take i p ++ (x ∷ [])
    one_set x = rw add-one (take-suc-set p i x fits)

    -- an element stored behind those copied is the next one copied
    put_next : (x : A) → set (copied p n i) i x ≡ copied (set p i x) n (i + 1)
    put_next x =
        rw (one_more, one_set x)
        (set_at (take i p) z (replicate (n - (i + 1)) z) x i (length-take-le i p (omega arith))
        ∙ sym (append_assoc (take i p) (x ∷ []) (replicate (n - (i + 1)) z)))

    -- storing the next element copies one more
    pub stored : (d : A) → set (copied p n i) i (get_or p i d) ≡ copied p n (i + 1)
    stored d = put_next (get_or p i d) ∙ ap (λ (q : List A). copied q n (i + 1)) (set-get_or p i d)

    -- where the next element is z it stands there already
    pub passed : get_or p i z ≡ z → copied p n i ≡ copied p n (i + 1)
    passed e = rw (one_more, one_taken z, e) (sym (append_assoc (take i p) (z ∷ []) (replicate (n - (i + 1)) z)))

  pub copied_all : (p : List A) (n i : ℕ) → i ≡ n → copied p n i ≡ take n p
  copied_all p n i e = rw (e, sub_self n) (append-nil (take n p))

  -- A list of n places, of which the first i count, or all where i is more.
  module _ (p : List A) (n i : ℕ) (long : length p ≡ n) where
    -- an element stored at the count is one more; past the places nothing is stored
    pub put_last : (x : A) → set (copied p n (min i n)) i x ≡ copied (set p i x) n (min (i + 1) n)
    put_last x = go (dec_lt i n)
      where
        go : Dec (i < n) → set (copied p n (min i n)) i x ≡ copied (set p i x) n (min (i + 1) n)
        go (yes h) =
            let m : min i n ≡ i = omega arith in
            let k : min (i + 1) n ≡ i + 1 = omega arith in
            rw (m, k) (put_next p n i (omega arith) h x)
        go (no h) =
            let m : min i n ≡ n = omega arith in
            let k : min (i + 1) n ≡ n = omega arith in
            let out = set_out p i x (omega arith) in
            rw (m, k, out, copied_all p n n refl, take_all n p (omega arith), out)

    pub length-copied : length (copied p n (min i n)) ≡ n
    length-copied = simp (length-append, length-replicate, length-take) (omega arith)

  -- what holds of z and of an element of p holds at its place
  pub copied_at : (P : A → Type 0) (d : A) → P z → (p : List A) (n i k : ℕ) → k < n → k < length p → P (get_or p k d)
      → P (get_or (copied p n i) k d)
  copied_at P d o p n zero k h l e = rw (sub-zero n, get_or-replicate n k z d h) o
  copied_at P d o [] n (suc i) k h l e = absurd (omega arith)
  copied_at P d o (x ∷ p) zero (suc i) k h l e = absurd (omega arith)
  copied_at P d o (x ∷ p) (suc n) (suc i) zero h l e = e
  copied_at P d o (x ∷ p) (suc n) (suc i) (suc k) h l e =
      rw (suc-sub-suc n i) (copied_at P d o p n i k (omega arith) (omega arith) e)

  get_d_same : (n k : ℕ) → get_or (replicate n z) k z ≡ z
  get_d_same zero k = refl
  get_d_same (suc n) zero = refl
  get_d_same (suc n) (suc k) = get_d_same n k

  -- One turn of a loop that copies s over n times z: `out` is what was copied up to i.
  module _ (s out : List A) (n i : ℕ) (more : i < n) (have : out ≡ copied (s ++ replicate n z) n i) where
    inside : i < length (s ++ replicate n z)
    inside = simp (length-append, length-replicate) (omega arith)

    pub turn_in : i < length s → set out i (get_or s i z) ≡ copied (s ++ replicate n z) n (i + 1)
    turn_in h = rw (have, ← get_or-append s (replicate n z) z i h) (stored (s ++ replicate n z) n i inside more z)

    pub turn_past : length s ≤ i → out ≡ copied (s ++ replicate n z) n (i + 1)
    turn_past h = have ∙ passed (s ++ replicate n z) n i inside more (past_is_z ∙ get_d_same n (i - length s))
      where
        split : i ≡ length s + (i - length s)
        split = omega arith

        past_is_z : get_or (s ++ replicate n z) i z ≡ get_or (replicate n z) (i - length s) z
        past_is_z =
            ap (λ (k : ℕ). get_or (s ++ replicate n z) k z) split ∙ get_or-append-add s (replicate n z) (i - length s) z
