-- That a table is consistent survives storing a new key, clearing a place, and changing elements without giving them
-- new keys.
use Prim.Native.Nat.{ℕ, ◌<◌, ◌≤◌}
use mathlib.Core.Path.{◌≡◌, refl, sym, ap, ◌∙◌}
use mathlib.Core.List.{List, map}
use native.Mathlib.Omega.{arith}
use native.Mathlib.Decide.{ℕ_discrete}
use lib.ListN.{length, get_or, set, length-set, length-map, get_or-map, replicate, length-replicate, get_or-replicate}
use lib.Seq.{get_or-set_same, get_or-set_other}
use Rattle.octets.specs.Lists.{place_of}
use Rattle.octets.proofs.Places.{at_most}
use Rattle.reached.specs.WellFormed.{Distinct, Cleared, EachInUse, Consistent}

module _ {A : Type 0} (key : A → ℕ) (d : A) where
  module _ (xs : List A) (p : ℕ) (y : A) where
    stored : (i : ℕ) → i < length xs → i ≡ p → get_or (set xs p y) i d ≡ y
    stored i l e = rw e (get_or-set_same xs p y d (rw e at l))

    kept : (i : ℕ) → (i ≡ p → ⊥) → get_or (set xs p y) i d ≡ get_or xs i d
    kept i n = get_or-set_other xs p i y d n

    inside : {i : ℕ} → i < length (set xs p y) → i < length xs
    inside l = rw (← length-set xs p y) l

    -- the new element is unlike every other
    store_once : Distinct key d xs → ((j : ℕ) → j < length xs → key (get_or xs j d) ≡ key y → (key y ≡ 0 → ⊥) → ⊥)
        → Distinct key d (set xs p y)
    store_once once unlike i j hi hj e z = go (ℕ_discrete i p) (ℕ_discrete j p)
      where
        li : i < length xs
        li = inside hi

        lj : j < length xs
        lj = inside hj

        go : Dec (i ≡ p) → Dec (j ≡ p) → i ≡ j
        go (yes a) (yes b) = a ∙ sym b
        go (yes a) (no b) =
            let s = ap key (stored i li a) in
            absurd (unlike j lj (sym (ap key (kept j b)) ∙ sym e ∙ s) (λ n. z (s ∙ n)))
        go (no a) (yes b) =
            let s = ap key (stored j lj b) in
            absurd (unlike i li (sym (ap key (kept i a)) ∙ e ∙ s) (λ n. z (e ∙ s ∙ n)))
        go (no a) (no b) =
            once i j li lj (sym (ap key (kept i a)) ∙ e ∙ ap key (kept j b)) (λ n. z (ap key (kept i a) ∙ n))

    store_clear : Cleared key d xs → (key y ≡ 0 → y ≡ d) → Cleared key d (set xs p y)
    store_clear clear new i l z = go (ℕ_discrete i p)
      where
        go : Dec (i ≡ p) → get_or (set xs p y) i d ≡ d
        go (yes e) =
            let s = stored i (inside l) e in
            s ∙ new (sym (ap key s) ∙ z)
        go (no e) =
            let k = kept i e in
            k ∙ clear i (inside l) (sym (ap key k) ∙ z)

    store_bounded : (P : A → Type 0) → EachInUse key d P xs → ((key y ≡ 0 → ⊥) → P y) → EachInUse key d P (set xs p y)
    store_bounded P old new i l n = go (ℕ_discrete i p)
      where
        go : Dec (i ≡ p) → P (get_or (set xs p y) i d)
        go (yes e) =
            let s = stored i (inside l) e in
            rw s (new (λ z. n (ap key s ∙ z)))
        go (no e) =
            let k = kept i e in
            rw k (old i (inside l) (λ z. n (ap key k ∙ z)))

  module _ {P : A → Type 0} {size : ℕ} (xs : List A) (c : Consistent key d P size xs) where
    -- opening: the key is not 0 and stood nowhere
    pub opened : (p : ℕ) (y : A) → (key y ≡ 0 → ⊥) → length xs ≤ place_of key (key y) xs → P y
        → Consistent key d P size (set xs p y)
    opened p y named new fits =
        record {
          long = length-set xs p y ∙ c.long;
          once = store_once xs p y c.once (λ j l e z. omega (arith, at_most key (key y) xs j d l e));
          clear = store_clear xs p y c.clear (λ z. absurd (named z));
          bounded = store_bounded xs p y P c.bounded (λ z. fits);
        }

    -- closing
    pub closed : (p : ℕ) → key d ≡ 0 → Consistent key d P size (set xs p d)
    closed p free =
        record {
          long = length-set xs p d ∙ c.long;
          once = store_once xs p d c.once (λ j l e z. z free);
          clear = store_clear xs p d c.clear (λ z. refl);
          bounded = store_bounded xs p d P c.bounded (λ n. absurd (n free));
        }

    -- changing an element in its place, which keeps its key
    pub changed : (p : ℕ) (y : A) → p < length xs → (key y ≡ 0 → ⊥) → key y ≡ key (get_or xs p d) → P y
        → Consistent key d P size (set xs p y)
    changed p y there named same fits =
        record {
          long = length-set xs p y ∙ c.long;
          once = λ i j hi hj e z. c.once i j (inside xs p y hi) (inside xs p y hj) (sym (keeps i) ∙ e ∙ keeps j)
              (λ n. z (keeps i ∙ n));
          clear = store_clear xs p y c.clear (λ z. absurd (named z));
          bounded = store_bounded xs p y P c.bounded (λ n. fits);
        }
      where
        keeps : (i : ℕ) → key (get_or (set xs p y) i d) ≡ key (get_or xs i d)
        keeps i = go (ℕ_discrete i p)
          where
            go : Dec (i ≡ p) → key (get_or (set xs p y) i d) ≡ key (get_or xs i d)
            go (yes e) = rw e (ap key (get_or-set_same xs p y d there) ∙ same)
            go (no e) = ap key (kept xs p y i e)

    -- replacing every element: one keeps its key or loses it, and is cleared where it has none
    module _ (f : A → A) (fd : f d ≡ d) (keeps : (x : A) → (key (f x) ≡ 0 → ⊥) → key (f x) ≡ key x)
        (clears : (x : A) → (key x ≡ 0 → x ≡ d) → key (f x) ≡ 0 → f x ≡ d)
        (fits : (x : A) → (key (f x) ≡ 0 → ⊥) → P x → P (f x)) where
      at : (k : ℕ) → get_or (map f xs) k d ≡ f (get_or xs k d)
      at k = ap (get_or (map f xs) k) (sym fd) ∙ get_or-map f xs k d

      was : (k : ℕ) → (key (get_or (map f xs) k d) ≡ 0 → ⊥) → key (get_or (map f xs) k d) ≡ key (get_or xs k d)
      was k n = ap key (at k) ∙ keeps (get_or xs k d) (λ m. n (ap key (at k) ∙ m))

      here : {i : ℕ} → i < length (map f xs) → i < length xs
      here l = rw (← length-map xs f) l

      pub each : Consistent key d P size (map f xs)
      each =
          record {
            long = length-map xs f ∙ c.long;
            once = λ i j hi hj e z. c.once i j (here hi) (here hj) (sym (was i z) ∙ e ∙ was j (λ n. z (e ∙ n)))
                (λ n. z (was i z ∙ n));
            clear = λ i l z. at i ∙ clears (get_or xs i d) (c.clear i (here l)) (sym (ap key (at i)) ∙ z);
            bounded =
                λ i l n. rw (at i) (fits (get_or xs i d) (λ m. n (ap key (at i) ∙ m))
                (c.bounded i (here l) (λ m. n (was i n ∙ m))));
          }

  -- a table of free places
  pub all_free : (P : A → Type 0) (size : ℕ) → key d ≡ 0 → Consistent key d P size (replicate size d)
  all_free P size free =
      record {
        long = length-replicate size d;
        once = λ i j hi hj e u. absurd (u (ap key (holds i hi) ∙ free));
        clear = λ i l z. holds i l;
        bounded = λ i l n. absurd (n (ap key (holds i l) ∙ free));
      }
    where
      holds : (i : ℕ) → i < length (replicate size d) → get_or (replicate size d) i d ≡ d
      holds i l = get_or-replicate size i d d (rw (← length-replicate size d) l)
