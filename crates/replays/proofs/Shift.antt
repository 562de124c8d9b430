-- What reading comes to depends on the octets from its place on alone, and not on where they stand. Assumes nothing.
use Prim.Native.Nat.{ℕ, zero, suc, ◌+◌, ◌-◌, ◌*◌, ◌^◌}
use mathlib.Core.Path.{◌≡◌, refl, sym, ◌∙◌, ap, ap₂}
use mathlib.Core.Bool.{Bool, true, false, cond}
use mathlib.Core.List.{List, [], ◌∷◌}
use native.Mathlib.Omega.{arith}
use lib.Dec.{eqb, leb, ltb}
use lib.ListN.{length, take, drop, length-drop}
use lib.Seq.{drop-drop}
use Rattle.std.specs.Prelude.{Option, Some, None}
use Rattle.octets.specs.Limits.{address_octets}
use Rattle.leb128.specs.Leb128.{Decoded, more, decoded, decoded_at}
use Rattle.fields.specs.Fields.{Field, up_to, address, string, none, ◌then◌, list_of, Value, string_most, list_most}
use Rattle.fields.specs.Slots.{width}
use Rattle.fields.specs.Reading.{Reading, read, refused, behind, joined, times, limited, part_at, listed, read_at}
use Rattle.fields.specs.declared.refusal.Refusal.TheVariants.{Cut, TooLarge}
use Rattle.entries.specs.Kinds.{fields_of}
use Rattle.entries.specs.Entries.{kind_of, as_entry, of_kind, after_kind, entry_at}
use Rattle.entries.specs.declared.kind.Kind.{Kind}

-- from `at` to `next` it is as far as from `to` to `after`
pub record AsFar (at to next after : ℕ) : Type 0 where
  pub by : ℕ
  pub here : next ≡ at + by
  pub there : after ≡ to + by

-- the same value and as far, or the same refusal; the slots tell places, and differ
abbrev pub Like : {A : Type 0} → ℕ → ℕ → Reading A → Reading A → Type 0
Like at to (read v slots next) (read w others after) = (v ≡ w) × AsFar at to next after
Like at to (read v slots next) (refused why others) = ⊥
Like at to (refused why slots) (read w others after) = ⊥
Like at to (refused why slots) (refused reason others) = why ≡ reason

-- of a number
abbrev LikeNumber : ℕ → ℕ → Decoded → Decoded → Type 0
LikeNumber at to (Some (v, next)) (Some (w, after)) = (v ≡ w) × AsFar at to next after
LikeNumber at to (Some (v, next)) None = ⊥
LikeNumber at to None (Some (w, after)) = ⊥
LikeNumber at to None None = Unit {0}

as_far : (at to n m k : ℕ) {next after : ℕ} → AsFar n m next after → n ≡ at + k → m ≡ to + k → AsFar at to next after
as_far at to n m k f p q =
    let h = f.here in
    let t = f.there in
    record { by = k + f.by; here = omega arith; there = omega arith }

-- so many octets further on
further : {A : Type 0} (at to k : ℕ) (x y : Reading A) → Like (at + k) (to + k) x y → Like at to x y
further at to k (read v slots next) (read w others after) h =
    (h.0, as_far at to (at + k) (to + k) k h.1 refl refl)
further at to k (read v slots next) (refused why others) h = h
further at to k (refused why slots) (read w others after) h = h
further at to k (refused why slots) (refused reason others) h = h

-- ---- one part behind the other
module _ {A B C : Type 0} (join : A → B → C) where
  behind_like : (at to : ℕ) (a b : A) (slots others : List ℕ) (x y : Reading B) → a ≡ b → Like at to x y
      → Like at to (behind join a slots x) (behind join b others y)
  behind_like at to a b slots others (read v sl next) (read w sm after) e h = (ap₂ join e h.0, h.1)
  behind_like at to a b slots others (read v sl next) (refused why sm) e h = h
  behind_like at to a b slots others (refused why sl) (read w sm after) e h = h
  behind_like at to a b slots others (refused why sl) (refused reason sm) e h = h

  joined_like : (at to : ℕ) (x y : Reading A) (f g : ℕ → Reading B) → Like at to x y
      → ((k : ℕ) → Like (at + k) (to + k) (f (at + k)) (g (to + k)))
      → Like at to (joined join x f) (joined join y g)
  joined_like at to (read v sl next) (read w sm after) f g h rest =
      let k = h.1.by in
      rw (h.1.here, h.1.there)
      (behind_like at to v w sl sm (f (at + k)) (g (to + k)) h.0
      (further at to k (f (at + k)) (g (to + k)) (rest k)))
  joined_like at to (read v sl next) (refused why sm) f g h rest = absurd h
  joined_like at to (refused why sl) (read w sm after) f g h rest = absurd h
  joined_like at to (refused why sl) (refused reason sm) f g h rest = h

-- ---- a number
more_like : (at to b : ℕ) (x y : Decoded) → LikeNumber at to x y → LikeNumber at to (more b x) (more b y)
more_like at to b (Some (v, next)) (Some (w, after)) h = rw h.0 (go (eqb w 0) (leb (2 ^ 57) w))
  where
    go : (p q : Bool)
        → LikeNumber at to (cond p None (cond q None (Some (b - 128 + 128 * w, next))))
        (cond p None (cond q None (Some (b - 128 + 128 * w, after))))
    go true q = tt
    go false true = tt
    go false false = (refl, h.1)
more_like at to b (Some (v, next)) None h = absurd h
more_like at to b None (Some (w, after)) h = absurd h
more_like at to b None None h = tt

onward : (at to : ℕ) (x y : Decoded) → LikeNumber (at + 1) (to + 1) x y → LikeNumber at to x y
onward at to (Some (v, next)) (Some (w, after)) h = (h.0, as_far at to (at + 1) (to + 1) 1 h.1 refl refl)
onward at to (Some (v, next)) None h = h
onward at to None (Some (w, after)) h = h
onward at to None None h = tt

number_like : (os : List ℕ) (at to : ℕ) → LikeNumber at to (decoded os at) (decoded os to)
unfolding decoded
number_like [] at to = tt
number_like (b ∷ bs) at to =
    let x = decoded bs (at + 1) in
    let y = decoded bs (to + 1) in
    go (ltb b 128) (more_like at to b x y (onward at to x y (number_like bs (at + 1) (to + 1))))
  where
    go : (p : Bool) → LikeNumber at to (more b (decoded bs (at + 1))) (more b (decoded bs (to + 1)))
        → LikeNumber at to (cond p (Some (b, at + 1)) (more b (decoded bs (at + 1))))
        (cond p (Some (b, to + 1)) (more b (decoded bs (to + 1))))
    go true h = (refl, record { by = 1; here = refl; there = refl })
    go false h = h

limited_like : {A : Type 0} (at to most : ℕ) (x y : Decoded) (f g : ℕ → ℕ → Reading A) → LikeNumber at to x y
    → ((v k : ℕ) → Like (at + k) (to + k) (f v (at + k)) (g v (to + k)))
    → Like at to (limited most x f) (limited most y g)
limited_like at to most (Some (v, next)) (Some (w, after)) f g h rest =
    let k = h.1.by in
    rw (h.0, h.1.here, h.1.there)
    (go k (ltb most w) (further at to k (f w (at + k)) (g w (to + k)) (rest w k)))
  where
    go : (k : ℕ) (p : Bool) → Like at to (f w (at + k)) (g w (to + k))
        → Like at to (cond p (refused TooLarge []) (f w (at + k))) (cond p (refused TooLarge []) (g w (to + k)))
    go k true l = refl
    go k false l = l
limited_like at to most (Some (v, next)) None f g h rest = absurd h
limited_like at to most None (Some (w, after)) f g h rest = absurd h
limited_like at to most None None f g h rest = refl

-- ---- two buffers with the same octets from two places on
module _ (s t : List ℕ) where
  abbrev Same : ℕ → ℕ → Type 0
  Same at to = drop at s ≡ drop to t

  same_further : (at to k : ℕ) → Same at to → Same (at + k) (to + k)
  same_further at to k e = sym (drop-drop k at s) ∙ ap (drop k) e ∙ drop-drop k to t

  part_like : (n at to : ℕ) (slots others : List ℕ) → Same at to
      → Like at to (part_at n s at slots) (part_at n t to others)
  part_like n at to slots others e =
      let l : length s - at ≡ length t - to = sym (length-drop at s) ∙ ap length e ∙ length-drop to t in
      rw (l, e) (go (ltb (length t - to) n))
    where
      go : (p : Bool)
          → Like at to (cond p (refused Cut []) (read (take n (drop to t)) slots (at + n)))
          (cond p (refused Cut []) (read (take n (drop to t)) others (to + n)))
      go true = refl
      go false = (refl, record { by = n; here = refl; there = refl })

  times_like : {A : Type 0} (f g : ℕ → Reading A) → ((at to : ℕ) → Same at to → Like at to (f at) (g to))
      → (n at to : ℕ)
      → Same at to
      → Like at to (times n f at) (times n g to)
  times_like f g h zero at to e = (refl, record { by = 0; here = omega arith; there = omega arith })
  times_like f g h (suc n) at to e =
      joined_like ◌∷◌ at to (f at) (g to) (times n f) (times n g) (h at to e)
      (λ k. times_like f g h n (at + k) (to + k) (same_further at to k e))

  listed_like : {A : Type 0} (at to n room : ℕ) (x y : Reading (List A)) → Like at to x y
      → Like at to (listed n room x) (listed n room y)
  listed_like at to n room (read v slots next) (read w others after) h = h
  listed_like at to n room (read v slots next) (refused why others) h = h
  listed_like at to n room (refused why slots) (read w others after) h = h
  listed_like at to n room (refused why slots) (refused reason others) h = h

  read_like : (f : Field) (at to : ℕ) → Same at to → Like at to (read_at f s at) (read_at f t to)
  unfolding read_at
  read_like (up_to most) at to e =
      limited_like at to most (decoded_at s at) (decoded_at t to) (λ v next. read v (v ∷ []) next)
      (λ v next. read v (v ∷ []) next) (rw e (number_like (drop to t) at to))
      (λ v k. (refl, record { by = 0; here = omega arith; there = omega arith }))
  read_like address at to e = part_like address_octets at to (at ∷ []) (to ∷ []) e
  read_like string at to e =
      limited_like at to string_most (decoded_at s at) (decoded_at t to) (λ n next. part_at n s next (next ∷ n ∷ []))
      (λ n next. part_at n t next (next ∷ n ∷ [])) (rw e (number_like (drop to t) at to))
      (λ v k. part_like v (at + k) (to + k) _ _ (same_further at to k e))
  read_like none at to e = (refl, record { by = 0; here = omega arith; there = omega arith })
  read_like (f then g) at to e =
      joined_like (λ v w. (v, w)) at to (read_at f s at) (read_at f t to) (read_at g s) (read_at g t) (read_like f at to e)
      (λ k. read_like g (at + k) (to + k) (same_further at to k e))
  read_like (list_of f) at to e =
      limited_like at to list_most (decoded_at s at) (decoded_at t to)
      (λ n next. listed n (list_most * width f) (times n (read_at f s) next))
      (λ n next. listed n (list_most * width f) (times n (read_at f t) next)) (rw e (number_like (drop to t) at to))
      (λ v k. listed_like (at + k) (to + k) v (list_most * width f) (times v (read_at f s) (at + k))
      (times v (read_at f t) (to + k))
      (times_like (read_at f s) (read_at f t) (read_like f) v (at + k) (to + k) (same_further at to k e)))

  -- ---- an entry
  as_entry_like : (k : Kind) (at to : ℕ) (x y : Reading (Value (fields_of k))) → Like at to x y
      → Like at to (as_entry k x) (as_entry k y)
  as_entry_like k at to (read v slots next) (read w others after) h =
      ((λ i. record { kind = k; values = h.0 i }), h.1)
  as_entry_like k at to (read v slots next) (refused why others) h = h
  as_entry_like k at to (refused why slots) (read w others after) h = h
  as_entry_like k at to (refused why slots) (refused reason others) h = h

  of_kind_like : (at to : ℕ) → Same at to → (k : Option Kind) → Like at to (of_kind s at k) (of_kind t to k)
  of_kind_like at to e None = refl
  of_kind_like at to e (Some k) =
      as_entry_like k at to (read_at (fields_of k) s at) (read_at (fields_of k) t to) (read_like (fields_of k) at to e)

  after_kind_like : (at to : ℕ) → Same at to → (x y : Decoded) → LikeNumber at to x y
      → Like at to (after_kind s x) (after_kind t y)
  after_kind_like at to e (Some (v, next)) (Some (w, after)) h =
      let k = h.1.by in
      rw (h.0, h.1.here, h.1.there)
      (further at to k (of_kind s (at + k) (kind_of w)) (of_kind t (to + k) (kind_of w))
      (of_kind_like (at + k) (to + k) (same_further at to k e) (kind_of w)))
  after_kind_like at to e (Some (v, next)) None h = absurd h
  after_kind_like at to e None (Some (w, after)) h = absurd h
  after_kind_like at to e None None h = refl

  pub entry_like : (at to : ℕ) → Same at to → Like at to (entry_at s at) (entry_at t to)
  unfolding entry_at
  entry_like at to e =
      after_kind_like at to e (decoded_at s at) (decoded_at t to) (rw e (number_like (drop to t) at to))
