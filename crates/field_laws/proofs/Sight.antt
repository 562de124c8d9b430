-- What octets that come later leave of a reading. Assumes nothing.
use Prim.Native.Nat.{ℕ, zero, suc, ◌+◌, ◌-◌, ◌*◌, ◌/◌, ◌≤◌}
use mathlib.Core.Path.{◌≡◌, refl, sym, ◌∙◌, ap}
use mathlib.Core.Bool.{Bool, true, false, cond}
use mathlib.Core.List.{List, [], ◌∷◌, ◌++◌}
use native.Mathlib.Omega.{arith}
use native.Mathlib.Nat.{le-max_left, le-max_right, max-le, mul-le-mul, suc-mul, zero-mul}
use borrow.Author.Tests.{le-ltb, ltb-true, ltb-false, leb-true, eqb-true}
use lib.Dec.{ltb, leb}
use lib.ListN.{length, get_or, take, drop, length-append, length-drop}
use lib.Seq.{drop-append-le, take-append-le, get_or-drop}
use Rattle.std.specs.Prelude.{Some, None}
use Rattle.octets.specs.Limits.{address_octets}
use Rattle.octets.specs.Lists.{all}
use Rattle.octets.proofs.Small.{both}
use Rattle.leb128.specs.Leb128.{Decoded, decoded_at, groups, octets_of, groups_most}
use Rattle.leb128.specs.RoundTrips.{Octets}
use Rattle.leb128.proofs.Octets.{groups_small, groups_large}
use Rattle.leb128.proofs.Stable.{first_octets, stays_read, stays_refused}
use Rattle.fields.specs.Fields.{Field, up_to, address, string, none, ◌then◌, list_of, Value, fits, octets, each_of}
use Rattle.fields.specs.Fields.{string_most, list_most}
use Rattle.fields.specs.Reading.{Reading, read, refused, behind, joined, times, limited, part_at, listed, read_at}
use Rattle.field_laws.specs.Sight.{longest, items_sight, sight, Final, Decided}
use Rattle.fields.specs.Slots.{width}
use Rattle.fields.specs.declared.refusal.Refusal.TheVariants.{Cut, UnknownKind, TooLarge}
use Rattle.field_laws.proofs.Told.{number_is, told}

-- ---- how long a value is that fits
groups_more : (k v m : ℕ) → v ≤ m → length (groups k v) ≤ length (groups k m)
groups_more zero v m h = unfold groups in omega arith
groups_more (suc k) v m h = go (ltb v 128) refl (ltb m 128) refl (groups_more k (v / 128) (m / 128) (omega arith))
  where
    go : (a : Bool) → ltb v 128 ≡ a → (b : Bool) → ltb m 128 ≡ b
        → length (groups k (v / 128)) ≤ length (groups k (m / 128))
        → length (groups (suc k) v) ≤ length (groups (suc k) m)
    go true p true q ih = rw (groups_small k v (ltb-true v 128 p), groups_small k m (ltb-true m 128 q)) (omega arith)
    go true p false q ih = rw (groups_small k v (ltb-true v 128 p), groups_large k m (ltb-false m 128 q)) (omega arith)
    go false p true q ih = let a = ltb-false v 128 p in let b = ltb-true m 128 q in absurd (omega arith)
    go false p false q ih =
        rw (groups_large k v (ltb-false v 128 p), groups_large k m (ltb-false m 128 q)) (omega arith)

pub number_longest : (v m : ℕ) → v ≤ m → length (octets_of v) ≤ length (octets_of m)
unfolding octets_of
number_longest v m h = groups_more 10 v m h

each_longest : {A : Type 0} (written : A → List ℕ) (ok : A → Bool) (most : ℕ)
    → ((v : A) → ok v ≡ true → length (written v) ≤ most)
    → (vs : List A) → all ok vs ≡ true → length (each_of written vs) ≤ length vs * most
each_longest written ok most one [] h = rw (zero-mul most) (omega arith)
each_longest written ok most one (v ∷ vs) h =
    let b = both (ok v) (all ok vs) h in
    let ih = each_longest written ok most one vs b.1 in
    let o = one v b.0 in
    rw (length-append (written v) (each_of written vs), suc-mul (length vs) most) (omega arith)

pub at_longest : (f : Field) (v : Value f) → fits f v ≡ true → length (octets f v) ≤ longest f
unfolding fits octets
at_longest (up_to most) v h = number_longest v most (leb-true v most h)
at_longest address v h = let l = eqb-true (length v) address_octets h in omega arith
at_longest string v h =
    let l = leb-true (length v) string_most h in
    rw (length-append (octets_of (length v)) v) (omega (arith, number_longest (length v) string_most l))
at_longest none v h = omega arith
at_longest (f then g) v h =
    let b = both (fits f v.0) (fits g v.1) h in
    rw (length-append (octets f v.0) (octets g v.1))
    (omega (arith, at_longest f v.0 b.0, at_longest g v.1 b.1))
at_longest (list_of f) v h =
    let b = both (leb (length v) list_most) (all (fits f) v) h in
    let l = leb-true (length v) list_most b.0 in
    let e = each_longest (octets f) (fits f) (longest f) (λ x y. at_longest f x y) v b.1 in
    let m : length v * longest f ≤ list_most * longest f = mul-le-mul l (omega arith) in
    rw (length-append (octets_of (length v)) (each_of (octets f) v)) (omega (arith, number_longest (length v) list_most l))

-- ---- parts of a reading, with more in sight
module _ {A B C : Type 0} (join : A → B → C) where
  joined_same : (r : Reading A) (k l : ℕ → Reading B) → ((v : A) (sl : List ℕ) (n : ℕ) → r ≡ read v sl n → k n ≡ l n)
      → joined join r k ≡ joined join r l
  joined_same (refused why sl) k l h = refl
  joined_same (read v sl n) k l h = ap (behind join v sl) (h v sl n refl)

  final_behind : (v : A) (sl : List ℕ) (q : Reading B) → Final (behind join v sl q) → Final q
  final_behind v sl (read b more n) h = tt
  final_behind v sl (refused Cut more) h = h
  final_behind v sl (refused UnknownKind more) h = tt
  final_behind v sl (refused TooLarge more) h = tt

  joined_stays : (r x : Reading A) (k l : ℕ → Reading B) → (Final r → x ≡ r)
      → ((v : A) (sl : List ℕ) (n : ℕ) → r ≡ read v sl n → Final (k n) → l n ≡ k n) → Final (joined join r k)
      → joined join x l ≡ joined join r k
  joined_stays (refused Cut sl) x k l f h z = absurd z
  joined_stays (refused UnknownKind sl) x k l f h z = rw (f tt)
  joined_stays (refused TooLarge sl) x k l f h z = rw (f tt)
  joined_stays (read v sl n) x k l f h z = rw (f tt) (ap (behind join v sl) (h v sl n refl (final_behind v sl (k n) z)))

module _ {A : Type 0} (most : ℕ) where
  limited_same : (d : Decoded) (k l : ℕ → ℕ → Reading A) → ((n m : ℕ) → d ≡ Some (n, m) → n ≤ most → k n m ≡ l n m)
      → limited most d k ≡ limited most d l
  limited_same None k l h = refl
  limited_same (Some (n, m)) k l h = go (ltb most n) refl
    where
      go : (b : Bool) → ltb most n ≡ b
          → cond (ltb most n) (refused TooLarge []) (k n m) ≡ cond (ltb most n) (refused TooLarge []) (l n m)
      go true p = rw p
      go false p = rw (p, h n m refl (ltb-false most n p))

  limited_stays : (d x : Decoded) (k l : ℕ → ℕ → Reading A) → ((n m : ℕ) → d ≡ Some (n, m) → x ≡ Some (n, m))
      → ((n m : ℕ) → d ≡ Some (n, m) → n ≤ most → Final (k n m) → l n m ≡ k n m) → Final (limited most d k)
      → limited most x l ≡ limited most d k
  limited_stays None x k l f h z = absurd z
  limited_stays (Some (n, m)) x k l f h z = rw (f n m refl) (go (ltb most n) refl z)
    where
      go : (b : Bool) → ltb most n ≡ b → Final (cond b (refused TooLarge []) (k n m))
          → cond (ltb most n) (refused TooLarge []) (l n m) ≡ cond (ltb most n) (refused TooLarge []) (k n m)
      go true p y = rw p
      go false p y = rw (p, h n m refl (ltb-false most n p) y)

final_listed : {A : Type 0} (n room : ℕ) (r : Reading (List A)) → Final (listed n room r) → Final r
final_listed n room (read v sl m) h = tt
final_listed n room (refused Cut sl) h = h
final_listed n room (refused UnknownKind sl) h = tt
final_listed n room (refused TooLarge sl) h = tt

items_more : (most decides n k : ℕ) → n ≤ k → items_sight most decides n ≤ items_sight most decides k
items_more most decides zero k h = omega arith
items_more most decides (suc n) zero h = absurd (omega arith)
items_more most decides (suc n) (suc k) h =
    let ih = items_more most decides n k (omega arith) in
    let a = items_sight most decides k in
    max-le (le-max_left decides (most + a)) (omega (arith, le-max_right decides (most + a)))

module _ (s later : List ℕ) (o : Octets (s ++ later)) where
  here : Octets s
  here = first_octets s later o

  tail_octets : (at : ℕ) → at ≤ length s → Octets (drop at s ++ later)
  tail_octets at h i =
      let p : get_or (drop at (s ++ later)) i 0 ≡ get_or (s ++ later) (at + i) 0 = get_or-drop at (s ++ later) i 0 in
      rw (← drop-append-le at s later h, p) (o (at + i))

  pub number_stays : (at n m : ℕ) → at ≤ length s → decoded_at s at ≡ Some (n, m) → decoded_at (s ++ later) at ≡ Some (n, m)
  number_stays at n m h e =
      rw (drop-append-le at s later h)
      (stays_read (drop at s) later at n m (first_octets (drop at s) later (tail_octets at h)) e)

  pub number_same : (at : ℕ) → at + groups_most ≤ length s → decoded_at (s ++ later) at ≡ decoded_at s at
  number_same at h = go (decoded_at s at) refl
    where
      go : (r : Decoded) → decoded_at s at ≡ r → decoded_at (s ++ later) at ≡ r
      go (Some (n, m)) e = number_stays at n m (omega arith) e
      go None e =
          rw (drop-append-le at s later (omega arith))
          (stays_refused (drop at s) later at (tail_octets at (omega arith)) (simp length-drop (omega arith)) e)

  part_same : (n at : ℕ) (sl : List ℕ) → at + n ≤ length s → part_at n (s ++ later) at sl ≡ part_at n s at sl
  part_same n at sl h =
      rw (
        le-ltb (length (s ++ later) - at) n (simp length-append (omega arith)),
        le-ltb (length s - at) n (omega arith),
        drop-append-le at s later (omega arith),
        take-append-le n (drop at s) later (simp length-drop (omega arith)),
      )

  part_stays : (n at : ℕ) (sl : List ℕ) → at ≤ length s → Final (part_at n s at sl)
      → part_at n (s ++ later) at sl ≡ part_at n s at sl
  part_stays n at sl h z = go (ltb (length s - at) n) refl z
    where
      go : (b : Bool) → ltb (length s - at) n ≡ b
          → Final (cond b (refused Cut []) (read (take n (drop at s)) sl (at + n)))
          → part_at n (s ++ later) at sl ≡ part_at n s at sl
      go true p y = absurd y
      go false p y = let l = ltb-false (length s - at) n p in part_same n at sl (omega arith)

  -- where a field ends
  ends : (f : Field) (at : ℕ) (v : Value f) (sl : List ℕ) (n : ℕ) → at ≤ length s → read_at f s at ≡ read v sl n
      → (n ≤ length s) × (n ≤ at + longest f)
  ends f at v sl n h e =
      let t = told s here f at v sl n e in
      let l : length s - at ≡ length (octets f v) + length (drop n s) =
      sym (length-drop at s) ∙ ap length t.written ∙ length-append (octets f v) (drop n s) in
      let m = at_longest f v t.fitting in
      (omega (arith, t.place), omega (arith, t.place))

  times_same : (f : Field) → ((at : ℕ) → at + sight f ≤ length s → read_at f (s ++ later) at ≡ read_at f s at)
      → (n at : ℕ) → at + items_sight (longest f) (sight f) n ≤ length s
      → times n (read_at f (s ++ later)) at ≡ times n (read_at f s) at
  times_same f one zero at h = refl
  times_same f one (suc n) at h =
      let a = items_sight (longest f) (sight f) n in
      let l = le-max_left (sight f) (longest f + a) in
      let r = le-max_right (sight f) (longest f + a) in
      rw (one at (omega arith))
      (joined_same ◌∷◌ (read_at f s at) (times n (read_at f (s ++ later))) (times n (read_at f s))
      (λ v sl m e. let w = ends f at v sl m (omega arith) e in times_same f one n m (omega (arith, w.1))))

  in_sight : (f : Field) (at : ℕ) → at + sight f ≤ length s → read_at f (s ++ later) at ≡ read_at f s at
  unfolding read_at
  in_sight (up_to most) at h = rw (number_same at h)
  in_sight address at h = part_same address_octets at (at ∷ []) h
  in_sight string at h =
      let x = length (octets_of string_most) + string_most in
      let l = le-max_left groups_most x in
      let r = le-max_right groups_most x in
      rw (number_same at (omega arith))
      (limited_same string_most (decoded_at s at) _ _
      (λ n m e k.
      let i = number_is s at n m here e in
      part_same n m (m ∷ n ∷ []) (omega (arith, i.place, number_longest n string_most k))))
  in_sight none at h = refl
  in_sight (f then g) at h =
      let l = le-max_left (sight f) (longest f + sight g) in
      let r = le-max_right (sight f) (longest f + sight g) in
      rw (in_sight f at (omega arith))
      (joined_same (λ a b. (a, b)) (read_at f s at) (read_at g (s ++ later)) (read_at g s)
      (λ v sl n e. let w = ends f at v sl n (omega arith) e in in_sight g n (omega (arith, w.1))))
  in_sight (list_of f) at h =
      let x = length (octets_of list_most) + items_sight (longest f) (sight f) list_most in
      let l = le-max_left groups_most x in
      let r = le-max_right groups_most x in
      rw (number_same at (omega arith))
      (limited_same list_most (decoded_at s at) _ _
      (λ n m e k.
      let i = number_is s at n m here e in
      let j = items_more (longest f) (sight f) n list_most k in
      ap (listed n (list_most * width f))
      (times_same f (λ a b. in_sight f a b) n m (omega (arith, i.place, number_longest n list_most k)))))

  times_stays : (f : Field)
      → ((at : ℕ) → at ≤ length s → Final (read_at f s at) → read_at f (s ++ later) at ≡ read_at f s at)
      → (n at : ℕ) → at ≤ length s → Final (times n (read_at f s) at)
      → times n (read_at f (s ++ later)) at ≡ times n (read_at f s) at
  times_stays f one zero at h z = refl
  times_stays f one (suc n) at h z =
      joined_stays ◌∷◌ (read_at f s at) (read_at f (s ++ later) at) (times n (read_at f s))
      (times n (read_at f (s ++ later))) (one at h)
      (λ v sl m e y. times_stays f one n m (ends f at v sl m h e).0 y) z

  stays : (f : Field) (at : ℕ) → at ≤ length s → Final (read_at f s at) → read_at f (s ++ later) at ≡ read_at f s at
  unfolding read_at
  stays (up_to most) at h z =
      limited_stays most (decoded_at s at) (decoded_at (s ++ later) at) _ _ (λ n m e. number_stays at n m h e)
      (λ n m e k y. refl) z
  stays address at h z = part_stays address_octets at (at ∷ []) h z
  stays string at h z =
      limited_stays string_most (decoded_at s at) (decoded_at (s ++ later) at) _ _ (λ n m e. number_stays at n m h e)
      (λ n m e k y. part_stays n m (m ∷ n ∷ []) (number_is s at n m here e).end y) z
  stays none at h z = refl
  stays (f then g) at h z =
      joined_stays (λ a b. (a, b)) (read_at f s at) (read_at f (s ++ later) at) (read_at g s) (read_at g (s ++ later))
      (stays f at h)
      (λ v sl n e y. stays g n (ends f at v sl n h e).0 y) z
  stays (list_of f) at h z =
      limited_stays list_most (decoded_at s at) (decoded_at (s ++ later) at) _ _ (λ n m e. number_stays at n m h e)
      (λ n m e k y.
      ap (listed n (list_most * width f))
      (times_stays f (λ a b c. stays f a b c) n m (number_is s at n m here e).end
      (final_listed n (list_most * width f) (times n (read_at f s) m) y))) z

pub decided : Decided
decided =
    record {
      in_sight = λ f s later at o h. in_sight s later o f at h;
      stays = λ f s later at o h z. stays s later o f
          at h z;
    }
