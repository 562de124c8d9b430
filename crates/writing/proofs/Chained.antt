-- Laws of notifications one behind the other: a chain written in two parts is the whole chain written.
use Prim.Native.Nat.{ℕ, ◌+◌, ◌≤◌}
use mathlib.Core.Path.{◌≡◌, refl, sym, ap, ◌∙◌}
use mathlib.Core.List.{List, [], ◌∷◌, ◌++◌, append_assoc, append-nil}
use native.Mathlib.Omega.{arith}
use lib.ListN.{length, length-append}
use Rattle.octets.specs.Limits.{notify_header}
use Rattle.writing.specs.Notify.{placed, notify_octets, Notification, first_type, chained}
use Rattle.writing.specs.Wrote.{Wrote}
use Rattle.writing.proofs.Placed.{placed_then, length-placed, length-notify}

pub first_append : (xs ys : List Notification) (next : ℕ) → first_type (xs ++ ys) next ≡ first_type xs (first_type ys next)
first_append [] ys next = refl
first_append (x ∷ xs) ys next = refl

pub chained_one : (x : Notification) (next : ℕ) → chained (x ∷ []) next ≡ notify_octets next x.notify_type x.octets
unfolding chained
chained_one x next = append-nil (notify_octets next x.notify_type x.octets)

pub chained_append : (xs ys : List Notification) (next : ℕ)
    → chained (xs ++ ys) next ≡ chained xs (first_type ys next) ++ chained ys next
unfolding chained
chained_append [] ys next = refl
chained_append (x ∷ xs) ys next =
    rw (first_append xs ys next, chained_append xs ys next)
    (sym (append_assoc (notify_octets (first_type xs (first_type ys next)) x.notify_type x.octets)
    (chained xs (first_type ys next)) (chained ys next)))

pub wrote_both : (out : List ℕ) (at : ℕ) (xs ys : List Notification) (next type : ℕ) (mid end : List ℕ) (p r : ℕ)
    → type ≡ first_type ys next → at + (length (chained xs type) + length (chained ys next)) ≤ length out
    → Wrote out at xs type mid p → Wrote mid p ys next end r → Wrote out at (xs ++ ys) next end r
wrote_both out at xs ys next type mid end p r t fits a b =
    let e = chained_append xs ys next ∙ ap (λ (n : ℕ). chained xs n ++ chained ys next) (sym t) in
    record {
      offset = rw (e, length-append (chained xs type) (chained ys next)) (omega (arith, a.offset, b.offset));
      octets = rw e
          (placed_then out mid end at p (chained xs type) (chained ys next) fits a.octets a.offset b.octets);
    }

pub length-one : (x : Notification) (next : ℕ) → length (chained (x ∷ []) next) ≡ notify_header + length x.octets
length-one x next = rw (chained_one x next) (length-notify next x.notify_type x.octets)

-- what was written as one Notify payload
pub wrote_one : (out : List ℕ) (at : ℕ) (x : Notification) (next : ℕ) (end : List ℕ) (r : ℕ)
    → r ≡ at + notify_header + length x.octets
    → end ≡ placed out at (notify_octets next x.notify_type x.octets) → Wrote out at (x ∷ []) next end r
wrote_one out at x next end r e o =
    record { offset = e ∙ omega (arith, length-one x next); octets = rw (chained_one x next) o }

pub wrote_length : (out : List ℕ) (at : ℕ) (xs : List Notification) (next : ℕ) (end : List ℕ) (r : ℕ)
    → Wrote out at xs next end r → r ≤ length out
    → length end ≡ length out
wrote_length out at xs next end r w fits =
    rw w.octets (length-placed out at (chained xs next) (omega (arith, w.offset)))
