-- The count of entries is no bound on a trace. Assumes nothing.
use Prim.Native.Nat.{ℕ, zero, suc, ◌-◌, ◌<◌}
use mathlib.Core.Path.{◌≡◌, refl, ap}
use mathlib.Core.Bool.{Bool, true, false, cond}
use mathlib.Core.List.{List, [], ◌∷◌}
use native.Mathlib.Omega.{arith}
use borrow.Author.Tests.{leb-false}
use lib.Dec.{leb}
use lib.ListN.{length}
use Rattle.leb128.specs.RoundTrips.{Octets}
use Rattle.fields.specs.Reading.{Reading, read, refused}
use Rattle.entries.specs.Entries.{Entry, entry_at}
use Rattle.entry_laws.proofs.RoundTrips.{ends_within}
use Rattle.traces.specs.Traces.{finished, unread, Trace, trace, led, further, onward, read_trace}
use Rattle.traces.specs.Traces.{trace_from, Whole}

module _ (s : List ℕ) (o : Octets s) where
  -- what reads the rest from a later place on is all that matters
  alike : (at : ℕ) (f g : ℕ → Trace) → ((next : ℕ) → at < length s → at < next → f next ≡ g next)
      → onward s at f ≡ onward s at g
  alike at f g h = go (leb (length s) at) refl (entry_at s at) refl
    where
      go : (b : Bool) → leb (length s) at ≡ b → (r : Reading Entry) → entry_at s at ≡ r
          → cond b (trace [] finished) (further at f r) ≡ cond b (trace [] finished) (further at g r)
      go true p r q = refl
      go false p (refused why sl) q = refl
      go false p (read e sl next) q =
          let l = leb-false (length s) at p in
          ap (led (e ∷ [])) (h next l (ends_within s at o (omega arith) e sl next q).0)

  -- two counts, each over the octets that are left
  same : (n m at : ℕ) → length s - at < n → length s - at < m → read_trace n s at ≡ read_trace m s at
  unfolding read_trace
  same zero m at h l = absurd (omega arith)
  same (suc n) zero at h l = absurd (omega arith)
  same (suc n) (suc m) at h l =
      alike at (read_trace n s) (read_trace m s) (λ next i j. same n m next (omega arith) (omega arith))

  step : (at : ℕ) → trace_from s at ≡ onward s at (trace_from s)
  unfolding trace_from
  step at =
      unfold read_trace in alike at (read_trace (length s) s) (λ (next : ℕ). read_trace (suc (length s)) s next)
      (λ next i j. same (length s) (suc (length s)) next (omega arith) (omega arith))

  not_unread : (n at : ℕ) → length s - at < n → (read_trace n s at).ending ≡ unread → ⊥
  unfolding read_trace
  not_unread zero at h e = absurd (omega arith)
  not_unread (suc n) at h e = go (leb (length s) at) refl (entry_at s at) refl (λ m l. not_unread n m l) e
    where
      go : (b : Bool) → leb (length s) at ≡ b → (r : Reading Entry) → entry_at s at ≡ r
          → ((m : ℕ) → length s - m < n → (read_trace n s m).ending ≡ unread → ⊥)
          → (cond b (trace [] finished) (further at (read_trace n s) r)).ending ≡ unread → ⊥
      go true p r q ih f = let z : ◌≡◌ {A = ℕ} 0 1 = cc in omega arith
      go false p (refused why sl) q ih f = let z : ◌≡◌ {A = ℕ} 0 1 = cc in omega arith
      go false p (read x sl next) q ih f =
          let l = leb-false (length s) at p in
          let j = (ends_within s at o (omega arith) x sl next q).0 in
          ih next (omega arith) f

  to_its_end : (at : ℕ) → (trace_from s at).ending ≡ unread → ⊥
  unfolding trace_from
  to_its_end at e = not_unread (suc (length s)) at (omega arith) e

pub counted : (s : List ℕ) (n at : ℕ) → Octets s → length s - at < n → read_trace n s at ≡ trace_from s at
unfolding trace_from
counted s n at o h = same s o n (suc (length s)) at h (omega arith)

pub whole : Whole
whole = record { step = λ s at o. step s o at; read_to_its_end = λ s at o e. to_its_end s o at e }
