-- The window in its buffer, after a read and after a look. Assumes nothing.
use Prim.Native.Nat.{ℕ, ◌+◌, ◌-◌, ◌≤◌}
use mathlib.Core.Path.{◌≡◌, sym, ◌∙◌, ap}
use mathlib.Core.List.{List, [], ◌++◌}
use native.Mathlib.Omega.{arith}
use lib.ListN.{length, take, drop, length-append}
use lib.Seq.{take-add, take_at, drop_at, length-take-le}
use Rattle.replaying.specs.Turns.{refilled, looked}
use Rattle.replaying.specs.Held.{Read, Window, window, held, looked_at, advanced_by, Reads, Advances}
use Rattle.replaying.specs.Standing.{Standing}
use Rattle.replaying.specs.declared.state.State.{State}
use Rattle.replaying.specs.declared.state.Turn.{Turn}
use Rattle.replaying.specs.declared.state.Turn.TheVariants.{More, Call}

drop-take : (l : List ℕ) (at n : ℕ) → at ≤ length l → drop at (take (at + n) l) ≡ take n (drop at l)
drop-take l at n h = rw (take-add at n l) (drop_at (take at l) (take n (drop at l)) at (length-take-le at l h))

module _
    (before after : List ℕ) (s : State) (kept n : ℕ) (within : s.at ≤ s.len) (fits : s.len ≤ length before)
    (size : kept ≡ s.len - s.at) (front : take kept after ≡ take kept (drop s.at before))
    (room : kept + n ≤ length after)
  where
    not_used : drop s.at (take s.len before) ≡ take kept after
    not_used =
        let e : s.len ≡ s.at + kept = omega arith in
        rw e (drop-take before s.at kept (omega arith) ∙ sym front)

    -- some octets are read behind what was kept
    reads : Reads before s after (refilled s kept (kept + n))
    reads =
        record {
          read = record { octets = take n (drop kept after); behind = drop (kept + n) after };
          same = rw (
            not_used,
            ← take-add kept n after,
            length-take-le kept after (omega arith),
            length-take-le (kept + n) after room,
          );
        }

-- the buffer with `ys` behind what was kept of it
pub reads_behind : (before m ys more : List ℕ) (s : State) (kept n : ℕ) → s.at ≤ s.len → s.len ≤ length before
    → kept ≡ s.len - s.at → take (s.len - s.at) m ≡ take (s.len - s.at) (drop s.at before)
    → length m ≡ length before → n ≤ length ys
    → Reads before s (take kept m ++ (ys ++ more)) (refilled s kept (kept + n))
reads_behind before m ys more s kept n within fits size moved same few =
    let front = length-take-le kept m (omega arith) in
    reads before (take kept m ++ (ys ++ more)) s kept n within fits size
    (take_at (take kept m) (ys ++ more) kept front ∙ rw size moved) (simp (length-append, front) (omega arith))

pub stands : (s : State) (kept len : ℕ) → s.turn ≡ More → Standing (refilled s kept len)
stands s kept len t =
    record {
      at_len = omega arith;
      at_next = omega arith;
      next_len = λ p. let z : ◌≡◌ {A = ℕ} 0 1 = cc in absurd (omega arith);
    }

looked_in : (buffer : List ℕ) (s r : State) → r ≡ looked (take s.len buffer) s → r.len ≡ s.len
    → held buffer r ≡ looked_at (held buffer s)
looked_in buffer s r e l =
    ap (λ (n : ℕ). window (take n buffer) (drop n buffer) r) l
    ∙ ap (window (take s.len buffer) (drop s.len buffer)) e

-- by what the turn is for
module _ (before : List ℕ) (s : State) where
  pub advances_more : (after : List ℕ) (n r : State) → s.turn ≡ More → Reads before s after n
      → r ≡ looked (take n.len after) n → r.len ≡ n.len
      → Advances before s after r
  advances_more after n r t reads e l =
      record {
        read = reads.read;
        same = looked_in after n r e l ∙ ap looked_at reads.same
            ∙ ap (λ (u : Turn). advanced_by u reads.read (held before s)) (sym t);
      }

  -- nothing is read
  abbrev none : Read
  none = record { octets = []; behind = [] }

  pub advances_call : (r : State) → s.turn ≡ Call → r ≡ looked (take s.len before) s → r.len ≡ s.len
      → Advances before s before r
  advances_call r t e l =
      record {
        read = none;
        same = looked_in before s r e l ∙ ap (λ (u : Turn). advanced_by u none (held before s)) (sym t);
      }

  pub advances_none : (t : Turn) → s.turn ≡ t → ((r : Read) (w : Window) → w ≡ advanced_by t r w)
      → Advances before s before s
  advances_none t q same =
      record {
        read = none;
        same = same none (held before s) ∙ ap (λ (u : Turn). advanced_by u none (held before s)) (sym q);
      }
