-- All turns, by induction: however the trace is read, what is printed is the replay of the whole. Assumes nothing.
use Prim.Native.Nat.{ℕ, zero, suc, ◌+◌, ◌^◌, ◌<◌}
use mathlib.Core.Path.{◌≡◌, refl, ◌∙◌}
use mathlib.Core.Bool.{Bool, true, false, false≢true}
use mathlib.Core.List.{List, [], ◌∷◌, ◌++◌, append_assoc, append-nil}
use native.Mathlib.Omega.{arith}
use borrow.Author.Tests.{eq-eqb, ne_eqb}
use lib.Dec.{eqb}
use lib.ListN.{length, drop, length-append}
use lib.Seq.{drop-append-le, get_or-drop}
use Rattle.leb128.specs.RoundTrips.{Octets}
use Rattle.replaying.specs.Turns.{state}
use Rattle.replaying.specs.declared.state.Turn.TheVariants.{More, Call}
use Rattle.replays.specs.Runs.{Read, window}
use Rattle.replays.specs.Same.{Performing, all_read}
use Rattle.replays.proofs.Turned.{goes}
use Rattle.replays.proofs.Turns.{Stands, shows, Runs, looking}

module _ (t : List ℕ) (held : List ℕ) (at : ℕ) (ended : Bool) (offset ordinal : ℕ) where
  -- what was not used, and what comes
  kept_octets : (rs : List Read) → Stands t rs held at ended offset ordinal → Octets (drop at held ++ all_read rs)
  kept_octets rs st i =
      rw (← drop-append-le at held (all_read rs) st.inside, get_or-drop at (held ++ all_read rs) i 0)
      (st.octets (at + i))

  -- nothing is read
  at_last : Stands t [] held at ended offset ordinal → Stands t [] (drop at held) 0 true offset ordinal
  at_last st =
      record {
        octets = kept_octets [] st;
        inside = omega arith;
        same = st.same;
        within = st.within;
        counted = st.counted;
        last = λ q. refl;
        brings = tt;
      }

  -- some octets are read
  one_read : (r : Read) (rs : List Read) → Stands t (r ∷ rs) held at ended offset ordinal
      → Stands t rs (drop at held ++ r.octets) 0 false offset ordinal
  one_read r rs st =
      let same : drop at held ++ r.octets ++ all_read rs ≡ drop at held ++ (r.octets ++ all_read rs) =
      append_assoc (drop at held) r.octets (all_read rs) in
      record {
        octets = rw same (kept_octets (r ∷ rs) st);
        inside = omega arith;
        same = same ∙ st.same;
        within = st.within;
        counted = st.counted;
        last = λ q. absurd (false≢true q);
        brings = st.brings.1;
      }

module _ (performing : Performing) (t : List ℕ) (o : Octets t) (small : length t < 2 ^ 64) where
  -- a call is behind: the window is looked at again
  calls : (n : ℕ) (ended : Bool) → Runs t n Call ended (shows ended) → Runs t n More ended 160
      → Runs t (suc n) Call ended (shows ended)
  calls n ended c m rs held behind len at next offset ordinal e g st sized turns =
      goes n rs (window held behind (state len at next ended offset ordinal Call e true)) g refl
      ∙ looking performing t o small n rs held behind len at next ended offset ordinal Call e g st sized (omega arith)
      c (λ _. m)

  -- a read is to come, and brings nothing, or some octets
  mores : (n : ℕ) (ended : Bool) → ((b : Bool) → Runs t n Call b (shows b)) → ((b : Bool) → Runs t n More b 160)
      → Runs t (suc n) More ended 160
  mores n ended c m [] held behind len at next offset ordinal e g st sized turns =
      let kept = drop at held in
      goes n [] (window held behind (state len at next ended offset ordinal More e true)) g refl
      ∙ rw (append-nil kept, eq-eqb (length kept) (length kept) refl)
      (looking performing t o small n [] kept [] (length kept) 0 next true offset ordinal More e g
      (at_last t held at ended offset ordinal st) sized (omega arith) (c true) (λ _. m true))
  mores n ended c m (r ∷ rs) held behind len at next offset ordinal e g st sized turns =
      let kept = drop at held in
      let more-held : List ℕ = kept ++ r.octets in
      let some = st.brings.0 in
      let more : eqb (length (kept ++ r.octets)) (length kept) ≡ false =
      ne_eqb (length (kept ++ r.octets)) (length kept) (λ q. omega (arith, length-append kept r.octets)) in
      goes n (r ∷ rs) (window held behind (state len at next ended offset ordinal More e true)) g refl
      ∙ rw more
      (looking performing t o small n rs more-held r.behind (length more-held) 0 next false offset
      ordinal More e g (one_read t held at ended offset ordinal r rs st) sized (omega arith) (c false)
      (λ _. m false))

  pub runs : (n : ℕ) → ((b : Bool) → Runs t n Call b (shows b)) × ((b : Bool) → Runs t n More b 160)
  runs zero = (
    (λ b rs held behind len at next offset ordinal e g st sized turns. absurd (omega arith)),
    (λ b rs held behind len at next offset ordinal e g st sized turns. absurd (omega arith)),
  )
  runs (suc n) =
      let ih = runs n in
      ((λ b. calls n b (ih.0 b) (ih.1 b)), (λ b. mores n b ih.0 ih.1))
