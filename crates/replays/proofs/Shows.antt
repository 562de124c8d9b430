-- At a trace's end the records are shown, place by place. Assumes nothing.
use Prim.Native.Nat.{ℕ, zero, suc, ◌+◌, ◌%◌, ◌^◌, ◌≤◌, ◌<◌}
use mathlib.Core.Path.{◌≡◌, refl, ◌∙◌, ap}
use mathlib.Core.Bool.{Bool, true, false}
use mathlib.Core.List.{List, [], ◌++◌, append_assoc, append-nil}
use native.Mathlib.Omega.{arith}
use native.Mathlib.Nat.{mod-eq_of_lt}
use borrow.Author.Tests.{lt-ltb, le-ltb, eq-eqb, ne_eqb}
use lib.Dec.{eqb, ltb}
use lib.ListN.{length, get_or, drop, set, length-set, drop_of_length-le}
use lib.Seq.{get_or-set_same, drop-cons}
use Rattle.octets.specs.Limits.{ike_places, ipsec_places}
use Rattle.records.specs.Records.{no_ike, no_ipsec}
use Rattle.records.specs.declared.ike.IkeRecord.{IkeRecord}
use Rattle.records.specs.declared.ipsec.IpsecRecord.{IpsecRecord}
use Rattle.fields.specs.Fields.{each_of}
use Rattle.acts.specs.Performed.{Gateway}
use Rattle.given.specs.declared.reading.Asked.{Asked}
use Rattle.given.specs.declared.reading.Asked.TheVariants.{ShowIke, ShowIpsec}
use Rattle.replaying.specs.Turns.{slots_for, state, pair_at}
use Rattle.replaying.specs.declared.state.Turn.TheVariants.{Show}
use Rattle.replays.specs.Runs.{Read, Window, window, ran, run}
use Rattle.replays.proofs.Turned.{goes, stops}
use Rattle.replays.proofs.Sizes.{Sized}

-- what is printed of a record
abbrev of_ike : IkeRecord → List ℕ
of_ike r = pair_at false r.spi r.pair

abbrev of_ipsec : IpsecRecord → List ℕ
of_ipsec r = pair_at true r.spi r.pair

-- the place after one, in the first slot
next_place : (slots : List ℕ) (place : ℕ) → get_or slots 0 0 ≡ place → place < 1000
    → (get_or slots 0 0 + 1) % 2 ^ 64 ≡ suc place
next_place slots place e h = rw e (mod-eq_of_lt (omega arith) ∙ omega arith)

module _ (rs : List Read) (held behind : List ℕ) (len at next : ℕ) (ended : Bool) (offset ordinal : ℕ) (g : Gateway)
    (sized : Sized g)
  where
    abbrev showing : Asked → List ℕ → Bool → Window
    showing asked slots going =
        window held behind (state len at next ended offset ordinal Show (slots_for asked slots) going)

    ipsec_shown : (m n : ℕ) (slots : List ℕ) (place : ℕ) (going : Bool) → get_or slots 0 0 ≡ place → 0 < length slots
        → place + m ≡ ipsec_places → m ≤ n → going ≡ ltb place ipsec_places
        → run n rs (showing ShowIpsec slots going) g ≡ ran (each_of of_ipsec (drop place g.ipsec)) g
    ipsec_shown zero n slots place going e l p h q =
        let past : length g.ipsec ≤ place = omega (arith, sized.ipsecs) in
        let none : drop place g.ipsec ≡ [] = drop_of_length-le g.ipsec past in
        rw none (stops n rs (showing ShowIpsec slots going) g (q ∙ le-ltb place ipsec_places (omega arith)))
    ipsec_shown (suc m) zero slots place going e l p h q = absurd (omega arith)
    ipsec_shown (suc m) (suc n) slots place going e l p h q =
        let one = drop-cons g.ipsec place no_ipsec (omega (arith, sized.ipsecs)) in
        let up : (get_or slots 0 0 + 1) % 2 ^ 64 ≡ suc place = next_place slots place e (omega arith) in
        let moved : List ℕ = set slots 0 (suc place) in
        let there : get_or moved 0 0 ≡ suc place = get_or-set_same slots 0 (suc place) 0 l in
        let long : 0 < length moved = rw length-set l in
        let ih =
        ipsec_shown m n moved (suc place) (ltb (get_or moved 0 0) ipsec_places) there long (omega arith) (omega arith)
        (ap (λ (x : ℕ). ltb x ipsec_places) there) in
        goes n rs (showing ShowIpsec slots going) g (q ∙ lt-ltb place ipsec_places (omega arith))
        ∙ rw (one, up, ih, e)

    pub ike_shown : (m n : ℕ) (slots : List ℕ) (place : ℕ) → get_or slots 0 0 ≡ place → 0 < length slots
        → place + suc m ≡ ike_places → suc m + ipsec_places ≤ n
        → run n rs (showing ShowIke slots true) g
        ≡ ran (each_of of_ike (drop place g.ike) ++ each_of of_ipsec g.ipsec) g
    ike_shown m zero slots place e l p h = absurd (omega arith)
    ike_shown zero (suc n) slots place e l p h =
        let one = drop-cons g.ike place no_ike (omega (arith, sized.ikes)) in
        let past : length g.ike ≤ suc place = omega (arith, sized.ikes) in
        let none : drop (suc place) g.ike ≡ [] = drop_of_length-le g.ike past in
        let up : (get_or slots 0 0 + 1) % 2 ^ 64 ≡ suc place = next_place slots place e (omega arith) in
        let last : eqb (suc place) ike_places ≡ true = eq-eqb (suc place) ike_places (omega arith) in
        let moved : List ℕ = set slots 0 0 in
        let there : get_or moved 0 0 ≡ 0 = get_or-set_same slots 0 0 0 l in
        let long : 0 < length moved = rw length-set l in
        let ih =
        ipsec_shown ipsec_places n moved 0 (ltb (get_or moved 0 0) ipsec_places) there long refl (omega arith)
        (ap (λ (x : ℕ). ltb x ipsec_places) there) in
        goes n rs (showing ShowIke slots true) g refl
        ∙ rw (one, none, up, last, ih, e, append-nil)
    ike_shown (suc m) (suc n) slots place e l p h =
        let one = drop-cons g.ike place no_ike (omega (arith, sized.ikes)) in
        let up : (get_or slots 0 0 + 1) % 2 ^ 64 ≡ suc place = next_place slots place e (omega arith) in
        let moved : List ℕ = set slots 0 (suc place) in
        let there : get_or moved 0 0 ≡ suc place = get_or-set_same slots 0 (suc place) 0 l in
        let long : 0 < length moved = rw length-set l in
        let ih = ike_shown m n moved (suc place) there long (omega arith) (omega arith) in
        let inside : eqb (suc place) ike_places ≡ false = ne_eqb (suc place) ike_places (λ q. omega arith) in
        goes n rs (showing ShowIke slots true) g refl ∙ rw (one, up, inside, ih, e, append_assoc)
