-- What steps 1 to 3 come to on a record's marks: done, or refused with 8 or 9 for an update whose ID exceeds the mark.
use Prim.Native.Nat.{◌+◌}
use mathlib.Core.Path.{◌≡◌, refl}
use mathlib.Core.Logic.{◌⊎◌, inl, inr}
use mathlib.Core.Bool.{Bool, true, false, cond, ◌&&◌, not}
use lib.Dec.{leb}
use Rattle.values.specs.Values.{no_nats_seen}
use Rattle.records.specs.declared.ike.Marks.{Marks}
use Rattle.verdict.specs.Verdict.{unaltered, verdict}
use Rattle.deciding.specs.Decide.{says_done, effect_number, tallied, list_marked, decision, left_off, has_list, list_decided}
use Rattle.deciding.specs.Decide.{update_decided, decided}
use Rattle.deciding.specs.declared.decide.Decision.{Decision}
use Rattle.deciding.specs.declared.decide.Effect.{Effect}
use Rattle.deciding.specs.declared.decide.Effect.TheVariants.{None, Done, Stale}
use Rattle.verdict.specs.declared.update.Verdict.{Verdict}
use Rattle.verdict.specs.declared.update.Verdict.TheVariants.{Accepted, Altered, Unacceptable}
use Rattle.answering.specs.Core.{decision_on}
use Rattle.checking.specs.Checks.{Request}
use Rattle.responder.specs.Handle.{seen_in}
use Rattle.numbers.specs.Numbers.{unknown_in}

-- whether the update counts, and whether the list does
abbrev pub up : Request → Marks → Bool
up q m = (seen_in q).update && leb m.update_mark q.asks.id

abbrev pub new : Request → Marks → Bool
new q m = has_list (seen_in q) && leb m.list_mark q.asks.id

-- the marks and the tally where the update counts, the list counts, both or neither
abbrev pub marks_by : Request → Bool → Bool → Marks → Marks
marks_by q u l m =
    record {
      agreed = m.agreed;
      update_mark = cond u (q.asks.id + 1) m.update_mark;
      list_mark = cond l (q.asks.id + 1) m.list_mark;
      unknown = tallied m.unknown (unknown_in q);
    }

-- a decision's verdict, whether the record moves, whether its list is replaced, and its marks
pub record Comes (v : Verdict) (u l : Bool) (m : Marks) (d : Decision) : Type 0 where
  pub verdict_is : d.verdict ≡ v
  pub moves : says_done (effect_number d.update) ≡ u
  pub relists : says_done (effect_number d.list) ≡ l
  pub marks : d.marks ≡ m

-- what 8 and 9 need: an update that counts, on which this is the verdict
pub record Refuses (accepted : Bool) (q : Request) (m : Marks) (v : Verdict) (d : Decision) : Type 0 where
  pub counts : up q m ≡ true
  pub verdict_is : verdict accepted (no_nats_seen q.asks.body (seen_in q)) q.asks.pair ≡ v
  pub comes : Comes v false false (marks_by q true false m) d

pub data Decides (accepted : Bool) (q : Request) (m : Marks) (d : Decision) : Type 0 where
  done : Comes Accepted (up q m) (new q m) (marks_by q (up q m) (new q m) m) d → Decides accepted q m d
  refused : (v : Verdict) → (v ≡ Altered) ⊎ (v ≡ Unacceptable) → Refuses accepted q m v d → Decides accepted q m d

-- step 3, after an update that came to `u`, which counts by `b`
abbrev listed : Request → Bool → Bool → Effect → Marks → Decision
listed q x y u m =
    cond (not x) (decision Accepted u None 0 m)
    (cond (not y) (decision Accepted u Stale 0 m)
    (decision Accepted u Done (left_off (seen_in q).list.count) (list_marked q.asks.id m)))

list_comes : (q : Request) (x y : Bool) (u : Effect) (b : Bool) (m : Marks) → says_done (effect_number u) ≡ b
    → Comes Accepted b (x && y) (marks_by q b (x && y) m) (listed q x y u (marks_by q b false m))
list_comes q true true u b m e = record { verdict_is = refl; moves = e; relists = refl; marks = refl }
list_comes q true false u b m e = record { verdict_is = refl; moves = e; relists = refl; marks = refl }
list_comes q false y u b m e = record { verdict_is = refl; moves = e; relists = refl; marks = refl }

pub decides : (accepted : Bool) (q : Request) (m : Marks) → Decides accepted q m (decision_on accepted q.asks m)
unfolding decided update_decided list_decided verdict
decides accepted q m =
    go (seen_in q).update refl (leb m.update_mark q.asks.id) refl
    (unaltered (no_nats_seen q.asks.body (seen_in q)) q.asks.pair) refl accepted
  where
    x : Bool
    x = has_list (seen_in q)

    y : Bool
    y = leb m.list_mark q.asks.id

    refuses : (w : Bool) (v : Verdict) → (seen_in q).update ≡ true → leb m.update_mark q.asks.id ≡ true
        → verdict w (no_nats_seen q.asks.body (seen_in q)) q.asks.pair ≡ v
        → Refuses w q m v (decision v None None 0 (marks_by q true false m))
    refuses w v f g e =
        record {
          counts = rw (f, g);
          verdict_is = e;
          comes = record
              { verdict_is = refl; moves = refl; relists = refl; marks = refl };
        }

    go : (a : Bool) → (seen_in q).update ≡ a → (b : Bool) → leb m.update_mark q.asks.id ≡ b
        → (c : Bool) → unaltered (no_nats_seen q.asks.body (seen_in q)) q.asks.pair ≡ c → (w : Bool)
        → Decides w q m (decision_on w q.asks m)
    go true f true g true h true = rw (f, g, h) (done (rw (f, g) (list_comes q x y Done true m refl)))
    go true f true g true h false =
        rw (f, g, h) (refused Unacceptable (inr refl) (refuses false Unacceptable f g (rw h)))
    go true f true g false h w = rw (f, g, h) (refused Altered (inl refl) (refuses w Altered f g (rw h)))
    go true f false g c h w = rw (f, g) (done (rw (f, g) (list_comes q x y Stale false m refl)))
    go false f b g c h w = rw f (done (rw f (list_comes q x y None false m refl)))
