-- The policy is asked wherever its word counts.
use Rattle.std.specs.Prelude.{◌≡◌, ℕ, Bool, true, false, ◌&&◌, leb}
use mathlib.Core.Path.{refl}
use Rattle.values.specs.declared.NoNats.{NoNats}
use Rattle.address.specs.declared.pair.Pair.{Pair}
use Rattle.findings.specs.declared.seen.Seen.{Seen}
use Rattle.reader.specs.Chain.{reading}
use Rattle.records.specs.declared.ike.Marks.{Marks}
use Rattle.deciding.specs.Decide.{update_decided, decided}
use Rattle.answering.specs.Core.{Asked, core_answer, core_response}
use Rattle.responder.specs.Looked.{asks_policy}

-- Where the policy is not asked, its word makes no difference.
decided_alike : (b : Bool) (n : NoNats) (s : Seen) (p : Pair) (id : ℕ) (m : Marks)
    → decided (asks_policy s id m && b) n s p id m ≡ decided b n s p id m
unfolding decided update_decided
decided_alike b n s p id m = go s.update refl (leb m.update_mark id) refl
  where
    go : (x : Bool) → s.update ≡ x → (y : Bool) → leb m.update_mark id ≡ y
        → decided (asks_policy s id m && b) n s p id m ≡ decided b n s p id m
    go true e true f = rw (e, f)
    go true e false f = rw (e, f)
    go false e y f = rw e

module _ (q : Asked) (m : Marks) (b : Bool) where
  abbrev asked : Bool
  asked = asks_policy (reading q.first q.body).seen q.id m && b

  -- the answer and the response by the policy's word where it was asked, and by its word
  pub asked_alike : (core_answer asked q m ≡ core_answer b q m) × (core_response asked q m ≡ core_response b q m)
  unfolding core_answer core_response
  asked_alike = (rw (decided_alike b _ _ q.pair q.id m), rw (decided_alike b _ _ q.pair q.id m))
