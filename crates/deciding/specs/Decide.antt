-- Trusted. One request by the marks of the record that it means: 01's "One request, step by step", steps 1 to 3.
--
--   Effect          what became of an update or a list: none, done (applied, or replaced), stale
--   effect_number    the same as it is told; `says_done` whether that says done
--   Marks           update mark, list mark and tally of a record, with what was agreed for it; a mark is kept as the
--                   least ID that exceeds it
--   counted         marks with so many more in the tally
--   marked          marks with this ID as the update mark; `list_marked` as the list mark
--   Decision        the verdict, what became of update and list, how many addresses were left off, the marks after it
--   has_list         whether the request carries a list, an empty one counted
--   list_decided     step 3
--   update_decided   steps 2 and 3, by the verdict on the update
--   decided         steps 1 to 3
use Rattle.std.specs.Prelude.{ℕ, ◌+◌, ◌-◌, min, Bool, cond, ◌||◌, not, eqb, leb}
use Rattle.octets.specs.Limits.{addresses_most, tally_most}
use Rattle.address.specs.declared.pair.Pair.{Pair}
use Rattle.findings.specs.declared.seen.Seen.{Seen}
use Rattle.values.specs.declared.NoNats.{NoNats}
use Rattle.records.specs.declared.ike.Marks.{Marks}
use Rattle.verdict.specs.Verdict.{is_accepted, verdict}
use Rattle.verdict.specs.declared.update.Verdict.{Verdict}
use Rattle.verdict.specs.declared.update.Verdict.TheVariants.{Accepted}
use Rattle.deciding.specs.declared.decide.Decision.{Decision}
use Rattle.deciding.specs.declared.decide.Effect.{Effect}
use Rattle.deciding.specs.declared.decide.Effect.TheVariants.{None, Done, Stale}

-- 01's numbers: "tells update none, applied, stale and list none, replaced, stale".
abbrev pub effect_number : Effect → ℕ
effect_number None = 0
effect_number Done = 1
effect_number Stale = 2

abbrev pub says_done : ℕ → Bool
says_done told = eqb told (effect_number Done)

-- 01: "an unknown tally that stays at 4,294,967,295 once there".
abbrev pub tallied : ℕ → ℕ → ℕ
tallied old n = min (old + n) tally_most

-- 01: "Unknown payloads and unknown notifications are added to that record's tally, one each."
abbrev pub counted : ℕ → Marks → Marks
counted n m =
    record {
      agreed = m.agreed;
      update_mark = m.update_mark;
      list_mark = m.list_mark;
      unknown = tallied m.unknown n;
    }

-- 01: "Otherwise the mark becomes the ID": the least ID that exceeds it is the next.
abbrev pub marked : ℕ → Marks → Marks
marked id m =
    record { agreed = m.agreed; update_mark = id + 1; list_mark = m.list_mark; unknown = m.unknown }

-- 01: "an ID above the list mark replaces list and list mark".
abbrev pub list_marked : ℕ → Marks → Marks
list_marked id m =
    record { agreed = m.agreed; update_mark = m.update_mark; list_mark = id + 1; unknown = m.unknown }

abbrev pub decision : Verdict → Effect → Effect → ℕ → Marks → Decision
decision verdict update list off m =
    record { verdict = verdict; update = update; list = list; left_off = off; marks = m }

-- 01: "The first 16 are kept; the answer tells how many were left off".
abbrev pub left_off : ℕ → ℕ
left_off n = n - addresses_most

-- 01: "with any ADDITIONAL address or NO_ADDITIONAL_ADDRESSES".
abbrev pub has_list : Seen → Bool
has_list s = s.no_additional || not (eqb s.list.count 0)

-- Step 3, after an update that came to `update`: "with any ADDITIONAL address or NO_ADDITIONAL_ADDRESSES, an ID above
-- the list mark replaces list and list mark; else the list is stale."
unfoldable pub list_decided : Seen → ℕ → Effect → Marks → Decision
list_decided s id update m =
    cond (not (has_list s)) (decision Accepted update None 0 m)
    (cond (not (leb m.list_mark id)) (decision Accepted update Stale 0 m)
    (decision Accepted update Done (left_off s.list.count) (list_marked id m)))

-- Step 2, with the tally counted: "if the ID doesn't exceed the update mark, the update is stale and has no effect.
-- Otherwise the mark becomes the ID"; 8 or 9 by the verdict; "Unless 8 or 9" step 3 follows.
unfoldable pub update_decided : Verdict → Seen → ℕ → Marks → Decision
update_decided v s id m =
    cond (not s.update) (list_decided s id None m)
    (cond (not (leb m.update_mark id)) (list_decided s id Stale m)
    (cond (not (is_accepted v)) (decision v None None 0 (marked id m))
    (list_decided s id Done (marked id m))))

-- Steps 1 to 3; `accepted` says whether the policy accepts the pair.
unfoldable pub decided : Bool → NoNats → Seen → Pair → ℕ → Marks → Decision
decided accepted n s p id m =
    let unknown = s.tally.unknown_payloads + s.tally.unknown_notifies in
    update_decided (verdict accepted n p) s id (counted unknown m)
