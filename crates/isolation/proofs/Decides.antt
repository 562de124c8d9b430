-- A call's number is decided by what its operator sees, and by whether its new SPIs are taken and places are free;
-- all else that it does is decided by what its operator sees and by the number. So only 10, 11 and a full table's 41
-- tell of the other operator.
use Prim.Native.Nat.{ℕ}
use mathlib.Core.Path.{◌≡◌, refl, ap, ◌∙◌}
use mathlib.Core.Logic.{◌⊎◌, inl, inr}
use mathlib.Core.Bool.{Bool, true, false, cond, ◌&&◌, ◌||◌, not}
use lib.Dec.{eqb, leb}
use Rattle.octets.specs.Checks.{first_failed}
use Rattle.octets.specs.Flags.{is_yes}
use Rattle.octets.specs.Limits.{ipsec_places, ike_share, ipsec_share, peer_records_most}
use Rattle.octets.specs.Numbers.{number_of}
use Rattle.octets.specs.declared.number.Number.TheVariants.{Full, SpiInUse, CannotCloneNow}
use Rattle.policy.specs.Policy.{new_policy}
use Rattle.tables.specs.Calls.{has_ike, has_ipsec, opening_fits}
use Rattle.tables.specs.Changes.{both_number, adding_number, bad_adding}
use Rattle.tables.specs.Opening.{ike_of, child_of}
use Rattle.cloning.specs.Clone.{whole_clone_checks, late_clone}
use Rattle.sharing.specs.Table as table
use Rattle.sharing.proofs.Decided.{Decided}
use Rattle.isolating.specs.State.{State, Own, own_in}
use Rattle.isolating.specs.Reached.{WellFormed, WithinShares}
use Rattle.isolating.specs.Changes as change
use Rattle.isolating.specs.Changes.{Change, applied, shown, Allowed}
use Rattle.isolating.proofs.Seen.{own_change, other_change}
use Rattle.isolating.proofs.Kept as kept
use Rattle.isolating.proofs.Shares as shares
use Rattle.isolation.specs.Calls.{Call, opens_both, opens_ipsec, closes_ike, closes_ipsec, marks_deletion}
use Rattle.isolation.specs.Calls.{sets_policy, requests, checks, clones}
use Rattle.isolation.specs.Calls.{operator_of, step, Answer, numbered, replied, assessed, clone_replied}
use Rattle.isolation.specs.Calls.{number_in, answer}
use Rattle.isolation.specs.Isolation.{named, number}
use Rattle.isolation.proofs.Lookup.{own_record, own_has}
use Rattle.isolation.proofs.TableCalls as call
use Rattle.isolation.proofs.TableCalls.{Beside, done_with}
use Rattle.isolation.proofs.Requests as request
use Rattle.isolation.proofs.Responses as response
use Rattle.isolation.proofs.Clones as clone

abbrev taken_by : Call → State → Bool
taken_by (opens_both o) s = has_ike o.spi s.ike
taken_by (opens_ipsec spi owner operator) s = false
taken_by (closes_ike spi operator) s = false
taken_by (closes_ipsec spi operator) s = false
taken_by (marks_deletion spi operator) s = false
taken_by (sets_policy n rules operator) s = false
taken_by (requests q) s = false
taken_by (checks q) s = false
taken_by (clones q) s = has_ike q.new_spi s.ike

abbrev child_taken_by : Call → State → Bool
child_taken_by (opens_both o) s = has_ipsec o.child s.ipsec
child_taken_by (opens_ipsec spi owner operator) s = has_ipsec spi s.ipsec
child_taken_by (closes_ike spi operator) s = false
child_taken_by (closes_ipsec spi operator) s = false
child_taken_by (marks_deletion spi operator) s = false
child_taken_by (sets_policy n rules operator) s = false
child_taken_by (requests q) s = false
child_taken_by (checks q) s = false
child_taken_by (clones q) s = false

unfoldable pub beside : Call → State → Beside
beside c s =
    record {
      taken = taken_by c s;
      child_taken = child_taken_by c s;
      room = has_ike 0 s.ike;
      child_room = has_ipsec 0 s.ipsec;
    }

unfoldable pub judged : Call → Own → Beside → ℕ
judged (opens_both o) v d = call.opening_number o v d
judged (opens_ipsec spi owner operator) v d = call.adding_number_by spi owner operator v d
judged (closes_ike spi operator) v d = call.closing_number_by spi operator v
judged (closes_ipsec spi operator) v d = call.child_closing_number_by spi operator v
judged (marks_deletion spi operator) v d = call.marking_number_by spi operator v
judged (sets_policy n rules operator) v d = call.setting_number n rules operator
judged (requests q) v d = (request.reply_by q v).number
judged (checks q) v d = (response.told_by q v).number
judged (clones q) v d = clone.clone_number q v d

unfoldable pub told : Call → ℕ → Own → Answer
told (opens_both o) n v = numbered n
told (opens_ipsec spi owner operator) n v = numbered n
told (closes_ike spi operator) n v = numbered n
told (closes_ipsec spi operator) n v = numbered n
told (marks_deletion spi operator) n v = numbered n
told (sets_policy k rules operator) n v = numbered n
told (requests q) n v = replied (request.reply_by q v) (request.octets_by q v)
told (checks q) n v = assessed (response.told_by q v)
told (clones q) n v = clone_replied (clone.reply_by q n v) (clone.octets_by q n v)

unfoldable pub does : Call → ℕ → Own → Change
does (opens_both o) n v = done_with n (change.opens (ike_of o) (child_of o))
does (opens_ipsec spi owner operator) n v = done_with n (change.adds (call.added spi owner operator v))
does (closes_ike spi operator) n v = done_with n (change.closes spi)
does (closes_ipsec spi operator) n v = done_with n (change.closes_child spi)
does (marks_deletion spi operator) n v = done_with n (change.becomes spi (call.marked spi operator v))
does (sets_policy k rules operator) n v = done_with n (change.sets operator (new_policy k rules))
does (requests q) n v = request.request_change q v
does (checks q) n v = response.response_change q v
does (clones q) n v = done_with n (change.clones (clone.clone q v))

abbrev pub next : Call → ℕ → Own → Own
next c n v = shown (does c n v) v

abbrev pub excuse : ℕ → Beside → Bool
excuse n d =
    eqb n (number_of Full) || (eqb n (number_of SpiInUse) || (eqb n (number_of CannotCloneNow) && not d.room))

-- The numbers that tell of the other.
Excuse : ℕ → Bool → ℕ → Bool → Type 0
Excuse m f n g =
    (eqb m 10 || (eqb m 11 || (eqb m 41 && not f)) ≡ true) ⊎ (eqb n 10 || (eqb n 11 || (eqb n 41 && not g)) ≡ true)

both_leaks : (fits l m t u r q t' u' r' q' f g : Bool)
    → (both_number fits t u l m r q ≡ both_number fits t' u' l m r' q' → ⊥)
    → Excuse (both_number fits t u l m r q) f (both_number fits t' u' l m r' q') g
unfolding Excuse
both_leaks false l m t u r q t' u' r' q' f g n = absurd (n refl)
both_leaks true l m true u r q t' u' r' q' f g n = inl refl
both_leaks true l m false true r q t' u' r' q' f g n = inl refl
both_leaks true l m false false r q true u' r' q' f g n = inr refl
both_leaks true l m false false r q false true r' q' f g n = inr refl
both_leaks true true m false false r q false false r' q' f g n = absurd (n refl)
both_leaks true false true false false r q false false r' q' f g n = absurd (n refl)
both_leaks true false false false false false q false false r' q' f g n = inl refl
both_leaks true false false false false true false false false r' q' f g n = inl refl
both_leaks true false false false false true true false false false q' f g n = inr refl
both_leaks true false false false false true true false false true false f g n = inr refl
both_leaks true false false false false true true false false true true f g n = absurd (n refl)

adding_leaks : (bad own l t r t' r' f g : Bool)
    → (adding_number bad own t l r ≡ adding_number bad own t' l r' → ⊥)
    → Excuse (adding_number bad own t l r) f (adding_number bad own t' l r') g
unfolding Excuse
adding_leaks true own l t r t' r' f g n = absurd (n refl)
adding_leaks false false l t r t' r' f g n = absurd (n refl)
adding_leaks false true l true r t' r' f g n = inl refl
adding_leaks false true l false r true r' f g n = inr refl
adding_leaks false true true false r false r' f g n = absurd (n refl)
adding_leaks false true false false false false r' f g n = inl refl
adding_leaks false true false false true false false f g n = inr refl
adding_leaks false true false false true false true f g n = absurd (n refl)

-- of a chain that was read whole
abbrev pub whole_number : Bool → Bool → Bool → Bool → Bool → Bool → ℕ
whole_number asked deleting room limited taken share =
    first_failed (whole_clone_checks asked deleting room limited taken share)

whole_leaks : (a z l s t f t' f' : Bool)
    → (whole_number a z f l t s ≡ whole_number a z f' l t' s → ⊥)
    → Excuse (whole_number a z f l t s) f (whole_number a z f' l t' s) f'
unfolding Excuse
whole_leaks false z l s t f t' f' n = absurd (n refl)
whole_leaks true true l s t f t' f' n = absurd (n refl)
whole_leaks true false l s t false t' f' n = inl refl
whole_leaks true false l s t true t' false n = inr refl
whole_leaks true false true s t true t' true n = absurd (n refl)
whole_leaks true false false s true true t' true n = inl refl
whole_leaks true false false s false true true true n = inr refl
whole_leaks true false false s false true false true n = absurd (n refl)

-- the same where the chain, or a check before it, refuses first
clone_leaks : (b c : Bool) (early fault : ℕ) (a z l s t f t' f' : Bool)
    → (cond b (cond (not c) fault (whole_number a z f l t s)) early
    ≡ cond b (cond (not c) fault (whole_number a z f' l t' s)) early → ⊥)
    → Excuse (cond b (cond (not c) fault (whole_number a z f l t s)) early) f
    (cond b (cond (not c) fault (whole_number a z f' l t' s)) early) f'
clone_leaks false c early fault a z l s t f t' f' n = absurd (n refl)
clone_leaks true false early fault a z l s t f t' f' n = absurd (n refl)
clone_leaks true true early fault a z l s t f t' f' n = whole_leaks a z l s t f t' f' n

pub leaks : (c : Call) (v : Own) (d e : Beside) → (judged c v d ≡ judged c v e → ⊥)
    → (excuse (judged c v d) d ≡ true) ⊎ (excuse (judged c v e) e ≡ true)
unfolding judged Excuse late_clone
leaks (opens_both o) v d e n =
    both_leaks (opening_fits ipsec_places o) (leb ike_share (v.ike.many table.any))
    (leb ipsec_share (v.ipsec.many table.any))
    d.taken d.child_taken d.room d.child_room e.taken e.child_taken e.room e.child_room
    d.room e.room n
leaks (opens_ipsec spi owner operator) v d e n =
    adding_leaks (bad_adding ipsec_places spi owner operator) (own_has v owner) (leb ipsec_share (v.ipsec.many table.any))
    d.child_taken d.child_room e.child_taken e.child_room d.room e.room n
leaks (closes_ike spi operator) v d e n = absurd (n refl)
leaks (closes_ipsec spi operator) v d e n = absurd (n refl)
leaks (marks_deletion spi operator) v d e n = absurd (n refl)
leaks (sets_policy k rules operator) v d e n = absurd (n refl)
leaks (requests q) v d e n = absurd (n refl)
leaks (checks q) v d e n = absurd (n refl)
leaks (clones q) v d e n =
    let r = clone.read q in
    clone_leaks (eqb (clone.early_by q v) 0) (eqb r.reading.number 0) (clone.early_by q v) r.reading.number
    r.clone
    (is_yes (own_record v q.spi).deleting) (leb peer_records_most (clone.peers_by q v))
    (leb ike_share (v.ike.many table.any))
    d.taken d.room e.taken e.room n

module _ (s : State) (w : WellFormed s) where
  pub numbers : (c : Call) → number c s ≡ judged c (own_in (operator_of c) s) (beside c s)
  unfolding answer judged beside
  numbers (opens_both o) = call.opening_number_lem o s w
  numbers (opens_ipsec spi owner operator) = call.adding_number_lem spi owner operator s w
  numbers (closes_ike spi operator) = call.closing_number_lem spi operator s w
  numbers (closes_ipsec spi operator) = call.child_closing_number spi operator s w
  numbers (marks_deletion spi operator) = call.marking_number spi operator s w
  numbers (sets_policy n rules operator) = call.setting_number_lem n rules operator s
  numbers (requests q) = ap number_in (request.request_answer_lem q s w)
  numbers (checks q) = ap number_in (response.response_answer_lem q s w)
  numbers (clones q) = clone.clone_number_lem q s

  answers : (c : Call) → answer c s ≡ told c (number c s) (own_in (operator_of c) s)
  unfolding answer told
  answers (opens_both o) = refl
  answers (opens_ipsec spi owner operator) = refl
  answers (closes_ike spi operator) = refl
  answers (closes_ipsec spi operator) = refl
  answers (marks_deletion spi operator) = refl
  answers (sets_policy n rules operator) = refl
  answers (requests q) = request.request_answer_lem q s w
  answers (checks q) = response.response_answer_lem q s w
  answers (clones q) = clone.clone_answer q s

  -- every call does one change
  steps : (c : Call) → step c s ≡ applied (does c (number c s) (own_in (operator_of c) s)) s
  unfolding answer does
  steps (opens_both o) = call.opening_step o s w
  steps (opens_ipsec spi owner operator) = call.adding_step spi owner operator s w
  steps (closes_ike spi operator) = call.closing_step spi operator s w
  steps (closes_ipsec spi operator) = call.child_closing_step spi operator s w
  steps (marks_deletion spi operator) = call.marking_step spi operator s w
  steps (sets_policy n rules operator) = call.setting_step n rules operator s
  steps (requests q) = request.request_step q s w
  steps (checks q) = response.response_step q s w
  steps (clones q) = clone.clone_step q s

  allowed : (c : Call) → Allowed (operator_of c) (does c (number c s) (own_in (operator_of c) s)) s
  unfolding answer does
  allowed (opens_both o) = call.opening_allowed o s w
  allowed (opens_ipsec spi owner operator) = call.adding_allowed spi owner operator s w
  allowed (closes_ike spi operator) = call.closing_allowed spi operator s w
  allowed (closes_ipsec spi operator) = call.child_closing_allowed spi operator s w
  allowed (marks_deletion spi operator) = call.marking_allowed spi operator s w
  allowed (sets_policy n rules operator) = call.setting_allowed n rules operator s
  allowed (requests q) = request.request_allowed q s w
  allowed (checks q) = response.response_allowed q s w
  allowed (clones q) = clone.clone_allowed q s

  views : (c : Call) → own_in (operator_of c) (step c s) ≡ next c (number c s) (own_in (operator_of c) s)
  views c =
      let o = operator_of c in
      ap (own_in o) (steps c) ∙ own_change s w o (does c (number c s) (own_in o s)) (allowed c)

  pub others : (c : Call) (o : ℕ) → (operator_of c ≡ o → ⊥) → own_in o (step c s) ≡ own_in o s
  others c o n =
      ap (own_in o) (steps c)
      ∙ other_change s w o (operator_of c) n (does c (number c s) (own_in (operator_of c) s)) (allowed c)

  pub stays_well : (c : Call) → WellFormed (step c s)
  stays_well c =
      rw (steps c) (kept.stays_well s w (operator_of c) (does c (number c s) (own_in (operator_of c) s)) (allowed c))

  pub stays_within : WithinShares s → (c : Call) → WithinShares (step c s)
  stays_within h c =
      rw (steps c) (shares.stays_within s w h (operator_of c) (does c (number c s) (own_in (operator_of c) s)) (allowed c))

  pub decided : (o : ℕ) (c : Call) → operator_of c ≡ o
      → Decided step answer (own_in o) (named o) number_in WellFormed beside judged told next excuse c s
  decided o c e = rw (← e) (record { numbers = numbers c; answers = answers c; views = views c })
