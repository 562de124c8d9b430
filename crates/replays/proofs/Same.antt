-- The claims of specs/Same.antt. Assumes nothing.
use Prim.Native.Nat.{ℕ}
use mathlib.Core.Path.{◌≡◌, refl, sym, ◌∙◌, ap, ap₂}
use mathlib.Core.Bool.{true, false, false≢true}
use mathlib.Core.List.{List, [], ◌++◌}
use native.Mathlib.Omega.{arith}
use lib.ListN.{get_or, drop}
use lib.Seq.{get_or-drop}
use Rattle.octets.specs.Limits.{response_room}
use Rattle.policy.specs.Policy.{set_policy}
use Rattle.tables.specs.Calls.{open_both, open_ipsec, close_ike, close_ipsec, mark_deletion}
use Rattle.tables.specs.declared.calls.Opening.{Opening}
use Rattle.checking.specs.Checks.{Request}
use Rattle.responder.specs.Handle.{handled}
use Rattle.routability.specs.Routability.{CheckResponse, checked}
use Rattle.cloning.specs.Clone.{CloneRequest, cloned}
use Rattle.fields.specs.Fields.{Value, none, ◌then◌}
use Rattle.fields.specs.Slots.{value_in, fits_in}
use Rattle.entries.specs.Kinds.{fields_of, operator}
use Rattle.entries.specs.declared.kind.Kind.{Kind}
use Rattle.entries.specs.declared.kind.Kind.TheVariants as kind
use Rattle.entry_laws.proofs.RoundTrips.{entries}
use Rattle.given.specs.declared.reading.Asked.TheVariants as asked
use Rattle.given.specs.Outcome.{numbered_by, replied_by}
use Rattle.calling.specs.Calling.{closer_in}
use Rattle.acts.specs.Performed.{Gateway, gateway, gives, performed}
use Rattle.replaying.specs.Turns.{slots_for, no_slots}
use Rattle.replays.specs.Calls.{called_as, empty}
use Rattle.replays.specs.Replay.{replayed}
use Rattle.replays.specs.Same.{Performing, Replays, all_read}
use Rattle.replays.proofs.Taken.{lent, told, then_fits, number_taken}
use Rattle.replays.proofs.Arguments.{opening_taken, request_taken, response_taken, clone_taken}
use Rattle.replays.proofs.Rules.{rules_taken, operator_taken}
use Rattle.replays.proofs.Sizes.{empty_sized}
use Rattle.replays.proofs.Runs.{runs}

-- the operator that closes or marks a record
closer_taken : (w behind slots : List ℕ) → fits_in (operator then none) w (drop 1 slots) ≡ true
    → closer_in (lent slots) ≡ get_or (drop 1 slots) 0 0
closer_taken w behind slots h =
    number_taken w behind (lent slots) _ 1 (simp get_or-drop (told slots 1)) 8 _ (then_fits _ _ _ _ h).0 (omega arith)

-- by its kind
acts_as : (k : Kind) (w behind slots : List ℕ) (g : Gateway) → fits_in (fields_of k) w slots ≡ true
    → performed (asked.Entry k) (w ++ behind) (lent slots) response_room g ≡ called_as k (value_in (fields_of k) w slots) g
unfolding value_in
acts_as kind.OpenBoth w behind slots g h =
    ap (λ (o : Opening).
    let a = open_both g.ike g.ipsec o in
    gives (numbered_by a.number) (gateway a.ike a.ipsec g.policies))
    (opening_taken w behind slots h)
acts_as kind.AddIpsec w behind slots g h =
    let spi = then_fits _ _ _ _ h in
    let owner = then_fits _ _ _ _ spi.1 in
    let operator = then_fits _ _ _ _ owner.1 in
    let given = lent slots in
    let p0 = number_taken w behind given slots 0 (told slots 0) 32 _ spi.0 (omega arith) in
    let p1 = told slots 1 ∙ sym (get_or-drop 1 slots 0 0) in
    let p2 = number_taken w behind given _ 2 (simp get_or-drop (told slots 2)) 8 _ operator.0 (omega arith) in
    λ i.
    let a = open_ipsec g.ike g.ipsec (p0 i) (p1 i) (p2 i) in
    gives (numbered_by a.number) (gateway g.ike a.ipsec g.policies)
acts_as kind.CloseIke w behind slots g h =
    ap₂ (λ (spi operator : ℕ).
    let a = close_ike g.ike g.ipsec spi operator in
    gives (numbered_by a.number) (gateway a.ike a.ipsec g.policies))
    (told slots 0) (closer_taken w behind slots (then_fits _ _ _ _ h).1)
acts_as kind.CloseIpsec w behind slots g h =
    let spi = then_fits _ _ _ _ h in
    ap₂ (λ (spi operator : ℕ).
    let a = close_ipsec g.ike g.ipsec spi operator in
    gives (numbered_by a.number) (gateway g.ike a.ipsec g.policies))
    (number_taken w behind (lent slots) slots 0 (told slots 0) 32 _ spi.0 (omega arith))
    (closer_taken w behind slots spi.1)
acts_as kind.Request w behind slots g h =
    ap (λ (q : Request).
    let a = handled g.policies g.ike g.ipsec q in
    gives (replied_by a.reply) (gateway a.ike g.ipsec g.policies))
    (request_taken w behind slots h)
acts_as kind.Policy w behind slots g h =
    let rules = rules_taken w behind slots h in
    let own = operator_taken w behind slots h in
    λ i.
    let a = set_policy g.policies (rules.0 i) (rules.1 i) (own i) in
    gives (numbered_by a.number) (gateway g.ike g.ipsec a.policies)
acts_as kind.CheckResponse w behind slots g h =
    ap (λ (q : CheckResponse).
    let a = checked g.ike g.ipsec q in
    gives (numbered_by a.told.number) (gateway a.ike a.ipsec g.policies))
    (response_taken w behind slots h)
acts_as kind.Clone w behind slots g h =
    ap (λ (q : CloneRequest).
    let a = cloned g.ike q in
    gives (numbered_by a.reply.number) (gateway a.ike g.ipsec g.policies))
    (clone_taken w behind slots h)
acts_as kind.MarkDeletion w behind slots g h =
    ap₂ (λ (spi operator : ℕ).
    let a = mark_deletion g.ike spi operator in
    gives (numbered_by a.number) (gateway a.ike g.ipsec g.policies))
    (told slots 0) (closer_taken w behind slots (then_fits _ _ _ _ h).1)

pub performing : Performing
performing w behind at e slots next g o q =
    let t = entries.writes_read w at e slots next o q in
    acts_as e.kind w behind slots g t.inside
    ∙ ap (λ (v : Value (fields_of e.kind)). called_as e.kind v g) t.value

pub replays : Replays
unfolding replayed
replays rs n o small brings turns =
    let t = all_read rs in
    (runs performing t o small n).1 false rs [] [] 0 0 0 0 0 (slots_for (asked.Entry kind.OpenBoth) no_slots) empty
    (record {
      octets = o;
      inside = omega arith;
      same = refl;
      within = omega arith;
      counted = omega arith;
      last = λ q. absurd (false≢true q);
      brings = brings;
    })
    empty_sized (omega arith)
