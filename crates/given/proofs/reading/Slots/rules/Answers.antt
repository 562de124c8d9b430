-- A turn stores the rule where the entry gives it, and leaves none there otherwise; behind the last turn all are stored.
use Rattle.std.proofs.Common.{◌∙◌, arith}
use Rattle.std.proofs.Math.Seq.{set-get_or}
use Rattle.given.proofs.Ruled.{given_turn, kept_turn, all_ruled}
use Rattle.given.proofs.reading.Slots.rules.Goals as goal
use Rattle.given.proofs.reading.Slots.rules.Goals.{then-i-self, else-i-self}

pub loop-i-preserved : goal.loop-i-preserved
loop-i-preserved c =
    let s = c.args.s.now in
    let slots = c.args.self.now.slots in
    let l = c.loop-i in
    let more = c.loop-i-test.true in
    elim c.if-i-self.branch [
      | then-i-self w ↦
          w.rule-items-is
          ∙ rw w.rule.ensures (given_turn s slots l.rule-items l.i more l.invariant w.if-i-self.true)
      | else-i-self w ↦
          w.rule-items-is ∙ set-get_or l.rule-items l.i _
          ∙ kept_turn s slots l.rule-items l.i more l.invariant w.if-i-self.false
    ]

pub returns : goal.returns
returns c = c.loop-i.invariant ∙ all_ruled c.args.s.now c.args.self.now.slots c.loop-i.i (omega arith)
