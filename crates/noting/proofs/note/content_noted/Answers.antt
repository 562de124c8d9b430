-- A notification is noted and then counted, which comes to the same.
use Rattle.std.proofs.Common.{◌∙◌, ap, arith}
use Rattle.findings.specs.Seen.{counted, with_tally, content_noted}
use Rattle.findings.specs.declared.seen.Seen.{Seen}
use Rattle.findings.proofs.Counts.{tally_same, payload_last}
use Rattle.noting.proofs.note.content_noted.Goals as goal

pub payload_counted-requires-in-Notify : goal.payload_counted-requires-in-Notify
payload_counted-requires-in-Notify c =
    let n = c.in_ok-notify_noted-in-Notify.ensures.1 in
    let same = tally_same c.args.seen.now c.in-Notify.kind c.in-Notify.notify_type c.args.at c.in-Notify.size in (
      omega arith,
      omega (arith, ap (λ (u : Seen). u.tally.payloads) n, same.0),
      omega (arith, ap (λ (u : Seen). u.tally.unknown_payloads) n, same.1),
    )

pub returns-in_ok-notify_noted-in-Notify : goal.returns-in_ok-notify_noted-in-Notify
unfolding content_noted
returns-in_ok-notify_noted-in-Notify c =
    let n = c.in_ok-notify_noted-in-Notify.ensures in
    rw c.in-Notify.is (
      n.0,
      ap (with_tally c.notify_noted.new.seen) c.payload_counted-in-Notify.ensures
          ∙ ap (λ (v : Seen). with_tally v (counted v.tally 0)) n.1
          ∙ payload_last c.args.seen.now c.in-Notify.kind c.in-Notify.notify_type c.args.at c.in-Notify.size,
    )
