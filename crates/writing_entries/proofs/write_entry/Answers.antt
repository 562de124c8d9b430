-- `writing_entries::write_entry` meets its contract: the kind, and its fields behind it.
use Rattle.std.proofs.Common.{◌∙◌}
use Rattle.writing_entries.proofs.Steps.{says, whole_out}
use Rattle.writing_entries.proofs.write_entry.Goals as goal

pub returns-clause-out_after : goal.returns-clause-out_after
returns-clause-out_after c =
    let a = c.args in
    let n = c.from-number.ensures ∙ c.from.ensures in
    let e = c.in_ok-left.ensures ∙ rw (c.less_by-room.ensures, c.number_size.ensures, n) in
    let w = says a.kind a.source.now a.slots.now a.out.now _ e in
    let p = c.put_number-at in
    whole_out a.kind a.source.now a.slots.now a.out.now _ _ _ _ _ _ w.2 w.1 n p.ensures.value p.ensures.out_after
    c.put_fields.ensures
