-- What looking after a reading asks, and the three ways that the two come to one reading.
use Rattle.clone_chain.proofs.Looked.{read_to, refused_told, stopped_told, whole_told}
use Rattle.clone_chain.proofs.read.read_clone.Goals as goal

pub look_to-requires : goal.look_to-requires
look_to-requires c =
    let t = read_to c.args.first c.args.body.now c.requires c.read_short-r.result c.read_short-r.ensures.is in
    rw c.stop_of-stop.ensures (t.0, c.requires, t.1)

pub returns-in-Err : goal.returns-in-Err
returns-in-Err c =
    let a = c.args in
    refused_told a.first a.body.now c.read_short-r.result _ c.requires c.read_short-r.ensures.is c.stop_of-stop.ensures
    c.refuse.result _ _ _ c.in-Err.ensures (rw (← c.from.ensures) c.refuse.ensures)

pub returns-in-Ok : goal.returns-in-Ok
returns-in-Ok c =
    let a = c.args in
    stopped_told a.first a.body.now c.read_short-r.result _ c.requires c.read_short-r.ensures.is c.stop_of-stop.ensures
    _ _ c.in-Ok.ensures c.if-r-ne0.true

pub returns-in-Ok-2 : goal.returns-in-Ok-2
returns-in-Ok-2 c =
    let a = c.args in
    whole_told a.first a.body.now c.read_short-r.result _ c.requires c.read_short-r.ensures.is c.stop_of-stop.ensures
    _ _ c.in-Ok.ensures c.if-r-ne0.false
