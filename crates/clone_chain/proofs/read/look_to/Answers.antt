-- One turn is in proofs/Turn.antt, by the size that is read.
use Rattle.std.proofs.Common.{refl, ◌∙◌, arith}
use Rattle.clone_chain.proofs.Turn.{turned, passed}
use Rattle.clone_chain.proofs.read.look_to.Goals as goal

pub be16_at-size-requires : goal.be16_at-size-requires
be16_at-size-requires c =
    let a = c.args in
    let l = c.loop-at in
    let t =
    turned a.stop l.payload_type a.body.now l.at l.invariant.0 c.requires.0 c.loop-at-test.true l.invariant.2 _ refl in
    omega (arith, t.header, t.within)

pub notify_type_of-notify_type-requires : goal.notify_type_of-notify_type-requires
notify_type_of-notify_type-requires c =
    let a = c.args in
    let l = c.loop-at in
    (turned a.stop l.payload_type a.body.now l.at l.invariant.0 c.requires.0 c.loop-at-test.true l.invariant.2 _
    c.be16_at-size.ensures).long

pub returns-in-Err : goal.returns-in-Err
returns-in-Err c =
    let a = c.args in
    let l = c.loop-at in
    let t =
    turned a.stop l.payload_type a.body.now l.at l.invariant.0 c.requires.0 c.loop-at-test.true l.invariant.2 _
    c.be16_at-size.ensures in
    let e = rw c.notify_type_of-notify_type.ensures at c.in-Err.ensures in
    rw (l.invariant.3 ∙ t.stops l.ordinal l.supported l.clone (λ z. omega (arith, e.0, e.1, z)))
    (record { number = e.0; some = λ z. omega (arith, e.0, e.1, z); there = refl; before = refl })

pub loop-at-smaller : goal.loop-at-smaller
loop-at-smaller c =
    let a = c.args in
    let l = c.loop-at in
    let t =
    turned a.stop l.payload_type a.body.now l.at l.invariant.0 c.requires.0 c.loop-at-test.true l.invariant.2 _
    c.be16_at-size.ensures in
    omega (arith, t.header, t.within)

pub loop-at-preserved : goal.loop-at-preserved
loop-at-preserved c =
    let a = c.args in
    let l = c.loop-at in
    let t =
    turned a.stop l.payload_type a.body.now l.at l.invariant.0 c.requires.0 c.loop-at-test.true l.invariant.2 _
    c.be16_at-size.ensures in
    let e = rw c.notify_type_of-notify_type.ensures at c.in_default.ensures in (
      t.within,
      omega (arith, t.header),
      t.reaches,
      rw (c.stands-supported.ensures, c.stands-clone.ensures, c.notify_type_of-notify_type.ensures)
          (l.invariant.3 ∙ t.goes_on l.ordinal l.supported l.clone e),
    )

pub returns : goal.returns
returns c =
    let a = c.args in
    let l = c.loop-at in
    rw (l.invariant.3 ∙ passed a.stop l.payload_type a.body.now l.at l.invariant.0 c.loop-at-test.false l.ordinal
    l.supported l.clone)
    (record { none = refl; supports = refl; clones = refl })
