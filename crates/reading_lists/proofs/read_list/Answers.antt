-- `reading_lists::read_list` meets its contract.
use Rattle.std.proofs.Common.{add-one, ℕ, ◌+◌, ◌-◌, ◌*◌, ◌≤◌, ◌<◌, ◌≡◌, ◌∙◌, sym, arith}
use Rattle.std.proofs.Math.ListN.{length-set}
use Rattle.std.proofs.Math.Nat.{mul-le-mul_right, suc-mul}
use Rattle.std.proofs.lemmas.Result.{err_from_is_err_and}
use Rattle.fields.specs.Fields.{list_most}
use Rattle.fields.specs.Slots.{width}
use Rattle.fields.specs.Codes.{table_of}
use Rattle.fields.specs.declared.refusal.Refusal.TheVariants.{Cut}
use Rattle.fields.proofs.Run.{reads_none, then_refused, then_read}
use Rattle.fields.proofs.Lists.{list_bad, list_large, list_refused, list_read, width_many, many_next}
use Rattle.reading_lists.proofs.read_list.Goals as goal

-- what k items of at most so many have
at_most : (k n size : ℕ) → k ≤ n → k * size ≤ n * size
at_most k n size h = mul-le-mul_right size h

item_more : (k size : ℕ) → (k + 1) * size ≡ k * size + size
item_more k size = rw add-one (suc-mul k size)

-- no count
pub returns-in_err-count : goal.returns-in_err-count
returns-in_err-count c =
    let p = err_from_is_err_and c.from_residual.result c.from_residual.ensures.1 in
    let n = c.in_err-count.ensures in
    let q = rw n.ok_part at n.value in
    let x : c.in_err-count.field-0.0 ≡ Cut = cc in
    rw (p.1, p.2, x) (list_bad _ _ _ _ (table_of c.args.list.each.now) (sym c.read_number.ensures.value ∙ n.ok_part))

-- too many
pub returns-then-count-gt-LIST_MOST : goal.returns-then-count-gt-LIST_MOST
returns-then-count-gt-LIST_MOST c =
    let r = c.in_ok-count.ensures.ok_part in
    list_large _ _ _ _ (table_of c.args.list.each.now) _ _ (sym c.read_number.ensures.value ∙ r)
    c.if-count-gt-LIST_MOST.true

-- the items
pub loop-init : goal.loop-init
loop-init c =
    let a = c.args in
    let f = table_of a.list.each.now in
    let n = c.read_number.ensures.within in
    let k = c.in_ok-count.count in
    let z : k - 0 ≡ k = omega arith in
    let m = at_most k list_most (width f) c.if-count-gt-LIST_MOST.false in
    record {
      inside = (rw c.in_ok-count.ensures.ok_part at n).1;
      here = omega arith;
      room = rw (z, width_many f k, length-set) (omega (arith, m, c.requires.each_in_bounds));
      sized = length-set _ _ _;
      whole = λ left r h. rw z at h;
    }

pub read_table-requires : goal.read_table-requires
read_table-requires c =
    let l = c.loop in
    let here : l.counter < c.in_ok-count.count = omega arith in
    let w = rw (many_next c.in_ok-count.count l.counter (table_of c.args.list.each.now) here) at l.invariant.room in
    (l.invariant.inside, omega arith)

pub returns-in_err-next : goal.returns-in_err-next
returns-in_err-next c =
    let a = c.args in
    let l = c.loop in
    let f = table_of a.list.each.now in
    let here : l.counter < c.in_ok-count.count = omega arith in
    let r = c.in_ok-count.ensures.ok_part in
    let p = err_from_is_err_and c.from_residual-in_err-next.result c.from_residual-in_err-next.ensures.1 in
    rw (p.1, p.2)
    (list_refused a.s.now a.at a.slots.now a.slot f _ _ (sym c.read_number.ensures.value ∙ r)
    c.if-count-gt-LIST_MOST.false c.requires.each_in_bounds _ _
    (l.invariant.whole _ _
    (rw (many_next c.in_ok-count.count l.counter f here)
    (then_refused _ _ a.s.now l.next l.slots l.place _ _ c.in_err-next.ensures))))

pub loop-preserved : goal.loop-preserved
loop-preserved c =
    let a = c.args in
    let l = c.loop in
    let f = table_of a.list.each.now in
    let here : l.counter < c.in_ok-count.count = omega arith in
    let e = many_next c.in_ok-count.count l.counter f here in
    let w = rw e at l.invariant.room in
    let s = c.args.list.size_value in
    record {
      inside = c.in_ok-next.ensures.within;
      here = omega (arith, l.invariant.here, item_more l.counter a.list.size);
      room = omega (arith, c.read_table.auto.slots, s);
      sized = c.read_table.auto.slots ∙ l.invariant.sized;
      whole = λ left r h. l.invariant.whole left r
          (rw e (then_read _ _ a.s.now l.next l.slots l.place _ _ left r w c.in_ok-next.ensures (rw s at h)));
    }

-- the slots of the items that the list could have more
pub fill-requires : goal.fill-requires
fill-requires c =
    let l = c.loop in
    let m = at_most l.counter list_most c.args.list.size (omega arith) in (
      omega (arith, m, l.invariant.here),
      omega (arith, c.requires.each_in_bounds, c.args.list.size_value, l.invariant.sized),
    )

pub returns : goal.returns
returns c =
    let a = c.args in
    let l = c.loop in
    let f = table_of a.list.each.now in
    let s = c.args.list.size_value in
    let z : c.in_ok-count.count - l.counter ≡ 0 = omega arith in
    let all : l.counter ≡ c.in_ok-count.count = omega arith in
    let r = c.in_ok-count.ensures.ok_part in
    list_read a.s.now a.at a.slots.now a.slot f _ _ (sym c.read_number.ensures.value ∙ r)
    c.if-count-gt-LIST_MOST.false c.requires.each_in_bounds l.slots _ l.next l.place _
    (l.invariant.here ∙ rw (all, s)) (rw s)
    (l.invariant.whole _ _ (rw z (reads_none a.s.now l.next l.slots l.place l.invariant.inside))) c.fill.ensures
