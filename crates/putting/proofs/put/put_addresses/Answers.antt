-- `putting::put::put_addresses` meets its contract: one address more is written behind those before it.
use Rattle.std.proofs.Common.{◌≡◌, ◌<◌, ◌∷◌, [], length, get_or, refl, sym, ◌∙◌, arith}
use Rattle.std.proofs.Math.Seq.{take-length}
use Rattle.std.proofs.lemmas.List.{drop_all}
use Rattle.octets.specs.Wire.{notify_payload}
use Rattle.address.specs.Address.{address_of}
use Rattle.writing.specs.Notify.{chained}
use Rattle.writing.proofs.Placed.{placed_none}
use Rattle.writing.proofs.Chained.{wrote_both, wrote_length}
use Rattle.putting.proofs.Addresses.{address_length, notify_of, notifies_of, written, one_more, type_here}
use Rattle.putting.proofs.Addresses.{type_behind, written_length}
use Rattle.putting.proofs.put.put_addresses.Goals as goal

pub loop-i-init : goal.loop-i-init
unfolding chained
loop-i-init c =
    record {
      wrote = record { offset = omega arith; octets = sym (placed_none c.args.out.now c.args.at) };
      within = omega arith;
      same = refl;
    }

pub loop-i-preserved : goal.loop-i-preserved
loop-i-preserved c =
    let a = c.args in
    let l = c.loop-i in
    let k = c.put_address-end in
    let x = c.type_if-following.result in
    let xs = a.addresses.now in
    let h : l.i < length xs = omega arith in
    let nothing = address_of 0 [] in
    let here = get_or xs l.i nothing in
    let one = notify_of here ∷ [] in
    let size = address_length x here.family here.octets in
    let before = written_length xs l.i notify_payload (omega arith) in
    record {
      wrote =
          rw (one_more xs l.i nothing h, ← type_behind xs l.i a.next x h c.type_if-following.ensures)
          (wrote_both a.out.now a.at (written xs l.i) one x notify_payload l.out k.new.out l.end k.result refl
          (omega (arith, size, before)) (rw (type_here xs l.i a.next h) at l.invariant.wrote) k.ensures);
      within = omega (arith, k.ensures.offset, size);
      same =
          wrote_length l.out l.end one x k.new.out k.result k.ensures (omega (arith, k.ensures.offset, size))
          ∙ l.invariant.same;
    }

pub returns : goal.returns
returns c =
    let l = c.loop-i in
    let xs = c.args.addresses.now in
    let all : l.i ≡ length xs = omega arith in
    rw (notifies_of xs) (rw (all, take-length xs, drop_all (length xs) xs (omega arith)) at l.invariant.wrote)
