-- `putting::put::put_tail` meets its contract: how much room NO_ADDITIONAL_ADDRESSES and the addresses take, and the
-- parts of the end joined. Assumes nothing.
use Rattle.std.proofs.Common.{◌≡◌, ◌+◌, ◌*◌, ◌≤◌, ◌++◌, length, refl, ap, ◌∙◌, not, eqb, arith, length-append}
use Rattle.std.proofs.Math.ListN.{length-map}
use Rattle.octets.specs.Wire.{cookie2}
use Rattle.address.specs.Address.{families_of, octets_of}
use Rattle.address.specs.declared.address.Address.{Address}
use Rattle.writing.specs.Notify.{notification, chained}
use Rattle.writing.proofs.Placed.{length-placed}
use Rattle.writing.proofs.Chained.{chained_append, wrote_both}
use Rattle.writing.specs.Parts.{cookie_notifies}
use Rattle.asking.specs.Draft.{address_notifies}
use Rattle.putting.specs.Put.{address_room, cookie_room}
use Rattle.putting.proofs.Asked.{length-asked}
use Rattle.putting.proofs.Addresses.{list_length, all_taken}
use Rattle.putting.proofs.Tail.{none_more, list_room, cookie_type}
use Rattle.putting.proofs.put.put_tail.Goals as goal

pub put_addresses-end-requires : goal.put_addresses-end-requires
put_addresses-end-requires c =
    let a = c.args in
    let p = c.requires in
    let k = c.put_if-listed in
    let room = list_room a.no_additional (length a.addresses.now) c.tail_type-before.result
    p.count_le_addresses_most.0 p.count_le_addresses_most.1 in
    let same = ap length k.ensures.octets ∙ length-placed _ _ _ (omega (arith, room)) in
    omega (arith, room, same, k.ensures.offset)

pub put_if-requires-clause-octets_in_bounds : goal.put_if-requires-clause-octets_in_bounds
put_if-requires-clause-octets_in_bounds c =
    let a = c.args in
    let p = c.requires in
    let k = c.put_if-listed in
    let l = c.put_addresses-end in
    let xs = a.addresses.now in
    let room = list_room a.no_additional (length xs) c.tail_type-before.result p.count_le_addresses_most.0
    p.count_le_addresses_most.1 in
    let listed = address_notifies (families_of xs) (octets_of xs) in
    let listed_room = list_length (families_of xs) (octets_of xs) c.tail_type-after.result in
    let count = length-map xs (λ (x : Address). x.family) in
    let same = ap length k.ensures.octets ∙ length-placed _ _ _ (omega (arith, room)) in
    let fits : k.result + length xs * address_room + cookie_room ≤ length k.new.out =
    omega (arith, room, same, k.ensures.offset) in
    let s = length-placed k.new.out k.result (chained listed c.tail_type-after.result)
    (omega (arith, fits, listed_room, count)) in
    rw (l.ensures.octets, s) (omega (arith, fits, listed_room, count, l.ensures.offset))

pub returns : goal.returns
returns c =
    let a = c.args in
    let p = c.requires in
    let t = c.tail_type-before in
    let u = c.tail_type-after in
    let k = c.put_if-listed in
    let l = c.put_addresses-end in
    let r = c.put_if in
    let xs = a.addresses.now in
    let families = families_of xs in
    let octets = octets_of xs in
    let none = none_more a.no_additional in
    let listed = address_notifies families octets in
    let room = list_room a.no_additional (length xs) t.result p.count_le_addresses_most.0
    p.count_le_addresses_most.1 in
    let listed_room = list_length families octets u.result in
    let count = length-map xs (λ (x : Address). x.family) in
    let octets_count = length-map xs (λ (x : Address). x.octets) in
    let same = ap length k.ensures.octets ∙ length-placed _ _ _ (omega (arith, room)) in
    let fits : k.result + length xs * address_room + cookie_room ≤ length k.new.out =
    omega (arith, room, same, k.ensures.offset) in
    let cookie = a.cookie.now in
    let cookies = cookie_notifies cookie in
    let w = length-asked (not (eqb (length cookie) 0)) (notification cookie2 cookie) 0 in
    let after = cookie_type families octets cookie u.result u.ensures in
    let before = rw (all_taken xs) at (t.ensures families octets cookie (omega (arith, count)) (omega (arith, octets_count)) refl) in
    let list = chained listed u.result in
    let whole : length (chained (listed ++ cookies) 0) ≡ length list + length (chained cookies 0) =
    rw (chained_append listed cookies 0, ← after) (length-append list (chained cookies 0)) in
    let two = wrote_both k.new.out k.result listed cookies 0 u.result l.new.out r.new.out l.result r.result after
    (omega (arith, p.tail_room_in_bounds.1, fits, listed_room, count, w)) l.ensures r.ensures in
    rw (all_taken xs)
    (wrote_both a.out.now a.at none (listed ++ cookies) 0 t.result k.new.out r.new.out k.result r.result before
    (omega (arith, p.tail_room_in_bounds, room, listed_room, count, w, whole)) k.ensures two)
