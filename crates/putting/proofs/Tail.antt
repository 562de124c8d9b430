-- The end of a request: how much room it takes, and which types stand in it.
use Prim.Native.Nat.{ℕ, ◌+◌, ◌*◌, ◌≤◌}
use mathlib.Core.Path.{◌≡◌, refl, ◌∙◌}
use mathlib.Core.List.{List, [], ◌∷◌, ◌++◌, zip_with}
use mathlib.Core.Bool.{Bool, true, false, not}
use native.Mathlib.Omega.{arith}
use lib.Dec.{eqb}
use lib.ListN.{length, take, length-append, length-take}
use Rattle.octets.specs.Limits.{addresses_most, cookie_most}
use Rattle.octets.specs.Wire.{no_additional_addresses, cookie2}
use Rattle.writing.specs.Notify.{Notification, notification, first_type, chained}
use Rattle.writing.proofs.Chained.{first_append, chained_append, length-one}
use Rattle.writing.specs.Parts.{cookie_notifies}
use Rattle.asking.specs.Draft.{if_asked, address_notifies, tail_notifies}
use Rattle.putting.specs.Put.{address_room, tail_room, TypeIf, TailType}
use Rattle.putting.proofs.Asked.{length-asked}
use Rattle.putting.proofs.Addresses.{list_length, list_type}

-- NO_ADDITIONAL_ADDRESSES, if it is asked for
abbrev pub none_more : Bool → List Notification
none_more asked = if_asked asked (notification no_additional_addresses [] ∷ [])

-- with NO_ADDITIONAL_ADDRESSES there is no address, so both together take no more room than a full list
pub list_room : (asked : Bool) (count next : ℕ) → count ≤ addresses_most → (asked ≡ true → count ≡ 0)
    → length (chained (none_more asked) next) + count * address_room ≤ addresses_most * address_room
unfolding chained
list_room true count next c h = omega (arith, h refl, length-one (notification no_additional_addresses []) next)
list_room false count next c h = omega arith

-- The three types, one before the other.
pub tail_typed : (asked : Bool) (count size to-cookie to-list r : ℕ) → TypeIf (not (eqb size 0)) 0 to-cookie
    → TypeIf (not (eqb count 0)) to-cookie to-list → TypeIf asked to-list r → TailType asked count size r
tail_typed asked count size to-cookie to-list r a b c families addresses cookie f o e =
    let listed = address_notifies (take count families) (take count addresses) in
    let at-cookie : to-cookie ≡ first_type (cookie_notifies cookie) 0 = rw e (a (notification cookie2 cookie) []) in
    let at-list : to-list ≡ first_type listed to-cookie = list_type count families addresses to-cookie to-list
    (omega arith) (omega arith) b in
    c (notification no_additional_addresses []) []
    ∙ rw (
      first_append (none_more asked) (listed ++ cookie_notifies cookie) 0,
      first_append listed (cookie_notifies cookie) 0,
      ← at-cookie,
      ← at-list,
    )

-- with no address and nothing before it, the cookie is what stands first
pub cookie_type : (families : List ℕ) (addresses : List (List ℕ)) (cookie : List ℕ) (r : ℕ)
    → TailType false 0 (length cookie) r → r ≡ first_type (cookie_notifies cookie) 0
unfolding zip_with
cookie_type families addresses cookie r t = t families addresses cookie (omega arith) (omega arith) refl

module _ (asked : Bool) (count : ℕ) (families : List ℕ) (addresses : List (List ℕ)) (cookie : List ℕ)
    (c : count ≤ addresses_most) where
  pub tail_length : (asked ≡ true → count ≡ 0) → length cookie ≤ cookie_most
      → length (chained (tail_notifies asked count families addresses cookie) 0) ≤ tail_room
  tail_length h k =
      let listed = address_notifies (take count families) (take count addresses) in
      let two = listed ++ cookie_notifies cookie in
      let next = first_type (cookie_notifies cookie) 0 in
      rw (
        chained_append (none_more asked) two 0,
        length-append (chained (none_more asked) (first_type two 0)) (chained two 0),
        chained_append listed (cookie_notifies cookie) 0,
        length-append (chained listed next) (chained (cookie_notifies cookie) 0),
      )
      (omega (
        arith,
        list_room asked count (first_type two 0) c h,
        list_length (take count families) (take count addresses) next,
        length-take count families,
        length-asked (not (eqb (length cookie) 0)) (notification cookie2 cookie) 0,
        k,
      ))
