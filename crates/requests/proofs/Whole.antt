-- The whole request, written part by part: each part fits behind the one before it, and all of them are the request.
use Prim.Native.Nat.{ℕ, ◌+◌, ◌≤◌}
use mathlib.Core.Path.{◌≡◌, refl, sym, ap, subst, ◌∙◌}
use mathlib.Core.List.{List, [], ◌∷◌, ◌++◌, append_assoc}
use mathlib.Core.Bool.{Bool, true, false}
use native.Mathlib.Omega.{arith}
use lib.ListN.{length, length-append}
use Rattle.octets.specs.Limits.{nat_octets, notify_header, request_room}
use Rattle.octets.specs.Wire.{notify_payload, nat_detection_source_ip, nat_detection_destination_ip}
use Rattle.octets.specs.Wire.{update_sa_addresses, no_nats_allowed}
use Rattle.writing.specs.Notify.{Notification, notification, first_type, chained}
use Rattle.writing.specs.Wrote.{Wrote}
use Rattle.writing.proofs.Chained.{wrote_both, wrote_length, first_append, chained_append, length-one}
use Rattle.writing.specs.Parts.{nat_notifies}
use Rattle.asking.specs.Draft.{Draft, if_asked, pair_octets, tail_notifies, requested}
use Rattle.asking.proofs.NoNats.{data_short}
use Rattle.asking.proofs.Fitting.{Fitting}
use Rattle.putting.specs.Put.{no_nats_room, nats_room, tail_room}
use Rattle.putting.proofs.Asked.{length-asked}
use Rattle.putting.proofs.Tail.{tail_length}

nats_length : (asked : Bool) (source destination : List ℕ) (next : ℕ)
    → (asked ≡ true → (length source ≡ nat_octets) × (length destination ≡ nat_octets))
    → length (chained (if_asked asked (nat_notifies source destination)) next) ≤ nats_room
unfolding chained
nats_length true source destination next h =
    let n = h refl in
    let x = notification nat_detection_source_ip source in
    let y = notification nat_detection_destination_ip destination in
    let both =
    ap length (chained_append (x ∷ []) (y ∷ []) next)
    ∙ length-append (chained (x ∷ []) notify_payload) (chained (y ∷ []) next) in
    subst (λ (k : ℕ). k ≤ nats_room) (sym both)
    (omega (arith, n.0, n.1, length-one x notify_payload, length-one y next))
nats_length false source destination next h = omega arith

-- The parts of a request, in their order.
module _ (q : Draft) where
  abbrev pub update : List Notification
  update = if_asked q.ask.update (notification update_sa_addresses [] ∷ [])

  abbrev pub no_nats_lem : List Notification
  no_nats_lem = if_asked q.ask.no_nats (notification no_nats_allowed (pair_octets q.pair) ∷ [])

  abbrev pub nats : List Notification
  nats = if_asked q.ask.nat_source (nat_notifies q.nat-source q.nat-destination)

  abbrev pub tail : List Notification
  tail = tail_notifies q.ask.no_additional q.ask.count q.families q.addresses q.cookie

  all_parts : ((update ++ no_nats_lem) ++ nats) ++ tail ≡ requested q
  all_parts = append_assoc (update ++ no_nats_lem) nats tail ∙ append_assoc update no_nats_lem (nats ++ tail)

  -- How many octets each part has at most.
  module _ (fit : Fitting q) where
    pub no_nats_short : (next : ℕ) → length (chained no_nats_lem next) ≤ no_nats_room
    no_nats_short next =
        omega (
          arith,
          length-asked q.ask.no_nats (notification no_nats_allowed (pair_octets q.pair)) next,
          data_short q.pair,
        )

    pub nats_short : (next : ℕ) → length (chained nats next) ≤ nats_room
    nats_short next = nats_length q.ask.nat_source q.nat-source q.nat-destination next fit.nats

    pub tail_short : length (chained tail 0) ≤ tail_room
    tail_short =
        tail_length q.ask.no_additional q.ask.count q.families q.addresses q.cookie fit.few
        fit.none fit.short

-- The parts fill the room that is asked for, and no more.
rooms : notify_header + no_nats_room + nats_room + tail_room ≡ request_room
rooms = refl

-- What is known before the first part is written: the request fits, and each type is that of the part behind.
pub record Ready (q : Draft) (to-tail to-nats to-no-nats : ℕ) : Type 0 where
  pub fit : Fitting q
  pub at_tail : to-tail ≡ first_type (tail q) 0
  pub at_nats : to-nats ≡ first_type (nats q) to-tail
  pub at_no_nats : to-no-nats ≡ first_type (no_nats_lem q) to-nats

module _ {q : Draft} {to-tail to-nats to-no-nats : ℕ} (ready : Ready q to-tail to-nats to-no-nats) where
  pub first_type_lem : (first : ℕ) → first ≡ first_type (update q) to-no-nats → first ≡ first_type (requested q) 0
  first_type_lem first e =
      e
      ∙ sym (rw (
        first_append (update q) (no_nats_lem q ++ (nats q ++ tail q)) 0,
        first_append (no_nats_lem q) (nats q ++ tail q) 0,
        first_append (nats q) (tail q) 0,
        ← ready.at_tail,
        ← ready.at_nats,
        ← ready.at_no_nats,
      ))

  module _ {out mid₁ : List ℕ} {p₁ : ℕ} (room : request_room ≤ length out)
      (one : Wrote out 0 (update q) to-no-nats mid₁ p₁) where
    p₁-short : p₁ ≤ notify_header
    p₁-short = omega (arith, one.offset, length-asked q.ask.update (notification update_sa_addresses []) to-no-nats)

    pub fits_no_nats : p₁ + no_nats_room ≤ length mid₁
    fits_no_nats =
        omega (
          arith,
          p₁-short,
          room,
          wrote_length out 0 (update q) to-no-nats mid₁ p₁ one (omega (arith, p₁-short, room)),
        )

    module _ {mid₂ : List ℕ} {p₂ : ℕ} (two : Wrote mid₁ p₁ (no_nats_lem q) to-nats mid₂ p₂) where
      two_short : length (chained (no_nats_lem q) to-nats) ≤ no_nats_room
      two_short = no_nats_short q ready.fit to-nats

      p₂-short : p₂ ≤ notify_header + no_nats_room
      p₂-short = omega (arith, two.offset, p₁-short, two_short)

      to₂ : Wrote out 0 (update q ++ no_nats_lem q) to-nats mid₂ p₂
      to₂ =
          wrote_both out 0 (update q) (no_nats_lem q) to-nats to-no-nats mid₁ mid₂ p₁ p₂ ready.at_no_nats
          (omega (arith, one.offset, p₁-short, two_short, room)) one two

      pub fits_nats : p₂ + nats_room ≤ length mid₂
      fits_nats =
          omega (
            arith,
            p₂-short,
            room,
            wrote_length out 0 (update q ++ no_nats_lem q) to-nats mid₂ p₂ to₂ (omega (arith, p₂-short, room)),
          )

      module _ {mid₃ : List ℕ} {p₃ : ℕ} (three : Wrote mid₂ p₂ (nats q) to-tail mid₃ p₃) where
        three_short : length (chained (nats q) to-tail) ≤ nats_room
        three_short = nats_short q ready.fit to-tail

        p₃-short : p₃ ≤ notify_header + no_nats_room + nats_room
        p₃-short = omega (arith, three.offset, p₂-short, three_short)

        to₃ : Wrote out 0 ((update q ++ no_nats_lem q) ++ nats q) to-tail mid₃ p₃
        to₃ =
            wrote_both out 0 (update q ++ no_nats_lem q) (nats q) to-tail to-nats mid₂ mid₃ p₂ p₃ ready.at_nats
            (omega (arith, to₂.offset, p₂-short, three_short, room)) to₂ three

        pub fits_tail : p₃ + tail_room ≤ length mid₃
        fits_tail =
            let same =
            wrote_length out 0 ((update q ++ no_nats_lem q) ++ nats q) to-tail mid₃ p₃ to₃
            (omega (arith, p₃-short, room)) in
            omega (arith, p₃-short, room, same)

        module _ {end : List ℕ} {r : ℕ} (four : Wrote mid₃ p₃ (tail q) 0 end r) where
          four_short : length (chained (tail q) 0) ≤ tail_room
          four_short = tail_short q ready.fit

          pub short : r ≤ request_room
          short = omega (arith, four.offset, p₃-short, four_short)

          pub whole : Wrote out 0 (requested q) 0 end r
          whole =
              subst (λ (xs : List Notification). Wrote out 0 xs 0 end r) (all_parts q)
              (wrote_both out 0 ((update q ++ no_nats_lem q) ++ nats q) (tail q) 0 to-tail mid₃ end p₃ r ready.at_tail
              (omega (arith, to₃.offset, p₃-short, four_short, room)) to₃ four)
