-- A clone request: its number by what its operator sees and by whether a place is free and the new SPI is taken; all
-- else by what the operator sees and the number; and what is known where a clone is made.
use Prim.Native.Nat.{ℕ}
use mathlib.Core.Path.{◌≡◌, refl, sym, ap, ◌∙◌}
use mathlib.Core.List.{List, []}
use mathlib.Core.Bool.{Bool, true, false, cond}
use mathlib.Core.Option.{Option, some}
use borrow.Author.Tests.{eqb-true, eqb-false, ne_eqb, ltb-true, leb-false, not-false}
use lib.Dec.{eqb, leb}
use lib.ListN.{set}
use Rattle.octets.specs.Checks.{Check, first_failed}
use Rattle.octets.specs.Flags.{is_yes}
use Rattle.octets.specs.Limits.{peer_records_most, ike_share}
use Rattle.octets.specs.Lists.{place_of}
use Rattle.octets.proofs.Checks.{AllPassed, all_passed}
use Rattle.octets.proofs.Small.{neither}
use Rattle.writing.specs.Notify.{chained}
use Rattle.records.specs.Records.{ike_spi, no_ike, clone_of, of_peer}
use Rattle.records.specs.declared.ike.IkeRecord.{IkeRecord}
use Rattle.tables.specs.Calls.{has_ike, has_ipsec, owns, ikes_of}
use Rattle.tables.specs.Tables.{meant}
use Rattle.clone_chain.specs.CloneChain.{clone_reading}
use Rattle.clone_chain.specs.declared.read.CloneReading.{CloneReading}
use Rattle.cloning.specs.Clone.{CloneRequest, records_of, early_clone, whole_clone_checks, late_clone, clone_notifies}
use Rattle.cloning.specs.Clone.{not_cloned}
use Rattle.cloning.specs.Clone.{clone_told, cloned_as, cloned}
use Rattle.cloning.specs.declared.clone.CloneReply.{CloneReply}
use Rattle.cloning.proofs.Passed.{Passed, passed}
use Rattle.sharing.specs.Table as table
use Rattle.sharing.proofs.Lookups.{missing}
use Rattle.isolating.specs.State.{State, Own, own_in}
use Rattle.isolating.specs.Changes as change
use Rattle.isolating.specs.Changes.{applied, Allowed}
use Rattle.isolating.proofs.Shares.{many_are, ikes_seen}
use Rattle.isolation.specs.Calls.{clones, clone_replied, step, answer}
use Rattle.isolation.proofs.Lookup.{record_of, own_record, own_has, finds, owned_by, by_own}
use Rattle.isolation.proofs.TableCalls.{Beside, done_with}

module _ (q : CloneRequest) where
  abbrev pub read : CloneReading
  read = clone_reading q.first q.body

  -- by what the operator sees, and a free place and a taken SPI beside it
  abbrev pub early_by : Own → ℕ
  early_by v = early_clone (own_has v q.spi) (own_record v q.spi) q

  abbrev pub peers_by : Own → ℕ
  peers_by v = v.ike.many (λ (r : IkeRecord). eqb r.agreed.peer (own_record v q.spi).agreed.peer)

  abbrev pub late_by : Own → Bool → Bool → ℕ
  late_by v room taken = late_clone read (own_record v q.spi) room (peers_by v) taken (v.ike.many table.any)

  -- the checks behind a chain that was read whole
  abbrev pub whole_by : Own → Bool → Bool → List Check
  whole_by v room taken =
      whole_clone_checks read.clone (is_yes (own_record v q.spi).deleting) room (leb peer_records_most (peers_by v))
      taken
      (leb ike_share (v.ike.many table.any))

  abbrev pub clone_number : Own → Beside → ℕ
  clone_number v d = cond (eqb (early_by v) 0) (late_by v d.room d.taken) (early_by v)

  abbrev pub reply_by : ℕ → Own → CloneReply
  reply_by n v = cond (eqb (early_by v) 0) (clone_told n read.reading) (not_cloned (early_by v))

  abbrev pub octets_by : ℕ → Own → List ℕ
  octets_by n v = cond (eqb (early_by v) 0) (chained (clone_notifies n read.reading) 0) []

  abbrev pub clone : Own → IkeRecord
  clone v = clone_of q.new_spi (own_record v q.spi)

  module _ (s : State) where
    abbrev mine : Own
    mine = own_in q.operator s

    abbrev late : ℕ
    late = late_by mine (has_ike 0 s.ike) (has_ike q.new_spi s.ike)

    early_is : early_clone (has_ike q.spi s.ike) (meant s.ike q.spi) q ≡ early_by mine
    unfolding early_clone
    early_is =
        by_own q.operator q.spi s (λ there r. early_clone there r q) (λ e. rw e) refl (λ e. rw e)

    pub early_passed : eqb (early_by mine) 0 ≡ true → Passed (has_ike q.spi s.ike) (meant s.ike q.spi) q
    early_passed e = passed _ _ q (early_is ∙ eqb-true (early_by mine) 0 e)

    pub early_owned : eqb (early_by mine) 0 ≡ true → owns q.operator q.spi s.ike ≡ true
    early_owned e =
        let p = early_passed e in
        owned_by q.operator q.spi s.ike (rw (ne_eqb q.spi 0 p.named)) p.found p.own

    found : eqb (early_by mine) 0 ≡ true → mine.ike.find q.spi ≡ some (meant s.ike q.spi)
    found e = finds q.operator s q.spi (early_owned e)

    peers_seen : (peer : ℕ)
        → mine.ike.many (λ (r : IkeRecord). eqb r.agreed.peer peer) ≡ records_of q.operator peer s.ike
    unfolding own_in
    peers_seen peer = sym (many_are (of_peer q.operator peer) s.ike)

    late_is : eqb (early_by mine) 0 ≡ true
        → late_clone read (meant s.ike q.spi) (has_ike 0 s.ike)
        (records_of q.operator (meant s.ike q.spi).agreed.peer s.ike) (has_ike q.new_spi s.ike)
        (ikes_of q.operator s.ike)
        ≡ late
    late_is e = by_record ∙ sym (ap (λ (r : Option IkeRecord). late_of (record_of r)) (found e))
      where
        late_of : IkeRecord → ℕ
        late_of r =
            late_clone read r (has_ike 0 s.ike)
            (mine.ike.many (λ (x : IkeRecord). eqb x.agreed.peer r.agreed.peer))
            (has_ike q.new_spi s.ike) (mine.ike.many table.any)

        by_record : late_clone read (meant s.ike q.spi) (has_ike 0 s.ike)
            (records_of q.operator (meant s.ike q.spi).agreed.peer s.ike) (has_ike q.new_spi s.ike)
            (ikes_of q.operator s.ike)
            ≡ late_of (meant s.ike q.spi)
        by_record = rw (peers_seen (meant s.ike q.spi).agreed.peer, ikes_seen q.operator s)

    -- the three ways
    refused : eqb (early_by mine) 0 ≡ false → cloned s.ike q ≡ cloned_as (not_cloned (early_by mine)) [] s.ike
    unfolding cloned
    refused e = rw (early_is, e)

    not_made : eqb (early_by mine) 0 ≡ true → eqb late 0 ≡ false
        → cloned s.ike q
        ≡ cloned_as (clone_told late read.reading) (chained (clone_notifies late read.reading) 0) s.ike
    unfolding cloned
    not_made e f = rw (early_is, e, late_is e, f)

    made : eqb (early_by mine) 0 ≡ true → eqb late 0 ≡ true
        → cloned s.ike q
        ≡ cloned_as (clone_told late read.reading) (chained (clone_notifies late read.reading) 0)
        (set s.ike (place_of ike_spi 0 s.ike) (clone mine))
    unfolding cloned
    made e f =
        rw (early_is, e, late_is e, f)
        (ap (λ (r : Option IkeRecord).
        cloned_as (clone_told late read.reading) (chained (clone_notifies late read.reading) 0)
        (set s.ike (place_of ike_spi 0 s.ike) (clone_of q.new_spi (record_of r)))) (sym (found e)))

    pub clone_number_lem : (cloned s.ike q).reply.number
        ≡ clone_number mine
        (record {
          taken = has_ike q.new_spi s.ike;
          child_taken = false;
          room = has_ike 0 s.ike;
          child_room = has_ipsec 0 s.ipsec;
        })
    unfolding clone_told
    clone_number_lem = go (eqb (early_by mine) 0) refl (eqb late 0) refl
      where
        go : (a : Bool) → eqb (early_by mine) 0 ≡ a → (b : Bool) → eqb late 0 ≡ b
            → (cloned s.ike q).reply.number ≡ cond (eqb (early_by mine) 0) late (early_by mine)
        go true e true f = rw (made e f, e)
        go true e false f = rw (not_made e f, e)
        go false e b f = rw (refused e, e)

    pub clone_answer : answer (clones q) s
        ≡ clone_replied (reply_by (cloned s.ike q).reply.number mine)
        (octets_by (cloned s.ike q).reply.number mine)
    unfolding answer clone_told
    clone_answer = go (eqb (early_by mine) 0) refl (eqb late 0) refl
      where
        go : (a : Bool) → eqb (early_by mine) 0 ≡ a → (b : Bool) → eqb late 0 ≡ b
            → answer (clones q) s
            ≡ clone_replied (reply_by (cloned s.ike q).reply.number mine)
            (octets_by (cloned s.ike q).reply.number mine)
        go true e true f = rw (made e f, e)
        go true e false f = rw (not_made e f, e)
        go false e b f = rw (refused e, e)

    pub clone_step : step (clones q) s
        ≡ applied (done_with (cloned s.ike q).reply.number (change.clones (clone mine))) s
    unfolding step applied clone_told
    clone_step = go (eqb (early_by mine) 0) refl (eqb late 0) refl
      where
        go : (a : Bool) → eqb (early_by mine) 0 ≡ a → (b : Bool) → eqb late 0 ≡ b
            → step (clones q) s ≡ applied (done_with (cloned s.ike q).reply.number (change.clones (clone mine))) s
        go true e true f = rw (made e f, f)
        go true e false f = rw (not_made e f, f)
        go false e b f = rw (refused e, e)

    -- what has passed where a clone is made
    pub late_passed : eqb late 0 ≡ true → AllPassed (whole_by mine (has_ike 0 s.ike) (has_ike q.new_spi s.ike))
    unfolding late_clone
    late_passed f = go (eqb read.reading.number 0) refl
      where
        whole : List Check
        whole = whole_by mine (has_ike 0 s.ike) (has_ike q.new_spi s.ike)

        go : (b : Bool) → eqb read.reading.number 0 ≡ b → AllPassed whole
        go true e = all_passed whole refl (eqb-true (first_failed whole) 0 (rw e at f))
        go false e =
            absurd (eqb-false read.reading.number 0 e (eqb-true read.reading.number 0 (rw e at f)))

    pub clone_allowed : Allowed q.operator
        (done_with (cloned s.ike q).reply.number (change.clones (clone mine))) s
    unfolding clone_told
    clone_allowed = go (eqb (early_by mine) 0) refl (eqb late 0) refl
      where
        go : (a : Bool) → eqb (early_by mine) 0 ≡ a → (b : Bool) → eqb late 0 ≡ b
            → Allowed q.operator (done_with (cloned s.ike q).reply.number (change.clones (clone mine))) s
        go false e b f = rw (refused e, e) tt
        go true e false f = rw (not_made e f, f) tt
        go true e true f =
            let p = late_passed f in
            rw (made e f, f, found e)
            (record {
              named = (early_passed e).new_named;
              mine = (early_passed e).own;
              known = (early_passed e).operator;
              new = missing ike_spi no_ike (λ x. true) q.new_spi s.ike p.1.1.1.0;
              room = ltb-true _ _ (not-false _ (neither (is_yes (own_record mine q.spi).deleting) _ p.1.0).1);
              share =
                  rw (ikes_seen q.operator s) at (leb-false ike_share (mine.ike.many table.any) p.1.1.1.1.0);
            })
