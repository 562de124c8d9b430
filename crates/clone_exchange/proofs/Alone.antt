-- What is written for one of the two notifications of a clone, and what reading it gives.
use Prim.Native.Nat.{ℕ, ◌≤◌}
use mathlib.Core.Path.{◌≡◌, refl}
use mathlib.Core.List.{List, [], ◌∷◌}
use mathlib.Core.Bool.{Bool, true, false, cond, not, false≢true}
use native.Mathlib.Omega.{arith}
use borrow.Author.Tests.{eqb-true, le-ltb, ltb-false, not-true}
use lib.Dec.{eqb, ltb}
use lib.ListN.{length}
use Rattle.octets.specs.declared.number.Number.TheVariants.{BadArgument, OutputTooShort}
use Rattle.octets.specs.Checks.{◌gives◌, first_failed}
use Rattle.octets.specs.Limits.{request_room}
use Rattle.octets.specs.Wire.{notify_payload}
use Rattle.octets.proofs.Small.{both, empty}
use Rattle.notify.specs.Notify.{kind_of}
use Rattle.payload.specs.Payload.{payload_at, sized, notify_at}
use Rattle.findings.specs.Seen.{content_noted, noted}
use Rattle.writing.specs.Notify.{notify_octets, chained}
use Rattle.reader.specs.Chain.{chain, chain_at, scanned, reading}
use Rattle.clone_chain.specs.CloneChain.{clone_reading}
use Rattle.asking.specs.Draft.{Draft}
use Rattle.asking.specs.declared.ask.CloneAsk.{CloneAsk}
use Rattle.requests.specs.Written.{not_written}
use Rattle.clone_requests.specs.WrittenAny.{asks_clone, one_clone, nothing_else, clone_alone, clone_number, asked_octets}
use Rattle.clone_requests.specs.WrittenAny.{clone_complete, clone_octets, written_clone, written_any, written_any_octets}
use Rattle.exchange.specs.Plain.{plainly_read}
use Rattle.exchange.specs.RoundTrips.{asked_for}
use Rattle.exchange.proofs.Staged.{up_to}
use Rattle.clone_exchange.specs.ClonePlain.{clone_given, also_given, clone_plain}
use Rattle.clone_exchange.specs.CloneTrips.{AsEver, Tallied}

pub as_ever : AsEver
unfolding written_any written_any_octets
as_ever a q room n = record { told = rw n; octets = rw n }

-- what holds of each of the two, of the one alone
pub either_one : (P : CloneAsk → Type 0) → P (record { supported = true; clone = false })
    → P (record { supported = false; clone = true }) → (a : CloneAsk) → one_clone a ≡ true → P a
either_one P supported clone a = go a.supported a.clone
  where
    go : (x y : Bool) → cond x (not y) y ≡ true → P (record { supported = x; clone = y })
    go true true e = absurd (false≢true e)
    go true false e = supported
    go false true e = clone
    go false false e = absurd (false≢true e)

pub one_asks : (a : CloneAsk) → one_clone a ≡ true → asks_clone a ≡ true
one_asks = either_one (λ a. asks_clone a ≡ true) refl refl

module _ (a : CloneAsk) (q : Draft) (room : ℕ) (asks : asks_clone a ≡ true) where
  abbrev pub alone : Bool
  alone = clone_alone a q.ask (length q.cookie)

  pub alone_written : alone ≡ true → request_room ≤ room
      → (written_any a q room ≡ clone_complete a) × (written_any_octets a q room ≡ asked_octets a)
  unfolding clone_number written_clone clone_octets written_any written_any_octets
  alone_written f r = (rw (asks, f, le-ltb room request_room r), rw (asks, f, le-ltb room request_room r))

  pub number_zero : (written_any a q room).number ≡ 0 → (alone ≡ true) × (request_room ≤ room)
  unfolding clone_number written_clone written_any
  number_zero e = go alone (ltb room request_room) refl (rw asks at e)
    where
      go : (b c : Bool) → ltb room request_room ≡ c
          → let n = first_failed (not b gives BadArgument ∷ c gives OutputTooShort ∷ []) in
          (cond (eqb n 0) (clone_complete a) (not_written n)).number ≡ 0 → (b ≡ true) × (request_room ≤ room)
      go true true t e = absurd (omega arith)
      go true false t e = (refl, ltb-false room request_room t)
      go false c t e = absurd (omega arith)

-- a request that asks for nothing of its own
abbrev pub unasked : Draft → Draft
unasked q = up_to q false false false false false 0 []

pub asks_nothing : (q : Draft) → nothing_else q.ask (length q.cookie) ≡ true → asked_for q ≡ unasked q
asks_nothing q e =
    let k = q.ask in
    let u = both (not k.update) _ e in
    let n = both (not k.no_nats) _ u.1 in
    let s = both (not k.nat_source) _ n.1 in
    let d = both (not k.nat_destination) _ s.1 in
    let m = both (not k.no_additional) _ d.1 in
    let c = both (eqb k.count 0) _ m.1 in
    same k.update k.no_nats k.nat_source k.nat_destination k.no_additional k.count q.cookie
    (not-true k.update u.0) (not-true k.no_nats n.0) (not-true k.nat_source s.0)
    (not-true k.nat_destination d.0) (not-true k.no_additional m.0) (eqb-true k.count 0 c.0)
    (empty q.cookie (eqb-true (length q.cookie) 0 c.1))
  where
    same : (u n s d m : Bool) (k : ℕ) (c : List ℕ) → u ≡ false → n ≡ false → s ≡ false → d ≡ false → m ≡ false → k ≡ 0
        → c ≡ [] → up_to q u n s d m k c ≡ unasked q
    same u n s d m k c eu en es ed em ek ec = rw (eu, en, es, ed, em, ek, ec)

-- what reading the eight octets of one of the two gives, in the clone's reading and elsewhere
pub record Reads (a : CloneAsk) : Type 0 where
  pub number : (clone_reading notify_payload (asked_octets a)).reading.number ≡ 0
  pub payloads : (clone_reading notify_payload (asked_octets a)).reading.seen.tally.payloads ≡ 1
  pub clone : clone_given notify_payload (asked_octets a) ≡ a
  pub also : (q : Draft) → also_given notify_payload (asked_octets a) ≡ unasked q
  pub nothing : nothing_else (also_given notify_payload (asked_octets a)).ask
      (length (also_given notify_payload (asked_octets a)).cookie) ≡ true
  pub plain : clone_plain notify_payload (asked_octets a) ≡ true
  pub elsewhere : Tallied notify_payload (asked_octets a)

-- eight octets are read by computing
pub reads : (a : CloneAsk) → one_clone a ≡ true → Reads a
unfolding chained notify_octets chain chain_at payload_at sized notify_at kind_of scanned content_noted noted reading
    clone_reading clone_plain plainly_read
reads =
    either_one Reads
    (record {
      number = refl;
      payloads = refl;
      clone = refl;
      also = λ q. refl;
      nothing = refl;
      plain = refl;
      elsewhere = record { number = refl; tally = refl; not_plain = refl };
    })
    (record {
      number = refl;
      payloads = refl;
      clone = refl;
      also = λ q. refl;
      nothing = refl;
      plain = refl;
      elsewhere = record { number = refl; tally = refl; not_plain = refl };
    })
