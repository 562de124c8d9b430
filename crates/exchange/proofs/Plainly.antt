-- A plainly read chain is what some request writes.
use Prim.Native.Nat.{ℕ, ◌+◌, ◌≤◌}
use mathlib.Core.Path.{◌≡◌, refl, sym, ap, ◌∙◌}
use mathlib.Core.List.{List, [], ◌∷◌}
use mathlib.Core.Bool.{Bool, true, false, cond, ◌||◌, not, or-true, or-false, false≢true}
use native.Mathlib.Omega.{arith}
use borrow.Author.Tests.{eqb-true, not-false, leb-true, ne_eqb}
use lib.Dec.{eqb}
use lib.ListN.{length}
use Rattle.octets.specs.Limits.{addresses_most, notify_header}
use Rattle.octets.proofs.Small.{both, neither}
use Rattle.notify.specs.Notify.{kind_of}
use Rattle.notify.specs.declared.notify.NotifyKind.{NotifyKind}
use Rattle.notify.specs.declared.notify.NotifyKind.TheVariants.{NatDetectionSource, NatDetectionDestination}
use Rattle.notify.specs.declared.notify.NotifyKind.TheVariants.{MobikeSupported, AdditionalIp4, AdditionalIp6}
use Rattle.notify.specs.declared.notify.NotifyKind.TheVariants.{NoAdditionalAddresses, UpdateSaAddresses, Cookie2}
use Rattle.notify.specs.declared.notify.NotifyKind.TheVariants.{NoNatsAllowed, UnacceptableAddresses}
use Rattle.notify.specs.declared.notify.NotifyKind.TheVariants.{UnexpectedNatDetected, OtherError, OtherStatus}
use Rattle.payload.specs.declared.payload.Fault.TheVariants.{Conflict}
use Rattle.findings.specs.Seen.{nothing_seen, counted, with_tally, noted, content_noted, repeats}
use Rattle.findings.specs.declared.seen.Seen.{Seen}
use Rattle.writing.specs.Notify.{Notification, first_type}
use Rattle.reader.specs.Chain.{Scan, chain_at, Whole, Broken, stopped, scanned, reading}
use Rattle.reader.proofs.Whole.{read_whole}
use Rattle.asking.specs.Draft.{Draft, requested, request_octets}
use Rattle.asking.specs.Fits.{request_fits}
use Rattle.exchange.specs.Plain.{rank, in_order, nats_paired, plainly_read}
use Rattle.exchange.specs.RoundTrips.{Octets, Sized, asked_for}
use Rattle.exchange.proofs.Notifies.{content_of, notify_chain}
use Rattle.exchange.proofs.Parsed.{rank_of, parsed}
use Rattle.exchange.proofs.Ranked.{sorted, only, asked}
use Rattle.exchange.proofs.Asked.{asked_for_lem}

-- an offset that was noted
abbrev there : ℕ → Bool
there offset = not (eqb offset 0)

-- NO_ADDITIONAL_ADDRESSES stands with no address
abbrev Apart : Seen → Type 0
Apart s = s.no_additional ≡ true → s.list.count ≡ 0

-- What is seen in `t` more than in `s`: n addresses, and if so a NAT source, a NAT destination,
-- NO_ADDITIONAL_ADDRESSES.
record More (s t : Seen) (n : ℕ) (a b c : Bool) : Type 0 where
  count : t.list.count ≡ n + s.list.count
  source : there t.nat_source ≡ a || there s.nat_source
  destination : there t.nat_destination ≡ b || there s.nat_destination
  none : t.no_additional ≡ c || s.no_additional
  apart : Apart s → Apart t

there_behind : (at : ℕ) → there (at + notify_header) ≡ true
there_behind at = rw (ne_eqb (at + notify_header) 0 (omega arith))

there_once : (offset at : ℕ) → there (cond (eqb offset 0) (at + notify_header) offset) ≡ true
there_once offset at = go (eqb offset 0) refl
  where
    go : (b : Bool) → eqb offset 0 ≡ b → there (cond b (at + notify_header) offset) ≡ true
    go true e = there_behind at
    go false e = rw e

not_both : (b : Bool) (n : ℕ) → b ≡ false → b ≡ true → n ≡ 0
not_both b n e f = absurd (false≢true (sym e ∙ f))

none_there : (b : Bool) (n : ℕ) → b || there n ≡ false → n ≡ 0
none_there b n e = eqb-true n 0 (not-false (eqb n 0) (neither b (there n) e).1)

-- one notification that doesn't conflict
one_more : (s : Seen) (k : NotifyKind) (number at len : ℕ) → repeats s k ≡ false
    → More s (noted (with_tally s (counted s.tally 0)) k number (at + notify_header) len) (cond (eqb (rank k) 6) 1 0)
    (eqb (rank k) 3) (eqb (rank k) 4) (eqb (rank k) 5)
unfolding noted
one_more s NatDetectionSource number at len e = search (arith, there_once)
one_more s NatDetectionDestination number at len e = search (arith, there_behind)
one_more s MobikeSupported number at len e = search arith
one_more s AdditionalIp4 number at len e = search (arith, not_both)
one_more s AdditionalIp6 number at len e = search (arith, not_both)
one_more s NoAdditionalAddresses number at len e = search (arith, none_there s.no_additional)
one_more s UpdateSaAddresses number at len e = search arith
one_more s Cookie2 number at len e = search arith
one_more s NoNatsAllowed number at len e = search arith
one_more s UnacceptableAddresses number at len e = search arith
one_more s UnexpectedNatDetected number at len e = search arith
one_more s OtherError number at len e = search arith
one_more s OtherStatus number at len e = search arith

-- by what notifications stand there
abbrev MoreBy : Seen → Seen → List Notification → Type 0
MoreBy s t xs = More s t (length (only 6 xs)) (asked (only 3 xs)) (asked (only 4 xs)) (asked (only 5 xs))

-- what one notification adds and what the others add
module _ (x : Notification) (ys : List Notification) where
  added : (b : Bool) (p q r : Bool) → q ≡ b || p → r ≡ asked ys || q → r ≡ asked (cond b (x ∷ ys) ys) || p
  added true p q r e f = f ∙ rw e (or-true (asked ys))
  added false p q r e f = f ∙ rw e

  summed : (b : Bool) (p q r : ℕ) → q ≡ cond b 1 0 + p → r ≡ length ys + q → r ≡ length (cond b (x ∷ ys) ys) + p
  summed true p q r e f = omega arith
  summed false p q r e f = omega arith

-- a chain read whole
more : (xs : List Notification) (s t : Seen) (at : ℕ) → scanned s (notify_chain at xs) ≡ stopped Whole t → MoreBy s t xs
unfolding scanned content_noted
more [] s t at e = let same : s ≡ t = ap (λ (r : Scan). r.seen) e in rw (← same) (search arith)
more (x ∷ xs) s t at e =
    go (repeats s (kind_of x.notify_type)) refl e (more xs next t (at + (notify_header + length x.octets)))
  where
    next : Seen
    next = content_noted s (content_of x) (at + notify_header)

    go : (b : Bool) → repeats s (kind_of x.notify_type) ≡ b
        → cond b (stopped (Broken Conflict at) s)
        (scanned next (notify_chain (at + (notify_header + length x.octets)) xs)) ≡ stopped Whole t
        → (scanned next (notify_chain (at + (notify_header + length x.octets)) xs) ≡ stopped Whole t
        → MoreBy next t xs)
        → MoreBy s t (x ∷ xs)
    go true r e h =
        let o : Broken Conflict at ≡ Whole = ap (λ (r : Scan). r.outcome) e in
        let z : ◌≡◌ {A = ℕ} 0 1 = cc in
        absurd (omega arith)
    go false r e h =
        let m = h e in
        let o = one_more s (kind_of x.notify_type) x.notify_type at (length x.octets) r in
        record {
          count = summed x (only 6 xs) (eqb (rank_of x) 6) _ _ _ o.count m.count;
          source = added x (only 3 xs) (eqb (rank_of x) 3) _ _ _ o.source m.source;
          destination = added x (only 4 xs) (eqb (rank_of x) 4) _ _ _ o.destination m.destination;
          none = added x (only 5 xs) (eqb (rank_of x) 5) _ _ _ o.none m.none;
          apart = λ a. m.apart (o.apart a);
        }

-- both or neither
alike : (a b : Bool) → cond a b (not b) ≡ true → not a ≡ not b
alike true true e = refl
alike true false e = absurd (false≢true e)
alike false true e = absurd (false≢true e)
alike false false e = refl

-- the request that writes a chain, with its first type and its octets
pub record WrittenBy (first : ℕ) (body : List ℕ) : Type 0 where
  pub q : Draft
  pub sized : Sized q
  pub fits : request_fits q ≡ true
  pub starts : first ≡ first_type (requested q) 0
  pub octets : body ≡ request_octets q
  pub normal : asked_for q ≡ q

pub plain_request : (first : ℕ) (body : List ℕ) → Octets body → plainly_read first body ≡ true → WrittenBy first body
unfolding plainly_read
plain_request first body bytes e =
    let seen = (reading first body).seen in
    let a = both (eqb (reading first body).number 0) _ e in
    let b = both (in_order body 0 (chain_at body first 0)) _ a.1 in
    let c = both (nats_paired seen) _ b.1 in
    let p = parsed body first 0 0 bytes (omega arith) b.0 in
    let xs = p.xs in
    let m = more xs nothing_seen seen 0
    (rw p.chain at (read_whole first body (eqb-true (reading first body).number 0 a.0))) in
    let source : there seen.nat_source ≡ asked (only 3 xs) = m.source ∙ or-false (asked (only 3 xs)) in
    let destination : there seen.nat_destination ≡ asked (only 4 xs) = m.destination
    ∙ or-false (asked (only 4 xs)) in
    let none : seen.no_additional ≡ asked (only 5 xs) = m.none ∙ or-false (asked (only 5 xs)) in
    let paired = sym source ∙ alike (eqb seen.nat_source 0) (eqb seen.nat_destination 0) c.0
    ∙ destination in
    let few : length (only 6 xs) ≤ addresses_most =
    omega (arith, m.count, leb-true seen.list.count addresses_most c.1) in
    let apart : asked (only 5 xs) ≡ true → length (only 6 xs)
    ≡ 0 = λ h. omega (arith, m.count, m.apart (λ z. refl) (none ∙ h)) in
    let r = asked_for_lem xs (sorted xs 0 p.order p.fit p.bytes) paired few apart in
    record {
      q = r.q;
      sized = r.sized;
      fits = r.fits;
      starts = rw r.is p.starts;
      octets = rw r.is p.octets;
      normal = r.normal;
    }
