-- Scanning a chain of notifications gives what they ask for: what was seen, with the octets at its offsets, is the
-- request gathered.
use Prim.Native.Nat.{ℕ, zero, suc, ◌+◌}
use mathlib.Core.Path.{◌≡◌, refl, sym, ap, ◌∙◌}
use mathlib.Core.List.{List, [], ◌∷◌, ◌++◌, zip_with, append_assoc}
use mathlib.Core.Bool.{true, false, false≢true}
use native.Mathlib.Omega.{arith}
use borrow.Author.Tests.{eqb-true, eq-eqb, ne_eqb, leb-true, not-false}
use lib.Dec.{eqb}
use lib.ListN.{length, set, replicate, length-append, length-set}
use lib.Seq.{drop-append-add, take-append_seam}
use Rattle.octets.specs.Limits.{addresses_most, address_octets, ip4_octets, ip6_octets, nat_octets, cookie_least}
use Rattle.octets.specs.Limits.{notify_header}
use Rattle.octets.proofs.Pad.{put_last}
use Rattle.octets.proofs.Small.{both, chosen}
use Rattle.octets.proofs.Zip.{length-zip}
use Rattle.address.specs.Address.{families_of, octets_of}
use Rattle.notify.specs.Notify.{kind_of, data_fits}
use Rattle.notify.specs.declared.notify.NotifyKind.{NotifyKind}
use Rattle.notify.specs.declared.notify.NotifyKind.TheVariants.{NatDetectionSource, NatDetectionDestination}
use Rattle.notify.specs.declared.notify.NotifyKind.TheVariants.{MobikeSupported, AdditionalIp4, AdditionalIp6}
use Rattle.notify.specs.declared.notify.NotifyKind.TheVariants.{NoAdditionalAddresses, UpdateSaAddresses, Cookie2}
use Rattle.notify.specs.declared.notify.NotifyKind.TheVariants.{NoNatsAllowed, UnacceptableAddresses}
use Rattle.notify.specs.declared.notify.NotifyKind.TheVariants.{UnexpectedNatDetected, OtherError, OtherStatus}
use Rattle.findings.specs.Seen.{is, listed, noted, content_noted, repeats, counted, with_tally}
use Rattle.values.specs.Values.{part_of, address_at, addresses_in}
use Rattle.values.proofs.Stands.{part_there}
use Rattle.findings.specs.declared.seen.Offsets.{Offsets}
use Rattle.findings.specs.declared.seen.Seen.{Seen}
use Rattle.findings.specs.declared.seen.Tally.{Tally}
use Rattle.writing.specs.Notify.{Notification, notify_octets, first_type, chained}
use Rattle.writing.proofs.Placed.{length-notify}
use Rattle.reader.specs.Chain.{Scan, Whole, scanned}
use Rattle.asking.specs.Draft.{Draft}
use Rattle.exchange.specs.RoundTrips.{given_by, all_known}
use Rattle.exchange.proofs.Notifies.{AllFit, notify_chain}
use Rattle.exchange.proofs.Payloads.{length-body}
use Rattle.exchange.proofs.Structs.{Sixteen, families_in, octets_in_lem}
use Rattle.exchange.proofs.Gathered.{gathered, taken, gather_all, Clear}

-- a notification's data stands behind its header
pub part_at : (front : List ℕ) (next number : ℕ) (octets rest : List ℕ)
    → part_of (front ++ (notify_octets next number octets ++ rest)) (length front + notify_header) (length octets) ≡ octets
unfolding notify_octets
part_at front next number octets rest =
    let body = front ++ (notify_octets next number octets ++ rest) in
    part_there body (length front + notify_header) (length octets) (omega arith)
    (omega (arith, length-body front next number octets rest))
    ∙ rw (drop-append-add front (notify_octets next number octets ++ rest) 8) (take-append_seam octets rest)

-- two lists stored into at one place, then joined
zip_set : {A B C : Type 0} (f : A → B → C) (xs : List A) (ys : List B) (i : ℕ) (x : A) (y : B)
    → zip_with f (set xs i x) (set ys i y) ≡ set (zip_with f xs ys) i (f x y)
unfolding zip_with
zip_set f [] ys i x y = refl
zip_set f (a ∷ xs) [] zero x y = refl
zip_set f (a ∷ xs) [] (suc i) x y = refl
zip_set f (a ∷ xs) (b ∷ ys) zero x y = refl
zip_set f (a ∷ xs) (b ∷ ys) (suc i) x y = ap (λ l. f a b ∷ l) (zip_set f xs ys i x y)

pub listed_sixteen : (l : Offsets) (family offset : ℕ) → Sixteen l → Sixteen (listed l family offset)
listed_sixteen l family offset h =
    (length-set l.offsets l.count offset ∙ h.0, length-set l.families l.count family ∙ h.1)

pub noted_sixteen : (s : Seen) (k : NotifyKind) (number offset len : ℕ) → Sixteen s.list
    → Sixteen (noted s k number offset len).list
unfolding noted
noted_sixteen s k number offset len h =
    chosen Sixteen (is k AdditionalIp4) (λ e. listed_sixteen s.list 4 offset h)
    (λ e. chosen Sixteen (is k AdditionalIp6) (λ e. listed_sixteen s.list 6 offset h) (λ e. h))

-- where no cookie is handed out none was seen
abbrev NoneSeen : List ℕ → Seen → Type 0
NoneSeen body s = length (given_by body s).cookie ≡ 0 → s.cookie ≡ 0

-- A notification noted: its data stands at `offset`, and what it asks for was not asked for before.
module _ (body : List ℕ) (s : Seen) (t : Tally) (number offset : ℕ) (octets : List ℕ) (later : offset ≡ 0 → ⊥)
    (there : part_of body offset (length octets) ≡ octets) (cookies : NoneSeen body s) (sized : Sixteen s.list) where
  part : (n : ℕ) → eqb (length octets) n ≡ true → part_of body offset n ≡ octets
  part n e = rw (eqb-true (length octets) n e) at there

  -- one address more, behind those counted so far, whatever stood there: its octets, and its family
  octets_more : (family : ℕ)
      → octets_of (addresses_in body (listed s.list family offset))
      ≡ set (octets_of (addresses_in body s.list)) s.list.count (address_at body offset family)
  octets_more family =
      let l = s.list in
      let at = address_at body in
      let long = length-zip at l.offsets l.families (sized.0 ∙ sym sized.1) ∙ sized.0 in
      rw (
        octets_in_lem body (listed l family offset) (listed_sixteen l family offset sized),
        octets_in_lem body l sized,
        zip_set at,
      )
      (sym (put_last (replicate address_octets 0) (zip_with at l.offsets l.families) addresses_most l.count long
      (at offset family)))

  families_more : (family : ℕ)
      → families_of (addresses_in body (listed s.list family offset))
      ≡ set (families_of (addresses_in body s.list)) s.list.count family
  families_more family =
      let l = s.list in
      rw (families_in body (listed l family offset) (listed_sixteen l family offset sized), families_in body l sized)
      (sym (put_last 0 l.families addresses_most l.count sized.1 family))

  abbrev Noted : NotifyKind → Seen → Type 0
  Noted k next =
      (repeats s k ≡ false) × (next.tally ≡ t) × (given_by body next ≡ gathered (given_by body s) k octets) × NoneSeen
      body next

  one_noted : (k : NotifyKind) → data_fits k (length octets) ≡ true → taken (given_by body s) k ≡ false
      → Noted k (noted (with_tally s t) k number offset (length octets))
  unfolding noted
  one_noted NatDetectionSource f c =
      (refl, refl, rw (not-false (eqb s.nat_source 0) c, part nat_octets f, ne_eqb offset 0 later), cookies)
  one_noted NatDetectionDestination f c = (c, refl, rw (part nat_octets f, ne_eqb offset 0 later), cookies)
  one_noted MobikeSupported f c = (refl, refl, refl, cookies)
  one_noted AdditionalIp4 f c = (c, refl, rw (octets_more 4, families_more 4, part ip4_octets f), cookies)
  one_noted AdditionalIp6 f c = (c, refl, rw (octets_more 6, families_more 6, part ip6_octets f), cookies)
  one_noted NoAdditionalAddresses f c = (c, refl, refl, cookies)
  one_noted UpdateSaAddresses f c = (c, refl, refl, cookies)
  one_noted Cookie2 f c = (
    rw (eq-eqb s.cookie 0 (cookies (eqb-true _ 0 (not-false _ c)))),
    refl,
    rw there,
    rw there λ e. absurd (omega (arith, leb-true cookie_least (length octets) (both _ _ f).0)),
  )
  one_noted NoNatsAllowed f c = (c, refl, rw (there, ne_eqb offset 0 later), cookies)
  one_noted UnacceptableAddresses f c = absurd (false≢true (sym c))
  one_noted UnexpectedNatDetected f c = absurd (false≢true (sym c))
  one_noted OtherError f c = absurd (false≢true (sym c))
  one_noted OtherStatus f c = absurd (false≢true (sym c))

-- how a scan ended: whole, with these values and so many payloads
pub record Scanned (body : List ℕ) (found : Scan) (r : Draft) (n : ℕ) : Type 0 where
  pub whole : found.outcome ≡ Whole
  pub values : given_by body found.seen ≡ r
  pub tally : found.seen.tally ≡ all_known n

module _ (body : List ℕ) where
  -- a whole chain, behind `front`: by induction, one notification noted at each step
  pub scan_gives : (xs : List Notification) (front : List ℕ) → body ≡ front ++ chained xs 0 → AllFit xs
      → (s : Seen) (n : ℕ) → Clear (given_by body s) xs → s.tally ≡ all_known n → NoneSeen body s → Sixteen s.list
      → Scanned body (scanned s (notify_chain (length front) xs)) (gather_all (given_by body s) xs) (n + length xs)
  unfolding chained scanned content_noted
  scan_gives [] front e fits s n clear known cookies sized =
      record { whole = refl; values = refl; tally = known ∙ ap all_known (omega arith) }
  scan_gives (x ∷ xs) front e fits s n clear known cookies sized =
      let first = notify_octets (first_type xs 0) x.notify_type x.octets in
      let more : length front + (notify_header + length x.octets) ≡ length (front ++ first) =
      simp (length-append, length-notify) in
      let offset = length front + notify_header in
      let k = kind_of x.notify_type in
      let there : part_of body offset (length x.octets) ≡ x.octets =
      rw e (part_at front (first_type xs 0) x.notify_type x.octets (chained xs 0)) in
      let step = one_noted body s (counted s.tally 0) x.notify_type offset x.octets (omega arith) there cookies
      sized k fits.0 clear.0 in
      let count : n + suc (length xs) ≡ n + 1 + length xs = omega arith in
      rw (step.0, more, ← step.2, count)
      (scan_gives xs (front ++ first) (e ∙ sym (append_assoc front first (chained xs 0))) fits.1
      _ (n + 1) (rw step.2 clear.1) (rw (step.1, known)) step.3
      (noted_sixteen _ k x.notify_type offset (length x.octets) sized))
