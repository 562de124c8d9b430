-- Every address of a list that a request brings has family 4 or 6.
use Prim.Native.Nat.{ℕ, ◌+◌, ◌<◌, ◌-◌, min}
use mathlib.Core.Path.{◌≡◌, refl, sym, ◌∙◌}
use mathlib.Core.List.{List, zip_with}
use mathlib.Core.Bool.{true}
use native.Mathlib.Omega.{arith}
use native.Mathlib.Decide.{ℕ_discrete}
use lib.ListN.{length, get_or, set, take, replicate, length-set, length-take, get_or-append}
use lib.Seq.{get_or-set_same, get_or-set_other, get_or-take}
use Rattle.octets.specs.Limits.{addresses_most, address_octets}
use Rattle.octets.proofs.Small.{chosen}
use Rattle.octets.proofs.Pad.{length-copied}
use Rattle.octets.proofs.Zip.{length-zip, get_d_zip}
use Rattle.address.specs.Address.{address_of, no_address}
use Rattle.address.specs.declared.address.Address.{Address}
use Rattle.notify.specs.declared.notify.NotifyKind.TheVariants.{AdditionalIp4, AdditionalIp6}
use Rattle.payload.specs.declared.payload.Content.{Content}
use Rattle.payload.specs.declared.payload.Content.TheVariants.{Skipped, Unknown as UnknownPayload, Notify}
use Rattle.values.specs.Values.{address_at, additional_of, addresses_in}
use Rattle.findings.specs.Seen.{is, listed, noted, content_noted}
use Rattle.findings.specs.declared.seen.Offsets.{Offsets}
use Rattle.findings.specs.declared.seen.Seen.{Seen}
use Rattle.reader.specs.Chain.{reading}
use Rattle.reader.proofs.Chain.{DataFits}
use Rattle.reader.proofs.Kept.{kept}
use Rattle.reached.specs.WellFormed.{is_family}

record Listed (l : Offsets) : Type 0 where
  offsets : length l.offsets ≡ addresses_most
  families : length l.families ≡ addresses_most
  known : (i : ℕ) → i < l.count → i < addresses_most → is_family (get_or l.families i 0) ≡ true

one_more : (l : Offsets) (family at : ℕ) → is_family family ≡ true → Listed l → Listed (listed l family at)
one_more l family at f h =
    record {
      offsets = length-set l.offsets l.count at ∙ h.offsets;
      families = length-set l.families l.count family ∙ h.families;
      known = λ i c s. go i c s (ℕ_discrete i l.count);
    }
  where
    go : (i : ℕ) → i < l.count + 1 → i < addresses_most → Dec (i ≡ l.count)
        → is_family (get_or (set l.families l.count family) i 0) ≡ true
    go i c s (yes e) = rw (e, get_or-set_same l.families l.count family 0 (omega (arith, h.families))) f
    go i c s (no n) = rw (get_or-set_other l.families l.count i family 0 n) (h.known i (omega arith) s)

content_listed : (s : Seen) (content : Content) (at : ℕ) → Listed s.list → DataFits content
    → Listed (content_noted s content at).list
unfolding content_noted noted
content_listed s Skipped at h f = h
content_listed s UnknownPayload at h f = h
content_listed s (Notify k number len) at h f =
    chosen Listed (is k AdditionalIp4) (λ e. one_more s.list 4 at refl h)
    (λ e. chosen Listed (is k AdditionalIp6) (λ e. one_more s.list 6 at refl h) (λ e. h))

module _ (first : ℕ) (body : List ℕ) where
  abbrev seen : Offsets
  seen = (reading first body).seen.list

  all_listed : Listed seen
  all_listed =
      kept (λ (s : Seen). Listed s.list)
      (record { offsets = refl; families = refl; known = λ i c s. absurd (omega arith) }) content_listed first body

  abbrev octets : List (List ℕ)
  octets = additional_of body seen

  abbrev given : List Address
  given = zip_with address_of seen.families octets

  octets_long : length octets ≡ addresses_most
  octets_long =
      let h = all_listed in
      let long =
      length-zip (address_at body) seen.offsets seen.families (h.offsets ∙ sym h.families) ∙ h.offsets in
      length-copied (replicate address_octets 0) (zip_with (address_at body) seen.offsets seen.families)
      addresses_most seen.count long

  given_long : length given ≡ addresses_most
  given_long = let h = all_listed in
      length-zip address_of seen.families octets (h.families ∙ sym octets_long) ∙ h.families

  pub families_known : (i : ℕ) → i < min seen.count addresses_most
      → is_family (get_or (addresses_in body seen) i no_address).family ≡ true
  families_known i l =
      let h = all_listed in
      let n = min seen.count addresses_most in
      let inside : i < length (take n given) = rw (length-take n given) (omega (arith, given_long)) in
      let at = get_d_zip address_of seen.families octets i 0 (replicate address_octets 0) no_address
      (omega (arith, h.families)) (omega (arith, octets_long)) in
      rw (
        get_or-append (take n given) (replicate (addresses_most - n) no_address) no_address i inside,
        get_or-take n given i no_address l,
        at,
      )
      (h.known i (omega arith) (omega arith))
