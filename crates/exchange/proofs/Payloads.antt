-- Notifications as octets are read back as the chain of those notifications.
use Prim.Native.Nat.{ℕ, ◌+◌, ◌-◌, ◌≤◌}
use mathlib.Core.Path.{◌≡◌, refl, ap, ◌∙◌}
use mathlib.Core.List.{List, [], ◌∷◌, ◌++◌, append_assoc, append-nil}
use mathlib.Core.Bool.{true}
use native.Mathlib.Nat.{add_assoc, div-add-mod'}
use native.Mathlib.Omega.{arith}
use borrow.Author.Tests.{eq-eqb, le-ltb}
use lib.ListN.{length, get_or, length-append}
use lib.Seq.{get_or-append-add, get_or-append_seam}
use Rattle.octets.specs.Limits.{payload_header, notify_header}
use Rattle.octets.specs.Wire.{notify_payload}
use Rattle.octets.specs.Octets.{be16}
use Rattle.notify.specs.Notify.{kind_of, data_fits}
use Rattle.payload.specs.Payload.{payload_at, sized, notify_at}
use Rattle.payload.specs.declared.payload.Content.TheVariants.{Notify}
use Rattle.payload.specs.Payload.{Payload}
use Rattle.writing.specs.Notify.{Notification, notify_octets, first_type, chained}
use Rattle.writing.proofs.Placed.{length-notify}
use Rattle.reader.specs.Chain.{payload, chain_at}
use Rattle.reader.proofs.Chain.{chain_step}
use Rattle.exchange.proofs.Notifies.{AllFit, content_of, notify_chain}

-- a number is read behind other octets as it is read alone
pub be16_behind : (front s : List ℕ) (i : ℕ) → be16 (front ++ s) (length front + i) ≡ be16 s i
be16_behind front s i = rw (add_assoc, get_or-append-add front s i, get_or-append-add front s (i + 1))

module _ (front : List ℕ) (next number : ℕ) (octets rest : List ℕ) where
  abbrev Body : List ℕ
  Body = front ++ (notify_octets next number octets ++ rest)

  size_read : be16 Body (length front + 2) ≡ notify_header + length octets
  unfolding notify_octets
  size_read = be16_behind front (notify_octets next number octets ++ rest) 2
      ∙ div-add-mod' (notify_header + length octets) 256

  number_read : be16 Body (length front + 6) ≡ number
  unfolding notify_octets
  number_read = be16_behind front (notify_octets next number octets ++ rest) 6 ∙ div-add-mod' number 256

  spi_read : get_or Body (length front + 5) 0 ≡ 0
  unfolding notify_octets
  spi_read = get_or-append-add front (notify_octets next number octets ++ rest) 5 0

  next_read_lem : get_or Body (length front) 0 ≡ next
  unfolding notify_octets
  next_read_lem = get_or-append_seam front next _ 0

  pub length-body : length Body ≡ length front + (notify_header + length octets + length rest)
  length-body = simp (length-append, length-notify)

  -- one notification between other octets is read as itself
  pub payload_of : data_fits (kind_of number) (length octets) ≡ true
      → payload_at notify_payload Body (length front)
      ≡ Payload (notify_header + length octets) (Notify (kind_of number) number (length octets))
  unfolding payload_at sized notify_at
  payload_of fits =
      let left : notify_header + length octets - notify_header - 0 ≡ length octets = omega arith in
      rw (
        size_read,
        number_read,
        spi_read,
        left,
        le-ltb (length Body - length front) 4 (omega (arith, length-body)),
        le-ltb (length Body - length front) (notify_header + length octets) (omega (arith, length-body)),
        le-ltb (notify_header + length octets) payload_header (omega arith),
        le-ltb (notify_header + length octets) notify_header (omega arith),
        le-ltb (notify_header + length octets - notify_header) 0 (omega arith),
        fits,
      )

-- notifications behind any octets are read as their chain
pub chain_of : (xs : List Notification) → AllFit xs → (front : List ℕ)
    → chain_at (front ++ chained xs 0) (first_type xs 0) (length front) ≡ notify_chain (length front) xs
unfolding chained
chain_of [] fits front =
    rw (append-nil front, chain_step 0 front (length front) (omega arith), eq-eqb (length front) (length front) refl)
chain_of (x ∷ xs) fits front =
    let first = notify_octets (first_type xs 0) x.notify_type x.octets in
    let inside : length front ≤ length (front ++ (first ++ chained xs 0)) = rw length-append (omega arith) in
    let more : length front + (notify_header + length x.octets) ≡ length (front ++ first) =
    simp (length-append, length-notify) in
    rw (
      chain_step notify_payload _ _ inside,
      payload_of front (first_type xs 0) x.notify_type x.octets (chained xs 0) fits.0,
      next_read_lem front (first_type xs 0) x.notify_type x.octets (chained xs 0),
      more,
      ← append_assoc front first (chained xs 0),
    )
    (ap (payload (length front) (content_of x)) (chain_of xs fits.1 (front ++ first)))
