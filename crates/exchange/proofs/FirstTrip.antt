-- The first round trip: reading a written request gives back what was asked for.
use Prim.Native.Nat.{ℕ, ◌≤◌}
use mathlib.Core.Path.{◌≡◌, refl, ap, ◌∙◌}
use mathlib.Core.List.{List, [], ◌∷◌}
use mathlib.Core.Bool.{Bool, true, false, cond, not}
use native.Mathlib.Nat.{zero-add}
use native.Mathlib.Omega.{arith}
use borrow.Author.Tests.{le-ltb, ltb-false}
use lib.Dec.{eqb, ltb}
use lib.ListN.{length}
use Rattle.octets.specs.declared.number.Number.TheVariants.{BadArgument, OutputTooShort}
use Rattle.octets.specs.Checks.{◌gives◌, first_failed}
use Rattle.octets.specs.Limits.{body_most, request_room}
use Rattle.findings.specs.Seen.{nothing_seen}
use Rattle.values.specs.Values.{addresses_in}
use Rattle.writing.specs.Notify.{first_type}
use Rattle.reader.specs.Chain.{ends, Whole, scanned, answer, reading}
use Rattle.asking.specs.Draft.{Draft, requested, request_octets}
use Rattle.asking.specs.Fits.{request_fits}
use Rattle.requests.proofs.Longest.{room_exact}
use Rattle.requests.specs.Written.{write_number, written_octets, complete, not_written, written}
use Rattle.exchange.specs.RoundTrips.{given_by, asked_for, Sized, GivenBack, ReadingWritten}
use Rattle.exchange.proofs.Notifies.{notify_chain}
use Rattle.exchange.proofs.Payloads.{chain_of}
use Rattle.exchange.proofs.Structs.{structs_back}
use Rattle.exchange.proofs.Reading.{scan_gives}
use Rattle.exchange.proofs.Staged.{request_leads}

module _ (q : Draft) (z : Sized q) (fits : request_fits q ≡ true) where
  abbrev Body : List ℕ
  Body = request_octets q

  pub given_back : GivenBack q (first_type (requested q) 0) Body
  unfolding reading
  given_back =
      -- before anything is seen nothing was asked for
      let leads = request_leads q z fits in
      let found = scan_gives Body (requested q) [] refl leads.fits nothing_seen 0 leads.clear refl (λ e. refl)
      (refl, refl) in
      let seen = (scanned nothing_seen (notify_chain 0 (requested q))).seen in
      let same : given_by Body seen ≡ asked_for q = found.values ∙ leads.gives in
      let read : reading (first_type (requested q) 0) Body ≡ answer ends Whole seen =
      rw (
        le-ltb body_most (length Body) (omega (arith, room_exact.enough q fits)),
        chain_of (requested q) leads.fits [],
        found.whole,
      ) in
      record {
        number = rw read;
        tally = rw (read, found.tally, zero-add);
        values = rw read same;
        addresses =
            λ l f o. rw read
            (structs_back (addresses_in Body seen.list) l q.ask.count
            (ap (λ (r : Draft). r.families) same ∙ rw f)
            (ap (λ (r : Draft). r.addresses) same ∙ rw o));
      }

-- The writer's answer, by whether the request fits.
module _ (q : Draft) (room : ℕ) where
  pub fits_written : request_fits q ≡ true → request_room ≤ room
      → (written q room ≡ complete q) × (written_octets q room ≡ request_octets q)
  unfolding write_number written written_octets
  fits_written f r = (rw (f, le-ltb room request_room r), rw (f, le-ltb room request_room r))

  pub number_zero : (written q room).number ≡ 0 → (request_fits q ≡ true) × (request_room ≤ room)
  unfolding write_number written
  number_zero = go (request_fits q) (ltb room request_room) refl
    where
      go : (b c : Bool) → ltb room request_room ≡ c
          → let n = first_failed (not b gives BadArgument ∷ c gives OutputTooShort ∷ []) in
          (cond (eqb n 0) (complete q) (not_written n)).number ≡ 0 → (b ≡ true) × (request_room ≤ room)
      go true true t e = absurd (omega arith)
      go true false t e = (refl, ltb-false room request_room t)
      go false c t e = absurd (omega arith)

pub reading_written : ReadingWritten
reading_written q room z e =
    let n = number_zero q room e in
    let w = fits_written q room n.0 n.1 in
    rw (w.0, w.1) (given_back q z n.0)
