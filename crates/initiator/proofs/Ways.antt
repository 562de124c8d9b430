-- The three ways out of an assessment, in terms of what was read, and its payload count.
use Prim.Native.Nat.{ℕ, ◌≤◌}
use mathlib.Core.Path.{◌≡◌, refl, sym, ◌∙◌}
use mathlib.Core.List.{List}
use mathlib.Core.Bool.{Bool, true, false, cond, not}
use native.Mathlib.Omega.{arith}
use borrow.Author.Tests.{eq-eqb, ne_eqb, eqb-true, eqb-false, ltb-false}
use lib.Dec.{eqb, ltb}
use lib.ListN.{length}
use Rattle.octets.specs.declared.number.Number.TheVariants.{BadArgument, BodyTooLong}
use Rattle.octets.specs.Numbers.{number_of}
use Rattle.octets.specs.Checks.{first_failed}
use Rattle.octets.specs.Limits.{body_most}
use Rattle.octets.proofs.Small.{chosen}
use Rattle.values.specs.Values.{part_of}
use Rattle.reader.specs.Chain.{count, chain_at, reading}
use Rattle.reader.specs.declared.read.Reading.{Reading}
use Rattle.reader.proofs.Count.{promised}
use Rattle.reader.proofs.Errors.{errors_among}
use Rattle.reader.proofs.Refused.{broken_of}
use Rattle.asking.specs.Fits.{cookie_fits}
use Rattle.initiator.specs.Response.{response_checks, refusal, whole_assessment, assessment, AssessedAs}
use Rattle.initiator.specs.declared.response.Assessment.{Assessment}

-- a number that is told is told, and 0 where there is none
told : (n : ℕ) → cond (not (eqb n 0)) n 0 ≡ n
told n = go (eqb n 0) refl
  where
    go : (b : Bool) → eqb n 0 ≡ b → cond (not b) n 0 ≡ n
    go true e = sym (eqb-true n 0 e)
    go false e = refl

module _ (sent : List ℕ) (first : ℕ) (body : List ℕ) where
  -- a body that is too long is refused by the reading too, with the same number
  long : ltb body_most (length body) ≡ true → (reading first body).number ≡ number_of BodyTooLong
  unfolding reading
  long e = rw e

  abbrev checked : ℕ
  checked = first_failed (response_checks sent first body)

  -- past the first check, the number is the reading's
  number_read : cookie_fits (length sent) ≡ true → checked ≡ (reading first body).number
  number_read f = go (ltb body_most (length body)) refl
    where
      go : (b : Bool) → ltb body_most (length body) ≡ b → checked ≡ (reading first body).number
      go true e = rw (f, e) (sym (long e))
      go false e = rw (f, e) (told (reading first body).number)

  -- a reading never tells a bad argument
  never_bad : (reading first body).number ≡ number_of BadArgument → ⊥
  never_bad n = go (ltb body_most (length body)) refl
    where
      go : (b : Bool) → ltb body_most (length body) ≡ b → ⊥
      go true e = omega (arith, n, long e)
      go false e =
          broken_of (λ (k : ℕ). k ≡ number_of BadArgument → ⊥)
          (record {
            chain_length = λ z. omega arith;
            notify = λ z. omega arith;
            data_size_lem = λ z. omega arith;
            repeated = λ z. omega arith;
            octets_after_end = λ z. omega arith;
            critical = λ z. omega arith;
          })
          first body (ltb-false body_most (length body) e) (λ z. omega (arith, n, z)) n

  pub unfit : cookie_fits (length sent) ≡ false → refusal (number_of BadArgument) 0 0 ≡ assessment sent first body
  unfolding assessment
  unfit f = rw (f, ne_eqb (number_of BadArgument) (reading first body).number (λ e. never_bad (sym e)))

  module _ (r : Reading) (read : r ≡ reading first body) where
    pub errors_counted : r.seen.tally.errors ≤ r.seen.tally.unknown_notifies
    errors_counted = rw read (errors_among first body)

    module _ (fits : cookie_fits (length sent) ≡ true) where
      number : checked ≡ r.number
      number = rw read (number_read fits)

      pub broken : (r.number ≡ 0 → ⊥) → refusal r.number r.offset r.ordinal ≡ assessment sent first body
      unfolding assessment
      broken n = rw (number, ← read, ne_eqb r.number 0 n, eq-eqb r.number r.number refl)

      pub whole : r.number ≡ 0
          → whole_assessment sent (part_of body r.seen.cookie r.seen.cookie_len) r.seen
          ≡ assessment sent first body
      unfolding assessment
      whole n = rw (number, ← read, eq-eqb r.number 0 n)

  abbrev Counts : Assessment → Type 0
  Counts a = a.number ≡ 0 → a.payloads ≡ count (chain_at body first 0)

  counted : Counts (assessment sent first body)
  unfolding assessment
  counted =
      let r = reading first body in
      chosen Counts (eqb checked 0)
      (λ e z. (promised first body r refl).counts (read_done (eqb-true checked 0 e)))
      (λ e z. absurd (eqb-false checked 0 e z))
    where
      read_done : checked ≡ 0 → (reading first body).number ≡ 0
      read_done e = go (cookie_fits (length sent)) refl
        where
          go : (b : Bool) → cookie_fits (length sent) ≡ b → (reading first body).number ≡ 0
          go true f = sym (number_read f) ∙ e
          go false f =
              let bad : checked ≡ number_of BadArgument = rw f in
              absurd (omega (arith, bad, e))

  -- what is assessed as defined is counted as promised
  pub assessed : (a : Assessment) → a ≡ assessment sent first body → AssessedAs sent first body a
  assessed a e = record { is = e; counts = rw e counted }
