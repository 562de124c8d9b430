-- A response to a check is decided by what is looked up for it: what is told, and the change of the tables around it.
use Prim.Native.Nat.{ℕ}
use Rattle.std.specs.Prelude.{Option, Some, None}
use mathlib.Core.Path.{◌≡◌, refl}
use mathlib.Core.List.{List, map}
use mathlib.Core.Bool.{Bool, true, false, cond}
use borrow.Author.Tests.{eqb-true, eqb-false}
use lib.Dec.{eqb, ltb}
use lib.ListN.{length, set}
use Rattle.octets.specs.Limits.{ike_places}
use Rattle.octets.specs.Lists.{place_of}
use Rattle.octets.proofs.Small.{chosen}
use Rattle.records.specs.Pending.{cookie_sent}
use Rattle.records.specs.Records.{ike_spi, follows, released}
use Rattle.records.specs.declared.ike.IkeRecord.{IkeRecord}
use Rattle.records.specs.declared.ipsec.IpsecRecord.{IpsecRecord}
use Rattle.tables.specs.Calls.{has_ike}
use Rattle.tables.specs.Tables.{meant}
use Rattle.reader.specs.Chain.{count, chain_at}
use Rattle.initiator.specs.declared.response.Assessment.{Assessment}
use Rattle.initiator.proofs.Ways.{assessed}
use Rattle.routability.specs.Routability.{CheckResponse, Checked, early_response, check_told, checked}
use Rattle.routability.specs.Ending.{ending_of}
use Rattle.routability.specs.declared.response.Ending.{Ending}

-- the list after what an ending says of it
abbrev pub owned_after : Ending → ℕ → IkeRecord → List IpsecRecord → List IpsecRecord
owned_after c spi e ipsec =
    let followed = cond c.moves (map (follows spi e.pair) ipsec) ipsec in
    cond c.closes (map (released spi) ipsec) followed

module _ (ike : List IkeRecord) (ipsec : List IpsecRecord) (q : CheckResponse) where
  abbrev place : ℕ
  place = place_of ike_spi q.spi ike

  abbrev entry : IkeRecord
  entry = meant ike q.spi

  abbrev told : Assessment
  told = check_told (length ipsec) (has_ike q.spi ike) entry q

  -- a response that is not refused is counted
  pub told_counts : told.number ≡ 0 → told.payloads ≡ count (chain_at q.body q.first 0)
  unfolding check_told
  told_counts =
      let early = early_response (length ipsec) (has_ike q.spi ike) entry q in
      chosen (λ (a : Assessment). a.number ≡ 0 → a.payloads ≡ count (chain_at q.body q.first 0)) (eqb early 0)
      (λ e. (assessed (cookie_sent entry.check) q.first q.body _ refl).counts)
      (λ e z. absurd (eqb-false early 0 e z))

  module _ (long : length ike ≡ ike_places) where
    abbrev ending : Ending
    ending = ending_of (record { size = length ipsec; place = place; entry = entry }) q

    -- the table after what it stores
    abbrev pub stored : Option IkeRecord → List IkeRecord
    stored None = ike
    stored (Some e) = set ike place e

    -- the same, as the code decides it
    pub ending_counts : ending.told.number ≡ 0 → ending.told.payloads ≡ count (chain_at q.body q.first 0)
    unfolding ending_of
    ending_counts = rw long at told_counts

    pub record Ends (h : Checked) : Type 0 where
      pub told_so : ending.told ≡ h.told
      pub ike_after : stored ending.entry ≡ h.ike
      pub ipsec_after : owned_after ending q.spi entry ipsec ≡ h.ipsec

    -- what it comes to
    abbrev outcome : ℕ
    outcome = (check_told (length ipsec) (ltb place ike_places) entry q).outcome

    pub ends : Ends (checked ike ipsec q)
    unfolding ending_of checked
    ends = go (eqb outcome 0) refl (eqb outcome 1) refl (eqb outcome 5) refl
      where
        -- refused, closed, accepted, and an error
        go : (a : Bool) → eqb outcome 0 ≡ a → (b : Bool) → eqb outcome 1 ≡ b → (c : Bool) → eqb outcome 5 ≡ c
            → Ends (checked ike ipsec q)
        go true e b f c g =
            let o = eqb-true outcome 0 e in
            record {
              told_so = rw (long, o);
              ike_after = rw (long, o);
              ipsec_after = rw (long, o);
            }
        go false e true f c g =
            let o = eqb-true outcome 1 f in
            record { told_so = rw (long, o); ike_after = rw (long, o); ipsec_after = rw (long, o) }
        go false e false f true g =
            let o = eqb-true outcome 5 g in
            record { told_so = rw (long, o); ike_after = rw (long, o); ipsec_after = rw (long, o) }
        go false e false f false g =
            record { told_so = rw (long, e, f, g); ike_after = rw (long, e, f, g); ipsec_after = rw (long, e, f, g) }
