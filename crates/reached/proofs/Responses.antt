-- Responses to checks keep tables well-formed.
use Prim.Native.Nat.{ℕ}
use mathlib.Core.Path.{◌≡◌, refl}
use mathlib.Core.Bool.{true}
use lib.Dec.{eqb}
use Rattle.octets.proofs.Small.{chosen}
use Rattle.address.specs.Address.{pair_fits}
use Rattle.address.specs.declared.pair.Pair.{Pair}
use Rattle.records.specs.Records.{new_ipsec, follows, unchecked}
use Rattle.records.specs.declared.ipsec.IpsecRecord.{IpsecRecord}
use Rattle.tables.specs.Tables.{Tables, tables}
use Rattle.routability.specs.Routability.{CheckResponse, after_response}
use Rattle.routability.proofs.Laws.{place, entry, ended, Comes, Way, refused, closed, accepted, failed, way}
use Rattle.reached.specs.WellFormed.{IpsecBounds, WellFormed}
use Rattle.reached.specs.Reached.{checks, after_call}
use Rattle.reached.proofs.Checks.{none_bounds}
use Rattle.reached.proofs.Closes.{closed_well}
use Rattle.reached.proofs.Stored.{Keeps, Held, held, ike_changed, ipsec_changed}

-- an IPsec record that follows keeps its SPI and its owner
follows_keeps : {B : Type 0} (f : IpsecRecord → B) (o : ℕ) (p : Pair) (r : IpsecRecord)
    → f (new_ipsec r.spi r.owner p) ≡ f r → f (follows o p r) ≡ f r
follows_keeps f o p r e =
    chosen (λ (x : IpsecRecord). f x ≡ f r) (eqb r.spi 0) (λ z. refl)
    (λ z. chosen (λ (x : IpsecRecord). f x ≡ f r) (eqb r.owner o) (λ g. e) (λ g. refl))

follows_bounds : (o : ℕ) (p : Pair) (r : IpsecRecord) → pair_fits p ≡ true → IpsecBounds r → IpsecBounds (follows o p r)
follows_bounds o p r e b =
    chosen IpsecBounds (eqb r.spi 0) (λ z. b)
    (λ z. chosen IpsecBounds (eqb r.owner o) (λ g. record { pair = e }) (λ g. b))

module _ (q : CheckResponse) (t : Tables) (w : WellFormed t) where
  module _ {s : Tables} (c : Comes t q s) where
    meant_held : Held t.ike q.spi
    meant_held = held t w q.spi c.named c.there

    check_ended : WellFormed (tables (ended t q) t.ipsec)
    check_ended =
        let old = meant_held.fits in
        ike_changed t w (place t q) (unchecked (entry t q)) c.there meant_held.named refl
        (record {
          agreed = old.agreed;
          pair = old.pair;
          update_mark = old.update_mark;
          list_mark = old.list_mark;
          count = old.count;
          families = old.families;
          tally = old.tally;
          check = none_bounds;
          deleting = old.deleting;
        })

  kept : Way t q → WellFormed (after_response q t)
  kept (refused e) = rw e w
  kept (closed o c) = rw c.is (closed_well t w q.spi c.there)
  kept (accepted o c) =
      let p = (entry t q).pair in
      rw c.is (ipsec_changed (tables (ended t q) t.ipsec) (check_ended c) (follows q.spi p)
      (λ r. follows_keeps (λ (x : IpsecRecord). x.spi) q.spi p r refl)
      (λ r. follows_keeps (λ (x : IpsecRecord). x.owner) q.spi p r refl) refl
      (λ r. follows_bounds q.spi p r (meant_held c).fits.pair))
  kept (failed c) = rw c.is (check_ended c)

pub checks_keeps : (q : CheckResponse) → Keeps (λ (t : Tables). after_call t (checks q))
unfolding after_call
checks_keeps q t w = kept q t w (way t q)
