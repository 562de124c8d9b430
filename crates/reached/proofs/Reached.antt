-- Every call keeps tables well-formed, so those reached from empty ones are.
use mathlib.Core.Path.{refl, ap}
use mathlib.Core.List.{[], ◌∷◌}
use lib.ListN.{get_or-replicate}
use Rattle.octets.specs.Limits.{ike_places, ipsec_places}
use Rattle.records.specs.Records.{ike_spi, ipsec_spi, no_ike, no_ipsec}
use Rattle.tables.specs.Tables.{Tables}
use Rattle.reached.specs.WellFormed.{IkeBounds, IpsecBounds, WellFormed}
use Rattle.reached.specs.Reached.{empty, Call, opens_both, opens_ipsec, closes_ike, closes_ipsec, requests, checks}
use Rattle.reached.specs.Reached.{clones, marks_deletion}
use Rattle.reached.specs.Reached.{after_call, after_all, Typed, StaysWellFormed, Reached}
use Rattle.reached.proofs.Consistent.{all_free}
use Rattle.reached.proofs.Stored.{Keeps}
use Rattle.reached.proofs.Opens.{opens_both_keeps, opens_ipsec_keeps}
use Rattle.reached.proofs.Closes.{closes_ike_keeps, closes_ipsec_keeps}
use Rattle.reached.proofs.Requests.{requests_keeps}
use Rattle.reached.proofs.Responses.{checks_keeps}
use Rattle.reached.proofs.Cloned.{clones_keeps}
use Rattle.reached.proofs.Marked.{marks_deletion_keeps}

-- A law for each call.
keeps : (c : Call) → Typed c → Keeps (λ (t : Tables). after_call t c)
keeps (opens_both o) typed = opens_both_keeps o typed
keeps (opens_ipsec spi owner operator) typed = opens_ipsec_keeps spi owner operator
keeps (closes_ike spi operator) typed = closes_ike_keeps spi operator
keeps (closes_ipsec spi operator) typed = closes_ipsec_keeps spi operator
keeps (requests policies q) typed = requests_keeps policies q typed
keeps (checks q) typed = checks_keeps q
keeps (clones q) typed = clones_keeps q
keeps (marks_deletion spi operator) typed = marks_deletion_keeps spi operator

pub stays_well_formed : StaysWellFormed
unfolding after_all
stays_well_formed t w [] typed = w
stays_well_formed t w (c ∷ cs) typed = stays_well_formed (after_call t c) (keeps c typed.0 t w) cs typed.1

pub empty_well_formed : WellFormed empty
empty_well_formed =
    record {
      ikes = all_free ike_spi no_ike IkeBounds ike_places refl;
      ipsecs = all_free ipsec_spi no_ipsec IpsecBounds ipsec_places refl;
      owned = λ j l n. absurd (n (ap ipsec_spi (get_or-replicate ipsec_places j no_ipsec no_ipsec l)));
    }

pub reached : Reached
reached cs typed = stays_well_formed empty empty_well_formed cs typed
