-- A clone request keeps tables well-formed.
use mathlib.Core.Logic.{⊎_elim}
use Rattle.octets.specs.Lists.{place_of}
use Rattle.records.specs.Records.{ike_spi, no_ike, clone_of}
use Rattle.tables.specs.Tables.{Tables, meant}
use Rattle.cloning.specs.Clone.{CloneRequest}
use Rattle.cloning.proofs.Cloned.{OneMore, clone_cases}
use Rattle.reached.specs.WellFormed.{WellFormed}
use Rattle.reached.specs.Reached.{clones, after_call}
use Rattle.reached.proofs.Consistent.{opened}
use Rattle.reached.proofs.Opens.{fresh_bounds}
use Rattle.reached.proofs.Stored.{Keeps, held, owned_beside}

stored : (t : Tables) → WellFormed t → (q : CloneRequest) → OneMore t.ike q → WellFormed (after_call t (clones q))
unfolding after_call
stored t w q c =
    let original = meant t.ike q.spi in
    let clone = clone_of q.new_spi original in
    let fits = (held t w q.spi c.early_passed.named c.there).fits in
    rw c.is
    (record {
      ikes = opened ike_spi no_ike t.ike w.ikes (place_of ike_spi 0 t.ike) clone c.early_passed.new_named
          c.fresh (fresh_bounds q.new_spi original.agreed original.pair fits.agreed fits.pair);
      ipsecs = w.ipsecs;
      owned = owned_beside t w clone c.room;
    })

pub clones_keeps : (q : CloneRequest) → Keeps (λ (t : Tables). after_call t (clones q))
unfolding after_call
clones_keeps q t w = ⊎_elim (λ n. rw n.same w) (stored t w q) (clone_cases t.ike q)
