-- A deletion mark keeps tables well-formed.
use Prim.Native.Nat.{ℕ}
use mathlib.Core.Path.{refl}
use mathlib.Core.Logic.{⊎_elim}
use native.Mathlib.Omega.{arith}
use Rattle.octets.specs.Lists.{place_of}
use Rattle.records.specs.Records.{ike_spi, deletion_marked}
use Rattle.tables.specs.Tables.{Tables, meant}
use Rattle.tables.proofs.Cases.{DeletionMarked, mark_deletion_cases}
use Rattle.reached.specs.WellFormed.{WellFormed}
use Rattle.reached.specs.Reached.{marks_deletion, after_call}
use Rattle.reached.proofs.Stored.{Keeps, held, ike_changed}

marked : (t : Tables) → WellFormed t → (spi operator : ℕ) → DeletionMarked t.ike spi operator
    → WellFormed (after_call t (marks_deletion spi operator))
unfolding after_call
marked t w spi operator d =
    let own = d.own in
    let h = held t w spi own.named own.there in
    let old = h.fits in
    rw d.is
    (ike_changed t w (place_of ike_spi spi t.ike) (deletion_marked (meant t.ike spi)) own.there h.named refl
    (record {
      agreed = old.agreed;
      pair = old.pair;
      update_mark = old.update_mark;
      list_mark = old.list_mark;
      count = old.count;
      families = old.families;
      tally = old.tally;
      check = old.check;
      deleting = omega arith;
    }))

pub marks_deletion_keeps : (spi operator : ℕ) → Keeps (λ (t : Tables). after_call t (marks_deletion spi operator))
unfolding after_call
marks_deletion_keeps spi operator t w =
    ⊎_elim (λ e. rw e w) (marked t w spi operator) (mark_deletion_cases t.ike spi operator)
