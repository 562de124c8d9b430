-- A clone in tables that calls reach from empty ones stands alone: every owner has an IKE record there, so that no
-- IPsec record names an SPI that none has.
use Prim.Native.Nat.{ℕ, ◌<◌}
use mathlib.Core.Path.{◌≡◌, refl, sym, ap, ◌∙◌}
use mathlib.Core.Logic.{⊎_elim}
use native.Mathlib.Omega.{arith}
use native.Mathlib.Decide.{dec_lt, ℕ_discrete}
use lib.ListN.{length, get_or, get_or-eq_default}
use lib.Seq.{get_or-set_same, get_or-set_other}
use Rattle.records.specs.Records.{ike_spi, no_ike, no_ipsec}
use Rattle.records.specs.declared.ipsec.IpsecRecord.{IpsecRecord}
use Rattle.tables.specs.Tables.{Tables}
use Rattle.tables.proofs.Lookup.{finds_opened}
use Rattle.cloning.specs.Clone.{CloneRequest}
use Rattle.cloning.proofs.Cloned.{OneMore, clone_cases}
use Rattle.reached.specs.WellFormed.{WellFormed}
use Rattle.reached.specs.Reached.{after_call, after_all, empty}
use Rattle.reached.specs.Cloned.{free, clone, ClonedAlone, CloneOwnsNone}
use Rattle.reached.proofs.Stored.{owned_by_none}
use Rattle.reached.proofs.Reached.{reached}

module _ (t : Tables) (w : WellFormed t) (q : CloneRequest) (c : OneMore t.ike q) where
  -- a free place is all zero, and so is what lies past the end
  unnamed : (j : ℕ) → (get_or t.ipsec j no_ipsec).owner ≡ q.new_spi → ⊥
  unnamed j e = go (dec_lt j (length t.ipsec)) (ℕ_discrete (get_or t.ipsec j no_ipsec).spi 0)
    where
      owner_0 : get_or t.ipsec j no_ipsec ≡ no_ipsec → ⊥
      owner_0 z = c.early_passed.new_named (sym e ∙ ap (λ (r : IpsecRecord). r.owner) z)

      go : Dec (j < length t.ipsec) → Dec ((get_or t.ipsec j no_ipsec).spi ≡ 0) → ⊥
      go (no l) d = owner_0 (get_or-eq_default t.ipsec no_ipsec (omega arith))
      go (yes l) (yes z) = owner_0 (w.ipsecs.clear j l z)
      go (yes l) (no n) = owned_by_none t w q.new_spi c.fresh j l n e

  alone : ClonedAlone t q
  unfolding after_call
  alone =
      let p = free t q in
      let y = clone t q in
      let at = get_or-set_same t.ike p y no_ike c.room in
      record {
        room = c.room;
        stands = rw c.is at;
        found = rw (c.is, finds_opened ike_spi no_ike t.ike y c.room c.fresh) at;
        others = λ i n. rw c.is (get_or-set_other t.ike p i y no_ike n);
        owns_none = unnamed;
        same = refl;
      }

pub clone_owns_none : CloneOwnsNone
clone_owns_none cs typed q done =
    let t = after_all empty cs in
    ⊎_elim (λ n. absurd (n.refused done)) (alone t (reached cs typed) q) (clone_cases t.ike q)
