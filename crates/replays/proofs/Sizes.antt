-- No call changes how many places the tables have. Assumes nothing.
use Prim.Native.Nat.{ℕ}
use mathlib.Core.Path.{◌≡◌, refl}
use mathlib.Core.Bool.{Bool, true, false}
use mathlib.Core.Logic.{⊎_elim}
use lib.Dec.{eqb}
use lib.ListN.{length, length-set, length-map, length-replicate}
use Rattle.octets.specs.Limits.{ike_places, ipsec_places}
use Rattle.records.specs.Records.{no_ike, no_ipsec}
use Rattle.tables.specs.Calls.{has_ike}
use Rattle.tables.specs.declared.calls.Opening.{Opening}
use Rattle.tables.specs.Calls.{open_both, open_ipsec, close_ike, close_ipsec, mark_deletion}
use Rattle.tables.specs.Tables.{meant}
use Rattle.tables.proofs.Cases.{both_or_neither, open_ipsec_cases, close_ike_cases, close_ipsec_cases}
use Rattle.tables.proofs.Cases.{mark_deletion_cases}
use Rattle.checking.specs.Checks.{Request}
use Rattle.responder.specs.Handle.{early_number, handled}
use Rattle.initiator.specs.Response.{outcome_number, no_outcome}
use Rattle.initiator.specs.declared.response.Assessment.{Assessment}
use Rattle.initiator.specs.declared.response.Outcome.TheVariants.{Close, Accepted}
use Rattle.routability.specs.Routability.{CheckResponse, check_told, checked}
use Rattle.cloning.specs.Clone.{CloneRequest, cloned}
use Rattle.cloning.proofs.Cloned.{clone_cases}
use Rattle.fields.specs.Fields.{Value}
use Rattle.entries.specs.Kinds.{fields_of}
use Rattle.entries.specs.declared.kind.Kind.{Kind}
use Rattle.entries.specs.declared.kind.Kind.TheVariants as kind
use Rattle.acts.specs.Performed.{Gateway, gateway}
use Rattle.replays.specs.Calls.{opening_of, request_from, response_from, clone_from, called_as, empty}

pub record Sized (g : Gateway) : Type 0 where
  pub ikes : length g.ike ≡ ike_places
  pub ipsecs : length g.ipsec ≡ ipsec_places

pub empty_sized : Sized empty
empty_sized = record { ikes = length-replicate ike_places no_ike; ipsecs = length-replicate ipsec_places no_ipsec }

-- ---- each call, by what it can come to
opened : (g : Gateway) (o : Opening) → Sized g
    → let a = open_both g.ike g.ipsec o in Sized (gateway a.ike a.ipsec g.policies)
opened g o h =
    ⊎_elim (λ m. record { ikes = rw (m.is, length-set) h.ikes; ipsecs = rw (m.is, length-set) h.ipsecs })
    (λ m. record { ikes = rw m.same h.ikes; ipsecs = rw m.child_same h.ipsecs })
    (both_or_neither g.ike g.ipsec o)

added : (g : Gateway) (spi owner operator : ℕ) → Sized g
    → Sized (gateway g.ike (open_ipsec g.ike g.ipsec spi owner operator).ipsec g.policies)
added g spi owner operator h =
    ⊎_elim (λ e. record { ikes = h.ikes; ipsecs = rw e h.ipsecs })
    (λ m. record { ikes = h.ikes; ipsecs = rw (m.is, length-set) h.ipsecs })
    (open_ipsec_cases g.ike g.ipsec spi owner operator)

closed : (g : Gateway) (spi operator : ℕ) → Sized g
    → let a = close_ike g.ike g.ipsec spi operator in Sized (gateway a.ike a.ipsec g.policies)
closed g spi operator h =
    ⊎_elim (λ e. record { ikes = rw e.0 h.ikes; ipsecs = rw e.1 h.ipsecs })
    (λ m. record { ikes = rw (m.is, length-set) h.ikes; ipsecs = rw (m.is, length-map) h.ipsecs })
    (close_ike_cases g.ike g.ipsec spi operator)

child_closed : (g : Gateway) (spi operator : ℕ) → Sized g
    → Sized (gateway g.ike (close_ipsec g.ike g.ipsec spi operator).ipsec g.policies)
child_closed g spi operator h =
    ⊎_elim (λ e. record { ikes = h.ikes; ipsecs = rw e h.ipsecs })
    (λ m. record { ikes = h.ikes; ipsecs = rw (m.is, length-set) h.ipsecs })
    (close_ipsec_cases g.ike g.ipsec spi operator)

answered : (g : Gateway) (q : Request) → Sized g
    → let a = handled g.policies g.ike g.ipsec q in Sized (gateway a.ike g.ipsec g.policies)
unfolding handled
answered g q h = go (eqb (early_number g.ike g.ipsec q) 0) refl
  where
    go : (b : Bool) → eqb (early_number g.ike g.ipsec q) 0 ≡ b
        → let a = handled g.policies g.ike g.ipsec q in Sized (gateway a.ike g.ipsec g.policies)
    go true e = rw e (record { ikes = rw length-set h.ikes; ipsecs = h.ipsecs })
    go false e = rw e (record { ikes = h.ikes; ipsecs = h.ipsecs })

-- by what the response comes to: refused, close, accepted, an error
module _ (g : Gateway) (q : CheckResponse) (h : Sized g) where
  abbrev told : Assessment
  told = check_told (length g.ipsec) (has_ike q.spi g.ike) (meant g.ike q.spi) q

  abbrev Left : Type 0
  Left = let a = checked g.ike g.ipsec q in Sized (gateway a.ike a.ipsec g.policies)

  responded : Left
  unfolding checked
  responded =
      go (eqb told.outcome no_outcome) refl (eqb told.outcome (outcome_number Close)) refl
      (eqb told.outcome (outcome_number Accepted)) refl
    where
      go : (x : Bool) → eqb told.outcome no_outcome ≡ x → (y : Bool)
          → eqb told.outcome (outcome_number Close) ≡ y → (z : Bool)
          → eqb told.outcome (outcome_number Accepted) ≡ z → Left
      go true e y f z k = rw e (record { ikes = h.ikes; ipsecs = h.ipsecs })
      go false e true f z k =
          rw (e, f) (record { ikes = rw length-set h.ikes; ipsecs = rw length-map h.ipsecs })
      go false e false f true k =
          rw (e, f, k) (record { ikes = rw length-set h.ikes; ipsecs = rw length-map h.ipsecs })
      go false e false f false k = rw (e, f, k) (record { ikes = rw length-set h.ikes; ipsecs = h.ipsecs })

-- a clone is stored, a record is marked, or the table stays
cloned_sized : (g : Gateway) (q : CloneRequest) → Sized g
    → Sized (gateway (cloned g.ike q).ike g.ipsec g.policies)
cloned_sized g q h =
    ⊎_elim (λ m. record { ikes = rw m.same h.ikes; ipsecs = h.ipsecs })
    (λ m. record { ikes = rw (m.is, length-set) h.ikes; ipsecs = h.ipsecs })
    (clone_cases g.ike q)

marked_sized : (g : Gateway) (spi operator : ℕ) → Sized g
    → Sized (gateway (mark_deletion g.ike spi operator).ike g.ipsec g.policies)
marked_sized g spi operator h =
    ⊎_elim (λ e. record { ikes = rw e h.ikes; ipsecs = h.ipsecs })
    (λ m. record { ikes = rw (m.is, length-set) h.ikes; ipsecs = h.ipsecs })
    (mark_deletion_cases g.ike spi operator)

pub called_sized : (k : Kind) (v : Value (fields_of k)) (g : Gateway) → Sized g → Sized (called_as k v g).after
called_sized kind.OpenBoth v g h = opened g (opening_of v) h
called_sized kind.AddIpsec v g h = added g v.0 v.1.0 v.1.1.0 h
called_sized kind.CloseIke v g h = closed g v.0 v.1.0 h
called_sized kind.CloseIpsec v g h = child_closed g v.0 v.1.0 h
called_sized kind.Request v g h = answered g (request_from v) h
called_sized kind.Policy v g h = record { ikes = h.ikes; ipsecs = h.ipsecs }
called_sized kind.CheckResponse v g h = responded g (response_from v) h
called_sized kind.Clone v g h = cloned_sized g (clone_from v) h
called_sized kind.MarkDeletion v g h = marked_sized g v.0 v.1.0 h
