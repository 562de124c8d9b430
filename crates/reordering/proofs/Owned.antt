-- The IPsec records of an IKE SA for which there are requests alone stay as they are: a request changes none, and a
-- check response only those of its own SPI.
use Prim.Native.Nat.{ℕ}
use mathlib.Core.Path.{◌≡◌, refl, sym, ap, ◌∙◌}
use mathlib.Core.List.{List, [], ◌∷◌}
use lib.ListN.{get_or}
use Rattle.order.specs.Order.{All, after}
use Rattle.policy.specs.declared.rules.Policy.{Policy}
use Rattle.records.specs.Records.{no_ipsec}
use Rattle.records.specs.declared.ipsec.IpsecRecord.{IpsecRecord}
use Rattle.tables.specs.Tables.{Tables}
use Rattle.tables.specs.View.{view}
use Rattle.views.proofs.View.{child_beside}
use Rattle.responder.specs.Handle.{after_request}
use Rattle.reordering.specs.Events.{Event, request, response, after_event}
use Rattle.reordering.proofs.Responses.{does, step_is}

module _ (policies : List Policy) (k j : ℕ) where
  abbrev record_at_lem : Tables → IpsecRecord
  record_at_lem t = get_or t.ipsec j no_ipsec

  -- no check response for k
  abbrev pub Quiet : Event → Type 0
  Quiet (request q) = Unit {0}
  Quiet (response q) = q.spi ≡ k → ⊥

  one_kept : (x : Event) → Quiet x → (t : Tables) → (record_at_lem t).owner ≡ k
      → record_at_lem (after_event policies x t) ≡ record_at_lem t
  unfolding after_request
  one_kept (request q) n t o = refl
  one_kept (response q) n t o =
      ap record_at_lem (step_is q t)
      ∙ child_beside q.spi (does q (view q.spi t)) t j (λ e. n (sym e ∙ o))

  pub owned_kept : (xs : List Event) → All Quiet xs → (t : Tables) → (record_at_lem t).owner ≡ k
      → record_at_lem (after (after_event policies) t xs) ≡ record_at_lem t
  owned_kept [] a t o = refl
  owned_kept (x ∷ xs) a t o =
      let same = one_kept x a.0 t o in
      owned_kept xs a.1 (after_event policies x t) (ap (λ (r : IpsecRecord). r.owner) same ∙ o) ∙ same
