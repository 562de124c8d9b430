-- Trusted. What is claimed of an opening in tables that calls reach: closing leaves no trace of it.
--   ClosingUndoes           that claim
use Rattle.std.specs.Prelude.{◌≡◌, List}
use Rattle.order.specs.Order.{All}
use Rattle.tables.specs.Calls.{tables_answer, open_both, close_ike}
use Rattle.tables.specs.declared.calls.Opening.{Opening}
use Rattle.reached.specs.Reached.{Call, Typed, after_all, empty}

-- In tables that calls reach from empty ones, closing what was just opened, by the operator that it was opened for,
-- gives them back.
abbrev pub ClosingUndoes : Type 0
ClosingUndoes =
    (cs : List Call) → All Typed cs → (o : Opening)
    → let t = after_all empty cs in
    let r = open_both t.ike t.ipsec o in
    r.number ≡ 0 → close_ike r.ike r.ipsec o.spi o.agreed.operator ≡ tables_answer 0 t.ike t.ipsec
