-- Inner. One request that passed checks 1 to 5, by what was looked up for it, as the code receives it. `handles` in
-- `proofs/Looked.antt` shows that those checks and the core's answer, with the tables' change around them, are `handled`
-- of `Handle`; `asked_alike` in `proofs/Received.antt`, that the policy is asked wherever its word counts.
use Rattle.std.specs.Prelude.{ℕ, Bool, ◌&&◌, nat_le}
use Rattle.findings.specs.declared.seen.Seen.{Seen}
use Rattle.reader.specs.Chain.{reading}
use Rattle.records.specs.declared.ike.Marks.{Marks}
use Rattle.checking.specs.Checks.{Request}
use Rattle.checking.specs.declared.lookup.Looked.{Looked}
use Rattle.responder.specs.declared.receive.Received.{Received}

-- whether the policy has to be asked: only of an update that is not stale
abbrev pub asks_policy : Seen → ℕ → Marks → Bool
asks_policy s id m = s.update && nat_le m.update_mark id

-- what is received
abbrev pub received_at : Looked → Request → Received
received_at l q =
    let r = reading q.asks.first q.asks.body in
    record { asks = asks_policy r.seen q.asks.id l.marks; read = r }
