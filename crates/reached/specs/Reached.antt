-- Trusted. Tables reached from empty ones by the calls that write tables (01: "tables not reached from empty ones").
--   empty                   both tables with no record
--   Call                    a call that writes tables, with its arguments
--   after_call, after_all     the tables after a call, and after a list of them
--   LentWith, Typed         what the types of the arguments fix
--   StaysWellFormed, Reached      what is claimed: of well-formed tables, and of empty ones
use Rattle.std.specs.Prelude.{ℕ, ◌<◌, ◌≡◌, List, [], ◌∷◌, replicate}
use Rattle.octets.specs.Limits.{ike_places, ipsec_places}
use Rattle.order.specs.Order.{All}
use Rattle.policy.specs.declared.rules.Policy.{Policy}
use Rattle.records.specs.Pending.{check_of}
use Rattle.records.specs.Records.{no_ike, no_ipsec}
use Rattle.tables.specs.Calls.{open_both, open_ipsec, close_ike, close_ipsec, mark_deletion}
use Rattle.tables.specs.Tables.{Tables, tables}
use Rattle.tables.specs.declared.calls.Opening.{Opening}
use Rattle.checking.specs.Checks.{Request}
use Rattle.responder.specs.Handle.{after_request}
use Rattle.routability.specs.Routability.{CheckResponse, after_response}
use Rattle.cloning.specs.Clone.{CloneRequest, after_clone}
use Rattle.reached.specs.WellFormed.{message_ids, peer_numbers, WellFormed}

abbrev pub empty : Tables
empty = tables (replicate ike_places no_ike) (replicate ipsec_places no_ipsec)

-- Each call that writes tables, with its arguments; a request comes with the policies of its time. 02, E9: "Each ...
-- table call names operator A (0) or B (1)", an opening of both in what is agreed.
pub data Call : Type 0 where
  opens_both : Opening → Call
  opens_ipsec : ℕ → ℕ → ℕ → Call
  closes_ike : ℕ → ℕ → Call
  closes_ipsec : ℕ → ℕ → Call
  requests : List Policy → Request → Call
  checks : CheckResponse → Call
  clones : CloneRequest → Call
  marks_deletion : ℕ → ℕ → Call

-- the tables after a call, whatever number it gives
unfoldable pub after_call : Tables → Call → Tables
after_call t (opens_both o) =
    let r = open_both t.ike t.ipsec o in
    tables r.ike r.ipsec
after_call t (opens_ipsec spi owner operator) =
    tables t.ike (open_ipsec t.ike t.ipsec spi owner operator).ipsec
after_call t (closes_ike spi operator) =
    let r = close_ike t.ike t.ipsec spi operator in
    tables r.ike r.ipsec
after_call t (closes_ipsec spi operator) = tables t.ike (close_ipsec t.ike t.ipsec spi operator).ipsec
after_call t (requests policies q) = after_request policies q t
after_call t (checks q) = after_response q t
after_call t (clones q) = tables (after_clone q t.ike) t.ipsec
after_call t (marks_deletion spi operator) = tables (mark_deletion t.ike spi operator).ike t.ipsec

unfoldable pub after_all : Tables → List Call → Tables
unfolding after_call
after_all t [] = t
after_all t (c ∷ cs) = after_all (after_call t c) cs

-- A request's check is that of a cookie and of an ID of 32 bits, which the exported call takes.
pub record LentWith (q : Request) : Type 0 where
  pub id : q.asks.id < message_ids
  pub cookie : List ℕ
  pub check_id : ℕ
  pub check_id_fits : check_id < message_ids
  pub check : q.asks.check ≡ check_of cookie check_id

-- What the types of the exported arguments fix: a message ID and a peer number have 32 bits. Any number may be named as
-- the operator: one that is none is refused.
abbrev pub Typed : Call → Type 0
Typed (opens_both o) = o.agreed.peer < peer_numbers
Typed (opens_ipsec spi owner operator) = Unit {0}
Typed (closes_ike spi operator) = Unit {0}
Typed (closes_ipsec spi operator) = Unit {0}
Typed (requests policies q) = LentWith q
Typed (checks q) = Unit {0}
Typed (clones q) = Unit {0}
Typed (marks_deletion spi operator) = Unit {0}

-- Whatever calls are made on well-formed tables, and so on empty ones.
abbrev pub StaysWellFormed : Type 0
StaysWellFormed = (t : Tables) → WellFormed t → (cs : List Call) → All Typed cs → WellFormed (after_all t cs)

abbrev pub Reached : Type 0
Reached = (cs : List Call) → All Typed cs → WellFormed (after_all empty cs)
