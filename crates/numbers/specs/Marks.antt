-- Trusted. Marks and pairs over lists of requests: a record's update mark never falls, and its pair moves only with an
-- update whose ID exceeds the mark.
--   record_at                the record at a place
--   Moves                   a request moves this record
--   MarkKept, MarksKept     one request, at a place; every request, at every place
--   Sent, taken             a request with the policies of its time, and the tables after it
--   NeverLate, NoneLate     a list of requests, at a place; every list, at every place
use Rattle.std.specs.Prelude.{ℕ, ◌≤◌, ◌≡◌, ◌⊎◌, List, true, get_or}
use Rattle.octets.specs.Lists.{place_of}
use Rattle.order.specs.Order.{after}
use Rattle.policy.specs.declared.rules.Policy.{Policy}
use Rattle.records.specs.Records.{ike_spi, no_ike}
use Rattle.tables.specs.Tables.{Tables}
use Rattle.records.specs.declared.ike.IkeRecord.{IkeRecord}
use Rattle.checking.specs.Checks.{Request}
use Rattle.responder.specs.Handle.{seen_in, after_request}
use Rattle.numbers.specs.Numbers.{Some}

abbrev pub record_at : ℕ → Tables → IkeRecord
record_at i t = get_or t.ike i no_ike

-- A request that moves a record: it gives the record's SPI, names its operator (02, E9: "A call for one operator finds
-- only its own records"), and carries an update. 01: "if the ID doesn't exceed the update mark, the update is stale",
-- where a mark is kept as the least ID that exceeds it; "Otherwise the IKE record ... take[s] the packet's pair".
pub record Moves (old new : IkeRecord) (q : Request) : Type 0 where
  pub spi : old.spi ≡ q.spi
  pub own : old.agreed.operator ≡ q.operator
  pub update : (seen_in q).update ≡ true
  pub newer : old.update_mark ≤ q.asks.id
  pub pair : new.pair ≡ q.asks.pair

-- One request, at every place: the record stays its operator's; the mark rises or stays; the pair stays, or this is the
-- place meant and the request moves it.
module _ (policies : List Policy) (t : Tables) (q : Request) (i : ℕ) where
  abbrev pub old : IkeRecord
  old = record_at i t

  abbrev pub new : IkeRecord
  new = record_at i (after_request policies q t)

  pub record MarkKept : Type 0 where
    pub spi : new.spi ≡ old.spi
    pub operator : new.agreed.operator ≡ old.agreed.operator
    pub rises : old.update_mark ≤ new.update_mark
    pub moved : (new.pair ≡ old.pair) ⊎ ((i ≡ place_of ike_spi q.spi t.ike) × Moves old new q)

abbrev pub MarksKept : Type 0
MarksKept = (policies : List Policy) (t : Tables) (q : Request) (i : ℕ) → MarkKept policies t q i

-- A request with the policies of its time.
pub record Sent : Type 0 where
  pub policies : List Policy
  pub request : Request

abbrev pub taken : Sent → Tables → Tables
taken x t = after_request x.policies x.request t

-- Any list of requests: the mark never falls, and a pair that is another at the end is that of a request whose ID
-- exceeds the mark that the record began with. So, from the tables that an update left, no late one overwrites it.
module _ (t : Tables) (xs : List Sent) (i : ℕ) where
  abbrev pub last : IkeRecord
  last = record_at i (after taken t xs)

  pub record NeverLate : Type 0 where
    pub rises : (record_at i t).update_mark ≤ last.update_mark
    pub moved : (last.pair ≡ (record_at i t).pair) ⊎ Some (λ (x : Sent). Moves (record_at i t) last x.request) xs

abbrev pub NoneLate : Type 0
NoneLate = (t : Tables) (xs : List Sent) (i : ℕ) → NeverLate t xs i
