-- Trusted. 01's rows a to j, and its two whole octet strings, as one table of requests with what each must give
-- ("The rows a to j form a single table, checked by one theorem about the definitions"); 02, E4: "rows b, d and e now
-- give 61, 65 and 63"; E9: for either operator, where the other's policy says the opposite.
--   Given, Result, Row      what is given, what must come of it, and both
--   holds_for                whether the definitions give that to an operator; row_holds: to both
--   a to j, whole           the rows by their letters, and "Row c with a cookie, whole"
--   rows                    the table
use Rattle.std.specs.Prelude.{ℕ, ◌+◌, ◌-◌, List, [], ◌∷◌, ◌++◌, Bool, true, false, ◌&&◌, not, eqb, length, get_or, replicate, set}
use Rattle.octets.specs.declared.number.Number.{Number}
use Rattle.octets.specs.declared.number.Number.TheVariants as told
use Rattle.octets.specs.Limits.{address_octets, cookie_least, ipsec_places, nat_octets, notify_header, response_room}
use Rattle.octets.specs.Limits.{rules_most, operators}
use Rattle.octets.specs.Numbers.{number_of}
use Rattle.octets.specs.Wire.{notify_payload}
use Rattle.octets.specs.Octets.{padded}
use Rattle.address.specs.declared.pair.Pair.{Pair}
use Rattle.policy.specs.Policy.{no_rule}
use Rattle.policy.specs.declared.rules.Rule.{Rule}
use Rattle.policy.specs.declared.rules.Policy.{Policy}
use Rattle.records.specs.Pending.{no_check, check_of}
use Rattle.records.specs.Records.{new_ike, no_ike, no_ipsec, remarked}
use Rattle.records.specs.declared.ike.Agreed.{Agreed}
use Rattle.records.specs.declared.ike.IkeRecord.{IkeRecord}
use Rattle.records.specs.declared.ike.Marks.{Marks}
use Rattle.deciding.specs.Decide.{effect_number}
use Rattle.deciding.specs.declared.decide.Effect.{Effect}
use Rattle.deciding.specs.declared.decide.Effect.TheVariants.{None, Done, Stale}
use Rattle.answering.specs.Core.{asked}
use Rattle.checking.specs.Checks.{Request, request_of}
use Rattle.responder.specs.Handle.{handled, handled_response}

abbrev same_list : List ℕ → List ℕ → Bool
same_list [] [] = true
same_list [] (y ∷ ys) = false
same_list (x ∷ xs) [] = false
same_list (x ∷ xs) (y ∷ ys) = eqb x y && same_list xs ys

-- a packet's pair, and a policy that accepts every IPv4 pair, or none
abbrev pair : Pair
pair =
    record {
      family = 4;
      source = padded (10 ∷ 0 ∷ 0 ∷ 1 ∷ []);
      destination = padded (10 ∷ 0 ∷ 0 ∷ 2 ∷ []);
      source_port = 4500;
      destination_port = 4500;
    }

abbrev every : Rule
every =
    record {
      family = 4;
      source = replicate address_octets 0;
      destination = replicate address_octets 0;
      source_len = 0;
      destination_len = 0;
    }

abbrev accepting : Bool → Policy
accepting true = record { count = 1; rules = every ∷ replicate (rules_most - 1) no_rule }
accepting false = record { count = 0; rules = replicate rules_most no_rule }

-- E9: "Policies ... are per operator": the operator's accepts the pair or not, and the other's does the opposite
abbrev policies_for : ℕ → Bool → List Policy
policies_for operator accepted = set (replicate operators (accepting (not accepted))) operator (accepting accepted)

-- What is given: the chain, the ID, the record's update mark as it is kept (0 for none), whether the pair is
-- acceptable.
pub record Given : Type 0 where
  pub first : ℕ
  pub body : List ℕ
  pub id : ℕ
  pub mark : ℕ
  pub accepted : Bool

-- What must come of it: of the reply the number, the offset, the ordinal, the payloads and what became of the update
-- (none, applied or stale); the record's tally; the response.
pub record Result : Type 0 where
  pub number : ℕ
  pub offset : ℕ
  pub ordinal : ℕ
  pub payloads : ℕ
  pub update : ℕ
  pub tally : ℕ
  pub response : List ℕ

pub record Row : Type 0 where
  pub given : Given
  pub result : Result

abbrev agreed : ℕ → Agreed
agreed operator = record { mobike = 1; cloning = 0; operator = operator; peer = 0 }

-- an operator's record of SPI 7 for which MOBIKE was agreed, with this mark
abbrev record_with : ℕ → ℕ → IkeRecord
record_with operator mark =
    let marks : Marks = record { agreed = agreed operator; update_mark = mark; list_mark = 0; unknown = 0 } in
    remarked marks false pair no_check (new_ike 7 (agreed operator) pair)

-- that operator's request for that record, with a cookie of ours that passes check 1 (02, E6)
abbrev asks_for : ℕ → Given → Request
asks_for operator g =
    let check = check_of (replicate cookie_least 3) 1 in
    let asks = asked g.id pair (replicate nat_octets 1) (replicate nat_octets 2) g.first g.body check in
    request_of 7 asks response_room operator

unfoldable pub holds_for : ℕ → Row → Bool
holds_for operator r =
    let g = r.given in
    let must = r.result in
    let q = asks_for operator g in
    let policies = policies_for operator g.accepted in
    let ike = record_with operator g.mark ∷ [] in
    let ipsec = replicate ipsec_places no_ipsec in
    let h = handled policies ike ipsec q in
    let octets = handled_response policies ike ipsec q in
    eqb h.reply.number must.number
    && (eqb h.reply.offset must.offset
    && (eqb h.reply.ordinal must.ordinal
    && (eqb h.reply.payloads must.payloads
    && (eqb h.reply.update must.update
    && (eqb (get_or h.ike 0 no_ike).unknown must.tally
    && (eqb h.reply.length (length octets)
    && same_list octets must.response))))))

-- "operator A (0) or B (1)"
unfoldable pub row_holds : Row → Bool
row_holds r = holds_for 0 r && holds_for 1 r

abbrev update : List ℕ
update = 0 ∷ 0 ∷ 0 ∷ 8 ∷ 0 ∷ 0 ∷ 0x40 ∷ 0x10 ∷ []

-- a COOKIE2 of n octets as the only payload
abbrev cookie : ℕ → List ℕ
cookie n = 0 ∷ 0 ∷ 0 ∷ (notify_header + n) ∷ 0 ∷ 0 ∷ 0x40 ∷ 0x11 ∷ replicate n 9

abbrev invalid_syntax : List ℕ
invalid_syntax = 0 ∷ 0 ∷ 0 ∷ 8 ∷ 0 ∷ 0 ∷ 0 ∷ 7 ∷ []

abbrev eight : List ℕ
eight = 1 ∷ 2 ∷ 3 ∷ 4 ∷ 5 ∷ 6 ∷ 7 ∷ 8 ∷ []

-- a chain in a request with ID 0 for a record without a mark, from an acceptable pair
abbrev chain : ℕ → List ℕ → Given
chain first body = record { first = first; body = body; id = 0; mark = 0; accepted = true }

-- done with so many payloads, and what became of the update; malformed, with its number, at an offset, with an ordinal
abbrev done : ℕ → Effect → Result
done payloads update =
    record {
      number = number_of told.Done;
      offset = 0;
      ordinal = 0;
      payloads = payloads;
      update = effect_number update;
      tally = 0;
      response = [];
    }

abbrev malformed : Number → ℕ → ℕ → Result
malformed number offset ordinal =
    record {
      number = number_of number;
      offset = offset;
      ordinal = ordinal;
      payloads = 0;
      update = effect_number None;
      tally = 0;
      response = invalid_syntax;
    }

-- "type 0, no body": "0, empty response, 0 payloads"
abbrev a : Row
a = record { given = chain 0 []; result = done 0 None }

-- "type 41, no body": "6 at 0", now 61
abbrev b : Row
b = record { given = chain notify_payload []; result = malformed told.BadChainLength 0 0 }

-- "type 41, `00 00 00 08 00 00 40 10`": "one update"
abbrev c : Row
c = record { given = chain notify_payload update; result = done 1 Done }

-- "as c, then `FF`": "6 at 8", now 65, after one payload
abbrev d : Row
d = record { given = chain notify_payload (update ++ (0xFF ∷ [])); result = malformed told.OctetsAfterEnd 8 1 }

-- "COOKIE2 of 7 octets": "6", now 63
abbrev e : Row
e = record { given = chain notify_payload (cookie 7); result = malformed told.BadDataSize 0 0 }

-- "COOKIE2 of 64 octets": "copied"
abbrev f : Row
f =
    record {
      given = chain notify_payload (cookie 64);
      result =
          record {
            number = number_of told.Done;
            offset = 0;
            ordinal = 0;
            payloads = 1;
            update = effect_number None;
            tally = 0;
            response = cookie 64;
          };
    }

-- "type 200 critical, `00 80 00 04`": "7 at 0"
abbrev g : Row
g =
    record {
      given = chain 200 (0 ∷ 0x80 ∷ 0 ∷ 4 ∷ []);
      result =
          record {
            number = number_of told.UnknownCritical;
            offset = 0;
            ordinal = 0;
            payloads = 0;
            update = effect_number None;
            tally = 0;
            response = 0 ∷ 0 ∷ 0 ∷ 9 ∷ 0 ∷ 0 ∷ 0 ∷ 1 ∷ 200 ∷ [];
          };
    }

-- "type 200, `00 00 00 04`": "0, tally 1"
abbrev h : Row
h =
    record {
      given = chain 200 (0 ∷ 0 ∷ 0 ∷ 4 ∷ []);
      result =
          record {
            number = number_of told.Done;
            offset = 0;
            ordinal = 0;
            payloads = 1;
            update = effect_number None;
            tally = 1;
            response = [];
          };
    }

-- "update, ID 0, mark none, acceptable": "applied"
abbrev i : Row
i =
    record {
      given = record { first = notify_payload; body = update; id = 0; mark = 0; accepted = true };
      result = done 1 Done;
    }

-- "update, ID 5, mark 5": "stale"; a mark of 5 is kept as 6, the least ID that exceeds it
abbrev j : Row
j =
    record {
      given = record { first = notify_payload; body = update; id = 5; mark = 6; accepted = true };
      result = done 1 Stale;
    }

-- "Row c with a cookie, whole", and "The response if unacceptable"
abbrev whole : Row
whole =
    record {
      given =
          record {
            first = notify_payload;
            body = 0x29 ∷ 0 ∷ 0 ∷ 8 ∷ 0 ∷ 0 ∷ 0x40 ∷ 0x10 ∷ 0 ∷ 0 ∷ 0 ∷ 0x10 ∷ 0 ∷ 0 ∷ 0x40 ∷ 0x11 ∷ eight;
            id = 0;
            mark = 0;
            accepted = false;
          };
      result =
          record {
            number = number_of told.NotAcceptable;
            offset = 0;
            ordinal = 0;
            payloads = 2;
            update = effect_number None;
            tally = 0;
            response = 0x29 ∷ 0 ∷ 0 ∷ 8 ∷ 0 ∷ 0 ∷ 0 ∷ 0x28 ∷ 0 ∷ 0 ∷ 0 ∷ 0x10 ∷ 0 ∷ 0 ∷ 0x40 ∷ 0x11 ∷ eight;
          };
    }

abbrev pub rows : List Row
rows = a ∷ b ∷ c ∷ d ∷ e ∷ f ∷ g ∷ h ∷ i ∷ j ∷ whole ∷ []
