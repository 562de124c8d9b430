-- The arguments of an opening, a request, the response to a check and a clone request, as taken from the slots, are
-- those of the entry.
-- Assumes nothing.
use Prim.Native.Nat.{ℕ}
use mathlib.Core.Path.{◌≡◌, sym, ◌∙◌}
use mathlib.Core.Bool.{true}
use mathlib.Core.List.{List, ◌++◌}
use native.Mathlib.Omega.{arith}
use lib.ListN.{drop}
use lib.Seq.{get_or-drop}
use Rattle.octets.specs.Limits.{response_room}
use Rattle.fields.specs.Fields.{Field, bits, address, ◌then◌}
use Rattle.fields.specs.Slots.{value_in, fits_in}
use Rattle.entries.specs.Kinds.{fields_of}
use Rattle.entries.specs.declared.kind.Kind.TheVariants as kind
use Rattle.calling.specs.Calling.{pair_in, opening_in}
use Rattle.answering.specs.Core.{asked}
use Rattle.checking.specs.Checks.{request_of}
use Rattle.records.specs.Pending.{check_of}
use Rattle.routability.specs.Routability.{check_response}
use Rattle.cloning.specs.Clone.{clone_request}
use Rattle.acts.specs.Performed.{request_by, response_by, clone_by}
use Rattle.replays.specs.Calls.{pair_of, opening_of, request_from, response_from, clone_from}
use Rattle.replays.proofs.Taken.{lent, told, then_fits, number_taken, address_taken, string_taken}

-- a pair, and whatever follows it
abbrev pair_then : Field → Field
pair_then f = bits 8 then address then address then bits 16 then bits 16 then f

module _ (w behind slots : List ℕ) where
  abbrev from_two : List ℕ
  from_two = drop 1 (drop 1 slots)

  pair_taken : (f : Field) → fits_in (pair_then f) w from_two ≡ true
      → pair_in (w ++ behind) (lent slots) ≡ pair_of (value_in (pair_then f) w from_two)
  unfolding value_in
  pair_taken f h =
      let family = then_fits _ _ _ _ h in
      let source = then_fits _ _ _ _ family.1 in
      let destination = then_fits _ _ _ _ source.1 in
      let from-port = then_fits _ _ _ _ destination.1 in
      let to-port = then_fits _ _ _ _ from-port.1 in
      let given = lent slots in
      let p2 = number_taken w behind given _ 2 (simp get_or-drop (told slots 2)) 8 _ family.0 (omega arith) in
      let p3 = address_taken w behind given _ 3 (simp get_or-drop (told slots 3)) source.0 in
      let p4 = address_taken w behind given _ 4 (simp get_or-drop (told slots 4)) destination.0 in
      let p5 = number_taken w behind given _ 5 (simp get_or-drop (told slots 5)) 16 _ from-port.0 (omega arith) in
      let p6 = number_taken w behind given _ 6 (simp get_or-drop (told slots 6)) 16 _ to-port.0 (omega arith) in
      λ i. record { family = p2 i; source = p3 i; destination = p4 i; source_port = p5 i; destination_port = p6 i }

  pub opening_taken : fits_in (fields_of kind.OpenBoth) w slots ≡ true
      → opening_in (w ++ behind) (lent slots) ≡ opening_of (value_in (fields_of kind.OpenBoth) w slots)
  unfolding value_in
  opening_taken h =
      let spi = then_fits _ _ _ _ h in
      let agreed = then_fits _ _ _ _ spi.1 in
      let family = then_fits _ _ _ _ agreed.1 in
      let source = then_fits _ _ _ _ family.1 in
      let destination = then_fits _ _ _ _ source.1 in
      let from-port = then_fits _ _ _ _ destination.1 in
      let to-port = then_fits _ _ _ _ from-port.1 in
      let child = then_fits _ _ _ _ to-port.1 in
      let peer = then_fits _ _ _ _ child.1 in
      let cloning = then_fits _ _ _ _ peer.1 in
      let operator = then_fits _ _ _ _ cloning.1 in
      let given = lent slots in
      let p1 = number_taken w behind given _ 1 (simp get_or-drop (told slots 1)) 8 _ agreed.0 (omega arith) in
      let p7 = number_taken w behind given _ 7 (simp get_or-drop (told slots 7)) 32 _ child.0 (omega arith) in
      let p8 = number_taken w behind given _ 8 (simp get_or-drop (told slots 8)) 32 _ peer.0 (omega arith) in
      let p9 = number_taken w behind given _ 9 (simp get_or-drop (told slots 9)) 8 _ cloning.0 (omega arith) in
      let p10 = number_taken w behind given _ 10 (simp get_or-drop (told slots 10)) 8 _ operator.0 (omega arith) in
      let pair = pair_taken _ agreed.1 in
      λ i. record {
        spi = told slots 0 i;
        agreed = record { mobike = p1 i; cloning = p9 i; operator = p10 i; peer = p8 i };
        pair = pair i;
        child = p7 i;
      }

  pub request_taken : fits_in (fields_of kind.Request) w slots ≡ true
      → request_by (w ++ behind) (lent slots) response_room ≡ request_from (value_in (fields_of kind.Request) w slots)
  unfolding value_in
  request_taken h =
      let spi = then_fits _ _ _ _ h in
      let id = then_fits _ _ _ _ spi.1 in
      let family = then_fits _ _ _ _ id.1 in
      let source = then_fits _ _ _ _ family.1 in
      let destination = then_fits _ _ _ _ source.1 in
      let from-port = then_fits _ _ _ _ destination.1 in
      let to-port = then_fits _ _ _ _ from-port.1 in
      let nat-source = then_fits _ _ _ _ to-port.1 in
      let nat-destination = then_fits _ _ _ _ nat-source.1 in
      let first = then_fits _ _ _ _ nat-destination.1 in
      let body = then_fits _ _ _ _ first.1 in
      let cookie = then_fits _ _ _ _ body.1 in
      let check_id = then_fits _ _ _ _ cookie.1 in
      let operator = then_fits _ _ _ _ check_id.1 in
      let given = lent slots in
      let p1 = number_taken w behind given _ 1 (simp get_or-drop (told slots 1)) 32 _ id.0 (omega arith) in
      let pair = pair_taken _ id.1 in
      let p7 =
      string_taken w behind given _ 7 (simp get_or-drop (told slots 7)) (simp get_or-drop (told slots 8)) nat-source.0 in
      let p9 =
      string_taken w behind given _ 9 (simp get_or-drop (told slots 9)) (simp get_or-drop (told slots 10))
      nat-destination.0 in
      let p11 = number_taken w behind given _ 11 (simp get_or-drop (told slots 11)) 8 _ first.0 (omega arith) in
      let p12 =
      string_taken w behind given _ 12 (simp get_or-drop (told slots 12)) (simp get_or-drop (told slots 13)) body.0 in
      let p14 =
      string_taken w behind given _ 14 (simp get_or-drop (told slots 14)) (simp get_or-drop (told slots 15)) cookie.0 in
      let p16 = number_taken w behind given _ 16 (simp get_or-drop (told slots 16)) 32 _ check_id.0 (omega arith) in
      let p17 = number_taken w behind given _ 17 (simp get_or-drop (told slots 17)) 8 _ operator.0 (omega arith) in
      λ i. request_of (told slots 0 i)
      (asked (p1 i) (pair i) (p7 i) (p9 i) (p11 i) (p12 i) (check_of (p14 i) (p16 i))) response_room (p17 i)

  pub response_taken : fits_in (fields_of kind.CheckResponse) w slots ≡ true
      → response_by (w ++ behind) (lent slots) ≡ response_from (value_in (fields_of kind.CheckResponse) w slots)
  unfolding value_in
  response_taken h =
      let spi = then_fits _ _ _ _ h in
      let id = then_fits _ _ _ _ spi.1 in
      let first = then_fits _ _ _ _ id.1 in
      let body = then_fits _ _ _ _ first.1 in
      let operator = then_fits _ _ _ _ body.1 in
      let given = lent slots in
      let p1 = number_taken w behind given _ 1 (simp get_or-drop (told slots 1)) 32 _ id.0 (omega arith) in
      let p2 = number_taken w behind given _ 2 (simp get_or-drop (told slots 2)) 8 _ first.0 (omega arith) in
      let p3 =
      string_taken w behind given _ 3 (simp get_or-drop (told slots 3)) (simp get_or-drop (told slots 4)) body.0 in
      let p5 = number_taken w behind given _ 5 (simp get_or-drop (told slots 5)) 8 _ operator.0 (omega arith) in
      λ i. check_response (told slots 0 i) (p1 i) (p2 i) (p3 i) (p5 i)

  pub clone_taken : fits_in (fields_of kind.Clone) w slots ≡ true
      → clone_by (w ++ behind) (lent slots) response_room ≡ clone_from (value_in (fields_of kind.Clone) w slots)
  unfolding value_in
  clone_taken h =
      let spi = then_fits _ _ _ _ h in
      let new_spi = then_fits _ _ _ _ spi.1 in
      let first = then_fits _ _ _ _ new_spi.1 in
      let body = then_fits _ _ _ _ first.1 in
      let operator = then_fits _ _ _ _ body.1 in
      let given = lent slots in
      let p1 = told slots 1 ∙ sym (get_or-drop 1 slots 0 0) in
      let p2 = number_taken w behind given _ 2 (simp get_or-drop (told slots 2)) 8 _ first.0 (omega arith) in
      let p3 =
      string_taken w behind given _ 3 (simp get_or-drop (told slots 3)) (simp get_or-drop (told slots 4)) body.0 in
      let p5 = number_taken w behind given _ 5 (simp get_or-drop (told slots 5)) 8 _ operator.0 (omega arith) in
      λ i. clone_request (told slots 0 i) (p1 i) (p2 i) (p3 i) response_room (p5 i)
