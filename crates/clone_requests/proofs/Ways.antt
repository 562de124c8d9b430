-- The ways out of the whole writer.
use Prim.Native.Nat.{ℕ, ◌≤◌, ◌<◌}
use mathlib.Core.Path.{◌≡◌, sym}
use mathlib.Core.List.{List}
use mathlib.Core.Bool.{true, false}
use borrow.Author.Tests.{lt-ltb, le-ltb}
use lib.ListN.{length}
use Rattle.octets.specs.declared.number.Number.TheVariants.{BadArgument, OutputTooShort}
use Rattle.octets.specs.Limits.{request_room}
use Rattle.octets.specs.Numbers.{number_of}
use Rattle.writing.specs.Notify.{placed}
use Rattle.writing.proofs.Placed.{placed_none}
use Rattle.asking.specs.Draft.{Draft}
use Rattle.asking.specs.declared.ask.CloneAsk.{CloneAsk}
use Rattle.requests.specs.Written.{not_written, WrittenAs}
use Rattle.requests.specs.declared.request.Written.{Written}
use Rattle.clone_requests.specs.WrittenAny.{asks_clone, clone_alone, clone_number, asked_octets, clone_complete}
use Rattle.clone_requests.specs.WrittenAny.{clone_octets, written_clone, written_any, written_any_octets, WrittenAnyAs}

module _ (a : CloneAsk) (q : Draft) (out : List ℕ) (r : Written) where
  -- neither of the two is asked for: the request as ever
  pub as_ever : asks_clone a ≡ false → (end : List ℕ) → WrittenAs q out r end → WrittenAnyAs a q out r end
  unfolding written_any written_any_octets
  as_ever n end w = record { is = rw n w.is; octets = rw n w.octets }

  module _ (asks : asks_clone a ≡ true) where
    pub not_alone : clone_alone a q.ask (length q.cookie) ≡ false → r ≡ not_written (number_of BadArgument)
        → WrittenAnyAs a q out r out
    unfolding clone_number written_clone clone_octets written_any written_any_octets
    not_alone f e = record { is = rw (asks, f) e; octets = rw (asks, f) (sym (placed_none out 0)) }

    module _ (alone : clone_alone a q.ask (length q.cookie) ≡ true) where
      pub no_room : length out < request_room → r ≡ not_written (number_of OutputTooShort) → WrittenAnyAs a q out r out
      unfolding clone_number written_clone clone_octets written_any written_any_octets
      no_room l e =
          record {
            is = rw (asks, alone, lt-ltb (length out) request_room l) e;
            octets = rw (asks, alone, lt-ltb (length out) request_room l) (sym (placed_none out 0));
          }

      pub done : request_room ≤ length out → (end : List ℕ) → r ≡ clone_complete a
          → end ≡ placed out 0 (asked_octets a) → WrittenAnyAs a q out r end
      unfolding clone_number written_clone clone_octets written_any written_any_octets
      done l end e o =
          record {
            is = rw (asks, alone, le-ltb (length out) request_room l) e;
            octets = rw (asks, alone, le-ltb (length out) request_room l) o;
          }
