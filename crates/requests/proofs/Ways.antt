-- The three ways out of the writer.
use Prim.Native.Nat.{ℕ, ◌≤◌, ◌<◌}
use mathlib.Core.Path.{◌≡◌, sym}
use mathlib.Core.List.{List}
use mathlib.Core.Bool.{true, false}
use borrow.Author.Tests.{lt-ltb, le-ltb}
use lib.ListN.{length}
use Rattle.octets.specs.declared.number.Number.TheVariants.{BadArgument, OutputTooShort}
use Rattle.octets.specs.Limits.{request_room}
use Rattle.octets.specs.Numbers.{number_of}
use Rattle.writing.specs.Notify.{placed}
use Rattle.writing.proofs.Placed.{placed_none}
use Rattle.asking.specs.Draft.{Draft, request_octets}
use Rattle.asking.specs.Fits.{request_fits}
use Rattle.requests.specs.Written.{write_number, written_octets, complete, not_written, written, WrittenAs}
use Rattle.requests.specs.declared.request.Written.{Written}

module _ (q : Draft) (out : List ℕ) (r : Written) where
  pub unfit : request_fits q ≡ false → r ≡ not_written (number_of BadArgument) → WrittenAs q out r out
  unfolding write_number written written_octets
  unfit f e = record { is = rw f e; octets = rw f (sym (placed_none out 0)) }

  module _ (fits : request_fits q ≡ true) where
    pub no_room : length out < request_room → r ≡ not_written (number_of OutputTooShort) → WrittenAs q out r out
    unfolding write_number written written_octets
    no_room l e =
        record {
          is = rw (fits, lt-ltb (length out) request_room l) e;
          octets = rw (fits, lt-ltb (length out) request_room l) (sym (placed_none out 0));
        }

    pub done : request_room ≤ length out → (end : List ℕ) → r ≡ complete q → end ≡ placed out 0 (request_octets q)
        → WrittenAs q out r end
    unfolding write_number written written_octets
    done l end e o =
        record {
          is = rw (fits, le-ltb (length out) request_room l) e;
          octets = rw (fits, le-ltb (length out) request_room l) o;
        }
