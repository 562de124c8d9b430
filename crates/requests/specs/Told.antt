-- Inner. What a host is told of a write that was done or refused, for the contracts of the writer.
--
--   told_as   the number, the type of the first payload, the octets written
use Rattle.std.specs.Prelude.{Result, Ok, Err}
use Rattle.octets.specs.Numbers.{number_of}
use Rattle.octets.specs.declared.number.Number.{Number}
use Rattle.requests.specs.Written.{not_written}
use Rattle.requests.specs.declared.request.Chain.{Chain}
use Rattle.requests.specs.declared.request.Written.{Written}

abbrev pub told_as : Result Chain Number → Written
told_as (Ok c) = record { number = 0; first = c.first; length = c.length }
told_as (Err n) = not_written (number_of n)
