-- Trusted. What of an entry's call is printed (02, E3): "the answer number, the update and list outcomes, and at the
-- end each record's pair".
--   numbered_by n, replied_by r   of a call that gives a number alone, and of a request
--   shown_of spi pair            of a record
use Rattle.std.specs.Prelude.{ℕ}
use Rattle.address.specs.Address.{no_pair}
use Rattle.address.specs.declared.pair.Pair.{Pair}
use Rattle.replying.specs.declared.reply.Reply.{Reply}
use Rattle.given.specs.declared.outcome.Outcome.{Outcome}

abbrev pub outcome_of : ℕ → ℕ → ℕ → ℕ → Pair → Outcome
outcome_of number update list spi pair =
    record { number = number; update = update; list = list; spi = spi; pair = pair }

abbrev pub shown_of : ℕ → Pair → Outcome
shown_of spi pair = outcome_of 0 0 0 spi pair

-- "other numbers: none, none"
abbrev pub numbered_by : ℕ → Outcome
numbered_by number = outcome_of number 0 0 0 no_pair

abbrev pub replied_by : Reply → Outcome
replied_by r = outcome_of r.number r.update r.list 0 no_pair
