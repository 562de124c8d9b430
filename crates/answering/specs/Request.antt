-- Inner. What a request as it is lent asks: `asked_by` is `asked` of `Core` with its parts.
use Rattle.answering.specs.Core.{Asked, asked}
use Rattle.answering.specs.declared.request.LentRequest.{LentRequest}

abbrev pub asked_by : LentRequest → Asked
asked_by r = asked r.id r.pair r.nat_source.now r.nat_destination.now r.first r.body.now r.check
