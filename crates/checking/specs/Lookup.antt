-- Inner. What is looked up for a request, and checks 1 to 5 by that, as the code runs them: `early_number_by` of `Checks`
-- on it. `handles` of `responder` shows that a request's checks on the tables come to the same.
use Rattle.std.specs.Prelude.{ℕ, ltb}
use Rattle.octets.specs.Limits.{ike_places}
use Rattle.records.specs.Records.{marks_in}
use Rattle.records.specs.declared.ike.IkeRecord.{IkeRecord}
use Rattle.answering.specs.Request.{asked_by}
use Rattle.answering.specs.declared.request.LentRequest.{LentRequest}
use Rattle.checking.specs.Checks.{Request, request_of, early_number_by}
use Rattle.checking.specs.declared.lookup.Looked.{Looked}

-- a request as it is lent, with its output's length
abbrev pub request_by : LentRequest → ℕ → Request
request_by r room = request_of r.spi (asked_by r) room r.operator

abbrev pub looked_up : ℕ → ℕ → IkeRecord → Looked
looked_up size place r = record { size = size; place = place; marks = marks_in r }

abbrev pub early_number_at : Looked → Request → ℕ
early_number_at l q = early_number_by l.size (ltb l.place ike_places) l.marks.agreed q
