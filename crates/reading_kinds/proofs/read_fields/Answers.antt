-- `reading_kinds::read_fields` meets its contract: the fields of each kind are those of its table.
use Rattle.reading_kinds.proofs.read_fields.Goals as goal

pub returns-in-OpenBoth : goal.returns-in-OpenBoth
returns-in-OpenBoth c = rw c.in-OpenBoth.is c.read_table.ensures

pub returns-in-Request : goal.returns-in-Request
returns-in-Request c = rw c.in-Request.is c.read_table-in-Request.ensures

pub returns-in-CheckResponse : goal.returns-in-CheckResponse
returns-in-CheckResponse c = rw c.in-CheckResponse.is c.read_table-in-CheckResponse.ensures

pub returns-in-Clone : goal.returns-in-Clone
returns-in-Clone c = rw c.in-Clone.is c.read_table-in-Clone.ensures
