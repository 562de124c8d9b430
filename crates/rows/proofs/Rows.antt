-- 01's rows a to j hold of the definitions, for either operator: one test, computed over the whole table.
use mathlib.Core.Path.{◌≡◌, refl}
use mathlib.Core.Bool.{true}
use Rattle.octets.specs.Lists.{all}
use Rattle.notify.specs.Notify.{kind_of}
use Rattle.payload.specs.Payload.{notify_at, sized, payload_at}
use Rattle.findings.specs.Seen.{noted, content_noted}
use Rattle.reader.specs.Chain.{chain, chain_at, scanned, reading}
use Rattle.prefix.specs.Prefix.{prefix_matches}
use Rattle.policy.specs.Policy.{rule_matches, acceptable}
use Rattle.records.specs.Pending.{check_of}
use Rattle.writing.specs.Notify.{notify_octets, chained}
use Rattle.verdict.specs.Verdict.{unaltered, verdict}
use Rattle.deciding.specs.Decide.{list_decided, update_decided, decided}
use Rattle.answering.specs.Core.{chain_error, core_response, core_answer}
use Rattle.replying.specs.Change.{changed_by}
use Rattle.checking.specs.Checks.{early_number_by}
use Rattle.responder.specs.Handle.{handled, handled_response}
use Rattle.rows.specs.Rows.{holds_for, row_holds, rows}

pub rows_hold : all row_holds rows ≡ true
unfolding holds_for row_holds kind_of notify_at sized payload_at noted content_noted chain chain_at scanned reading
    prefix_matches rule_matches acceptable check_of notify_octets unaltered verdict list_decided update_decided decided
    chained chain_error core_response core_answer changed_by early_number_by handled handled_response
rows_hold = refl
