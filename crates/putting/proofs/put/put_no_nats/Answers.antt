-- `putting::put::put_no_nats` meets its contract: the data that is put is the pair's.
-- Assumes nothing.
use Rattle.std.proofs.Common.{◌≡◌, ℕ, length, take, replicate, sym, ap, ◌∙◌, rules}
use Rattle.octets.specs.Limits.{no_nats_size, no_nats_most}
use Rattle.octets.proofs.Mapped.{unmapped}
use Rattle.asking.specs.Draft.{pair_octets}
use Rattle.asking.proofs.NoNats.{data_length, front}
use Rattle.putting.proofs.put.put_no_nats.Goals as goal

pub returns : goal.returns
returns c =
    let pair = c.args.pair in
    let width = c.width_of-width.result in
    let sized : length (pair_octets pair) ≡ no_nats_size width =
    data_length pair (search (rules, unmapped)) (search (rules, unmapped))
    ∙ ap no_nats_size (sym c.width_of-width.ensures) in
    let same : take (no_nats_size width) c.no_nats_octets-octets.result ≡ pair_octets pair =
    ap (take (no_nats_size width)) c.no_nats_octets-octets.ensures
    ∙ front (replicate {A = ℕ} no_nats_most 0) (pair_octets pair) (no_nats_size width) sized in
    rw (← same) c.put_if.ensures
