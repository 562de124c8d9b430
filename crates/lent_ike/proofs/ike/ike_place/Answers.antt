-- Where the SPI is nowhere, the table's length is its place.
use Rattle.octets.proofs.Iterators.{position_is}
use Rattle.records.specs.Records.{ike_spi}
use Rattle.lent_ike.proofs.ike.ike_place.Goals as goal

pub returns : goal.returns
returns c =
    rw (c.unwrap_or.ensures, c.position_of.ensures, ← c.told-records)
    (position_is ike_spi c.args.spi c.args.records.now)
