-- Where the SPI is nowhere, the list's length is its place.
use Rattle.octets.proofs.Iterators.{position_is}
use Rattle.records.specs.Records.{ipsec_spi}
use Rattle.lent_ipsec.proofs.places.ipsec_place.Goals as goal

pub returns : goal.returns
returns c =
    rw (c.unwrap_or.ensures, c.position_of.ensures) (position_is ipsec_spi c.args.spi c.args.records.now)
