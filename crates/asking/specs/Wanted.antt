-- Inner. What the writer is given, read as the draft of a request.
--
--   draft_of   the draft: of each address the family and the octets
use Rattle.address.specs.Address.{families_of, octets_of}
use Rattle.asking.specs.Draft.{Draft, draft}
use Rattle.asking.specs.declared.ask.Wanted.{Wanted}

abbrev pub draft_of : Wanted → Draft
draft_of w =
    draft w.ask w.pair (families_of w.addresses.now) (octets_of w.addresses.now) w.nat_source.now w.nat_destination.now
    w.cookie.now
