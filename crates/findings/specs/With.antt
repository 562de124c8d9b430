-- Inner. What was seen, with one part of it changed: what a finding's store promises.
use Rattle.std.specs.Prelude.{true}
use Rattle.findings.specs.declared.seen.Offsets.{Offsets}
use Rattle.findings.specs.declared.seen.Seen.{Seen}

-- with another list of additional addresses
abbrev pub with_list : Seen → Offsets → Seen
with_list s l =
    record {
      tally = s.tally;
      update = s.update;
      no_additional = s.no_additional;
      nat_source = s.nat_source;
      nat_destination = s.nat_destination;
      no_nats = s.no_nats;
      no_nats_len = s.no_nats_len;
      cookie = s.cookie;
      cookie_len = s.cookie_len;
      list = l;
    }

-- with NO_ADDITIONAL_ADDRESSES
abbrev pub none_seen : Seen → Seen
none_seen s =
    record {
      tally = s.tally;
      update = s.update;
      no_additional = true;
      nat_source = s.nat_source;
      nat_destination = s.nat_destination;
      no_nats = s.no_nats;
      no_nats_len = s.no_nats_len;
      cookie = s.cookie;
      cookie_len = s.cookie_len;
      list = s.list;
    }
