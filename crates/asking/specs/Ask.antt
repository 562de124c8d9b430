-- Trusted. What a host asks for, from the octets that it gives.
--
--   Ask          which notifications a request is to have, and how many addresses
--   CloneAsk     which of the two notifications of a clone it is to have
--   AskOctets    both as a host gives them; `ask_of` and `clone_ask_of` are what that means
use Rattle.octets.specs.Flags.{is_yes}
use Rattle.asking.specs.declared.ask.Ask.{Ask}
use Rattle.asking.specs.declared.ask.AskOctets.{AskOctets}
use Rattle.asking.specs.declared.ask.CloneAsk.{CloneAsk}

-- 00, demand 1: "asks nothing of its caller": every octet that a host gives for yes or no is one of them.
abbrev pub ask_of : AskOctets → Ask
ask_of a =
    record {
      update = is_yes a.update;
      no_nats = is_yes a.no_nats;
      nat_source = is_yes a.nat_source;
      nat_destination = is_yes a.nat_destination;
      no_additional = is_yes a.no_additional;
      count = a.count;
    }

-- 02, E8: "CLONE_IKE_SA_SUPPORTED (16432) and CLONE_IKE_SA (16433)".
abbrev pub clone_ask_of : AskOctets → CloneAsk
clone_ask_of a = record { supported = is_yes a.clone_supported; clone = is_yes a.clone }
