-- The examples, computed.
use mathlib.Core.Path.{refl}
use Rattle.redirect.specs.Identity.{identity_fits, nonce_fits, no_nonce_or}
use Rattle.redirect.specs.Read.{redirect_malformed, from_malformed}
use Rattle.redirect.specs.Write.{gateway_octets}
use Rattle.redirecting.specs.Exchange.{exchange_of}
use Rattle.redirecting.specs.Times.{before_last, is_recent, five_recent, keeping}
use Rattle.deciding_redirects.specs.Decision.{decision_number, after_number}
use Rattle.redirect_laws.specs.Examples.{numbers, Examples}

pub examples : Examples
unfolding numbers decision_number after_number keeping before_last five_recent is_recent
    exchange_of redirect_malformed from_malformed identity_fits nonce_fits no_nonce_or gateway_octets
examples =
    record {
      redirects = refl;
      froms = refl;
      writes = refl;
      written = refl;
      often = refl;
      nonces = refl;
      exchanges = refl;
    }
