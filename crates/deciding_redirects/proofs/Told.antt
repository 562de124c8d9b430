-- What is told and handed out of a decision is what the exported call promises.
use Prim.Native.Nat.{ℕ}
use mathlib.Core.Path.{◌≡◌}
use mathlib.Core.Logic.{◌≢◌}
use mathlib.Core.List.{List}
use borrow.Author.Tests.{ne_eqb}
use Rattle.std.specs.Prelude.{Result, Ok, Err, IfOk, IfErr}
use Rattle.std.specs.Borrow.{Bor}
use Rattle.octets.specs.declared.number.Number.{Number}
use Rattle.octets.specs.Numbers.{number_of, told}
use Rattle.redirect.specs.Gateway.{GatewayIn, HandedOut}
use Rattle.redirect.specs.declared.gateway.Gateway.{Gateway}
use Rattle.reading_redirects.proofs.Told.{nothing}
use Rattle.redirecting.specs.Times.{kept}
use Rattle.redirecting.specs.declared.times.Accepted.{Accepted}
use Rattle.deciding_redirects.specs.Decision.{asked, decision_number, after_decision, decision_told, DecidedAs}

module _ (before after : Accepted) (exchange : ℕ) (sent : List ℕ) (time : ℕ) (octets : Bor (List ℕ)) (h : Gateway) where
  pub decided : (r : Result Gateway Number)
      → told r ≡ decision_number (kept before) (asked exchange sent time octets.now)
      → after ≡ after_decision before (asked exchange sent time octets.now)
      → IfOk r (λ g. GatewayIn octets g) → IfErr r (λ n. number_of n ≢ 0) → HandedOut octets r h
      → DecidedAs before exchange sent time octets (decision_told r) after h.identity
  decided (Ok g) e a given z out =
      record {
        is = rw (← e, given.type_is, given.nonce_part.octets);
        record_is = a;
        identity_part = rw out given.identity_part;
      }
  decided (Err n) e a given z out =
      let no = ne_eqb (number_of n) 0 z in
      record { is = rw (← e, no); record_is = a; identity_part = rw no (nothing _ out.0) }
