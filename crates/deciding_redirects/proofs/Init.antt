-- A REDIRECT may come in IKE_SA_INIT.
use mathlib.Core.Path.{◌≡◌, refl}
use mathlib.Core.Bool.{true, false≢true}
use Rattle.redirecting.specs.Exchange.{is_init, allows}
use Rattle.redirecting.specs.declared.exchange.Exchange.{Exchange}
use Rattle.redirecting.specs.declared.exchange.Exchange.TheVariants.{SaInit, FirstAuth, MiddleAuth, LastAuth}
use Rattle.redirecting.specs.declared.exchange.Exchange.TheVariants.{Informational, Other}

pub init_allows : (e : Exchange) → is_init e ≡ true → allows e ≡ true
init_allows SaInit h = refl
init_allows FirstAuth h = absurd (false≢true h)
init_allows MiddleAuth h = absurd (false≢true h)
init_allows LastAuth h = absurd (false≢true h)
init_allows Informational h = absurd (false≢true h)
init_allows Other h = absurd (false≢true h)
