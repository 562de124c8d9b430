-- Requests and check responses as calls by their SPI.
use mathlib.Core.Path.{◌≡◌, ap}
use mathlib.Core.List.{List}
use Rattle.policy.specs.declared.rules.Policy.{Policy}
use Rattle.tables.specs.Tables.{Tables}
use Rattle.tables.specs.View.{View, view, Change, applied, Proper, BySpi}
use Rattle.reordering.specs.Events.{Event, request, response, spi_of, after_event}
use Rattle.reordering.specs.Events.{Answer, replied, assessed, answer}
use Rattle.reordering.proofs.Steps as requests
use Rattle.reordering.proofs.Responses as responses

module _ (policies : List Policy) where
  abbrev does : Event → View → Change
  does (request q) v = requests.does policies q v
  does (response q) v = responses.does q v

  abbrev says : Event → View → Answer
  says (request q) v = replied (requests.says policies q v)
  says (response q) v = assessed (responses.says q v)

  proper : (e : Event) (v : View) → Proper v.entry (does e v)
  proper (request q) v = requests.proper policies q v
  proper (response q) v = responses.proper q v

  step_is : (e : Event) (t : Tables) → after_event policies e t ≡ applied (spi_of e) (does e (view (spi_of e) t)) t
  step_is (request q) t = requests.step_is policies q t
  step_is (response q) t = responses.step_is q t

  answer_is : (e : Event) (t : Tables) → answer policies e t ≡ says e (view (spi_of e) t)
  answer_is (request q) t = ap replied (requests.answer_is policies q t)
  answer_is (response q) t = ap assessed (responses.answer_is q t)

  pub by_spi : BySpi spi_of (after_event policies) (answer policies)
  by_spi = record { does = does; says = says; proper = proper; step_is = step_is; answer_is = answer_is }
