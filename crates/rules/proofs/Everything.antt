-- Refused calls, peeks and looks change nothing; and all the laws of every history.
use Rattle.std.proofs.Common.{List, ◌∷◌, Some, None, subst}
use Rattle.store.specs.Meaning.{Meaning}
use Rattle.rules.specs.State.{State, opened}
use Rattle.rules.specs.Requests.{after}
use Rattle.rules.specs.Histories.{Event, ask, request_event, Reaches, start, more}
use Rattle.rules.specs.Accepted.{only_accepted}
use Rattle.rules.specs.Laws.{Every, LawfulHistory, Undisturbed}
use Rattle.rules.proofs.Along.{Keeps, OnRequest, along}
use Rattle.rules.proofs.Conservations.{conservation}
use Rattle.rules.proofs.Counts.{counting_holds}
use Rattle.rules.proofs.Distances.{distance, one_place}
use Rattle.rules.proofs.Freshnesses.{freshness}
use Rattle.rules.proofs.Numberings.{numbered, numbering}

module _ (first : State) (below : Meaning) where
  abbrev Led : List Event → State → Meaning → Type 0
  Led h t m = Reaches first below (only_accepted h) t m

  request_led : OnRequest Led
  request_led (Some f) h t m r given e w = w
  request_led None h t m r given e w =
      subst (λ o. Reaches first below (request_event r given (after o t m r given) ∷ only_accepted h) (after o t m r given).state (after o t m r given).store) e
      (more (only_accepted h) t m (ask r given) w)

  led_keeps : Keeps Led
  led_keeps = record { request = request_led; peek = λ h t m p given w. w; look = λ h t m l w. w }

pub undisturbed : Every Undisturbed
undisturbed sizes below h t m ok good w = along (Led (opened sizes) below) (led_keeps (opened sizes) below) (opened sizes) below start h t m w

pub lawful_history : Every LawfulHistory
lawful_history sizes below h t m ok good w = record {
  numbering = numbering sizes below h t m ok good w;
  counting = counting_holds sizes below h t m ok good w;
  distance = distance sizes below h t m ok good w;
  one_place = one_place sizes below h t m ok good w;
  conservation = conservation sizes below h t m ok good w;
  freshness = freshness sizes below h t m ok good w;
  undisturbed = undisturbed sizes below h t m ok good w;
  sizes_stay = (numbered sizes below h t m ok good w).same_sizes;
  stays_open = (numbered sizes below h t m ok good w).still_open;
}
