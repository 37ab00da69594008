-- Requests are numbered as they are accepted, and the server keeps its sizes and stays open.
use Rattle.std.proofs.Common.{◌≡◌, ℕ, ◌+◌, ◌≤◌, true, List, length, Some, None, Option, refl, subst, arith}
use Rattle.values.specs.declared.size_numbers.SizeNumbers.{SizeNumbers}
use Rattle.store.specs.declared.script.Access.TheVariants.{Write}
use Rattle.store.specs.Meaning.{Meaning}
use Rattle.rules.specs.declared.request.Request.{Request}
use Rattle.rules.specs.Refusals.{Refused}
use Rattle.rules.specs.State.{State, opened}
use Rattle.rules.specs.Requests.{after, answer}
use Rattle.rules.specs.Histories.{Event, request_event}
use Rattle.rules.specs.Accepted.{Accepted, accepted}
use Rattle.rules.specs.Laws.{Every, Numbering, Numbers}
use Rattle.rules.proofs.Along.{Obeys, OnAccepted, along_accepted, granted, refused, throughout}

pub record Numbered (sizes : SizeNumbers) (xs : List Accepted) (t : State) : Type 0 where
  pub latest : t.number ≡ length xs
  pub limit : t.number ≤ 16777215
  pub same_sizes : t.sizes ≡ sizes
  pub still_open : t.is_open ≡ true

module _ (sizes : SizeNumbers) where
  one_more : OnAccepted (Numbered sizes)
  one_more xs t m r given e w = record {
    latest = omega (arith, w.latest);
    limit = omega (arith, granted t m r (length given) e);
    same_sizes = w.same_sizes;
    still_open = w.still_open;
  }

  request_numbers : (o : Option Refused) (h : List Event) (t : State) (m : Meaning) (r : Request) (given : List ℕ) → Numbered sizes (accepted h) t → Numbers h (request_event r given (after o t m r given))
  request_numbers (Some f) h t m r given w a q = refused f a q
  request_numbers None h t m r given w a q =
      let same : answer t r ≡ a = cc in
      subst (λ b. (b.number ≡ length (accepted h) + 1) × (r.access ≡ Write → b.distance ≡ None)) same (omega (arith, w.latest), λ k. rw k refl)

  numbers : Obeys (λ h t m. Numbered sizes (accepted h) t) Numbers
  numbers = record { request = request_numbers; peek = λ h t m p given w. tt; look = λ h t m l w. tt }

pub numbered : Every (λ sizes below h t m. Numbered sizes (accepted h) t)
numbered sizes below h t m lawful good w =
    along_accepted (Numbered sizes) (one_more sizes) (opened sizes) below (record { latest = refl; limit = omega arith; same_sizes = refl; still_open = refl }) h t m w

pub numbering : Every Numbering
numbering sizes below h t m lawful good w =
    let n = numbered sizes below h t m lawful good w in
    record {
      numbers = throughout (λ h t m. Numbered sizes (accepted h) t) Numbers (numbers sizes) (opened sizes) below (λ h t m w. numbered sizes below h t m lawful good w) h t m w;
      latest = n.latest;
      limit = n.limit;
    }
