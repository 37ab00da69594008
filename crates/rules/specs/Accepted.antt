-- What a history says, by its calls and answers alone.
--
--   accepted        the accepted requests with their answers, the latest first
--   only_accepted   the history without refused calls, peeks and looks
--   open_window     the accepted requests of the open window
--   latest_number   the number of the latest accepted request of a page
--   accesses        the reads and writes, as those of a store
--   hits            how many accepted reads were decided hit
--   rise            how far a store's tally rose
use Rattle.std.specs.Prelude.{ℕ, ◌+◌, ◌-◌, ◌%◌, ◌^◌, cond, List, [], ◌∷◌, length, take, Some, None, Ok, Err, Option, Result, ◌==◌}
use Rattle.std.specs.Result.{result_map_both}
use Rattle.store.specs.declared.script.Access.{Access}
use Rattle.store.specs.declared.script.Access.TheVariants.{Read, Write}
use Rattle.store.specs.Meaning.{Meaning}
use Rattle.store.specs.Runs.{Event as StoreEvent}
use Rattle.rules.specs.declared.answer.Answer.{Answer}
use Rattle.rules.specs.declared.answer.Decision.{Decision}
use Rattle.rules.specs.declared.answer.Decision.TheVariants.{Hit, Free, Evict, Pass}
use Rattle.rules.specs.declared.request.Request.{Request}
use Rattle.rules.specs.Refusals.{Refused}
use Rattle.rules.specs.Histories.{Event, asked, peeked, looked}

-- an accepted request
pub record Accepted : Type 0 where
  pub request : Request
  pub answer : Answer

abbrev pub accepted : List Event → List Accepted
accepted [] = []
accepted (asked r given (Ok a) returned ∷ h) = record { request = r; answer = a } ∷ accepted h
accepted (asked r given (Err f) returned ∷ h) = accepted h
accepted (peeked p given a returned ∷ h) = accepted h
accepted (looked l a ∷ h) = accepted h

abbrev pub only_accepted : List Event → List Event
only_accepted [] = []
only_accepted (asked r given (Ok a) returned ∷ h) = asked r given (Ok a) returned ∷ only_accepted h
only_accepted (asked r given (Err f) returned ∷ h) = only_accepted h
only_accepted (peeked p given a returned ∷ h) = only_accepted h
only_accepted (looked l a ∷ h) = only_accepted h

-- with windows of so many requests: the last s modulo that many of the s accepted ones
abbrev pub open_window : ℕ → List Event → List Accepted
open_window window h = take (length (accepted h) % window) (accepted h)

abbrev pub latest_number : ℕ → List Accepted → Option ℕ
latest_number p [] = None
latest_number p (x ∷ xs) = cond (x.request.page == p) (Some x.answer.number) (latest_number p xs)

-- an answer without what is not a store's
abbrev pub plainly : Result Answer Refused → Result Unit Refused
plainly r = result_map_both (λ _. tt) (λ f. f) r

-- a request as a call of a store
abbrev pub access_event : Request → List ℕ → Result Answer Refused → List ℕ → StoreEvent Refused
access_event r given a returned = record { access = r.access; page = r.page; given = given; answer = plainly a; returned = returned }

abbrev pub accesses : List Event → List (StoreEvent Refused)
accesses [] = []
accesses (asked r given a returned ∷ h) = access_event r given a returned ∷ accesses h
accesses (peeked p given a returned ∷ h) = accesses h
accesses (looked l a ∷ h) = accesses h

abbrev pub hit_of : Access → Decision → ℕ
hit_of Write d = 0
hit_of Read Hit = 1
hit_of Read Free = 0
hit_of Read Evict = 0
hit_of Read Pass = 0

abbrev pub hits : List Accepted → ℕ
hits [] = 0
hits (x ∷ xs) = hit_of x.request.access x.answer.decision + hits xs

-- from one meaning to another, modulo 2^32
abbrev pub rise : Meaning → Meaning → ℕ
rise from to = (to.tally + (2 ^ 32 - from.tally)) % 2 ^ 32
