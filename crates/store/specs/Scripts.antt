-- Scripts: calls that are made one after another, each with its own part of one memory as the buffer.
--   gathered     what the calls of a history have, from the oldest to the newest
--   fitting      how many calls of a script there is room for
--   Performed    what performing a script did
use Rattle.std.specs.Prelude.{◌≡◌, ℕ, zero, suc, ◌-◌, if◌then◌else◌, List, [], ◌∷◌, ◌++◌, length, drop, Result, nat_le}
use Rattle.store.specs.declared.script.Call.{Call}
use Rattle.store.specs.Faults.{Refused}
use Rattle.store.specs.Meaning.{Meaning}
use Rattle.store.specs.Runs.{Event, Reaches}
use Rattle.store.specs.Laws.{Obeys}

abbrev pub gathered : {X : Type 0} → (Event Refused → List X) → List (Event Refused) → List X
gathered f [] = []
gathered f (e ∷ h) = gathered f h ++ f e

-- of one call: what a script has of it, its buffer as given and as returned, its answer
abbrev pub call_of : Event Refused → List Call
call_of e = record { access = e.access; page = e.page; length = length e.given } ∷ []

abbrev pub given_of : Event Refused → List ℕ
given_of e = e.given

abbrev pub returned_of : Event Refused → List ℕ
returned_of e = e.returned

abbrev pub answer_of : Event Refused → List (Result Unit Refused)
answer_of e = e.answer ∷ []

-- with so many bytes for buffers and places for outcomes: a call fits if both suffice for it and for all calls before it
abbrev pub fitting : List Call → ℕ → ℕ → ℕ
fitting [] room places = 0
fitting (c ∷ script) room zero = 0
fitting (c ∷ script) room (suc places) = if nat_le c.length room then suc (fitting script (room - c.length) places) else 0

-- The calls of a script were made of a store that meant first and then last: there is a history of just these calls. The memory before
-- was their buffers as given, one after another, and the memory after is the buffers as returned, with the same rest behind them. The new
-- outcomes are the answers, and the old ones in the places behind them. The history leads from first to last, and obeys the laws.
pub record Performed (first last : Meaning) (script : List Call) (before after : List ℕ) (old new : List (Result Unit Refused)) : Type 0 where
  pub history : List (Event Refused)
  pub rest : List ℕ
  pub calls : gathered call_of history ≡ script
  pub given : before ≡ gathered given_of history ++ rest
  pub returned : after ≡ gathered returned_of history ++ rest
  pub answers : new ≡ gathered answer_of history ++ drop (length script) old
  pub reached : Reaches first history last
  pub lawful : Obeys first history last
