-- Histories: calls of a server with what they answered and left. The newest stands first.
--
--   Call                       a request or a peek with its buffer, or a look
--   Event                      a call with its buffer as given, its answer, and the buffer as returned
--   event                      what a call is, of a server and a store
--   state_after, store_after   the server and the store after it
--   Reaches                    the servers and stores that a history leads to
--   history                    what calls add to a history, made one after another
--   end_state, end_store       the server and the store after them
--   Performs                   every list of calls makes a history
use Rattle.std.specs.Prelude.{ℕ, Bool, List, [], ◌∷◌, length, Result}
use Rattle.store.specs.Meaning.{Meaning}
use Rattle.rules.specs.declared.answer.Answer.{Answer}
use Rattle.rules.specs.declared.look.Look.{Look}
use Rattle.rules.specs.declared.look.Seen.{Seen}
use Rattle.rules.specs.declared.request.Request.{Request}
use Rattle.rules.specs.Refusals.{Refused}
use Rattle.rules.specs.State.{State}
use Rattle.rules.specs.Requests.{After, serve}
use Rattle.rules.specs.Looks.{look_answer, peek_answer, peek_buffer}

pub data Call : Type 0 where
  ask : Request → List ℕ → Call
  peek : ℕ → List ℕ → Call
  look : Look → Call

pub data Event : Type 0 where
  asked : (r : Request) (given : List ℕ) (answer : Result Answer Refused) (returned : List ℕ) → Event
  peeked : (page : ℕ) (given : List ℕ) (answer : Result Bool Refused) (returned : List ℕ) → Event
  looked : (l : Look) (answer : Result Seen Refused) → Event

-- a request with what it answered and left
abbrev pub request_event : Request → List ℕ → After → Event
request_event r given a = asked r given a.answer a.buffer

abbrev pub event : State → Meaning → Call → Event
event t m (ask r given) = request_event r given (serve t m r given)
event t m (peek p given) = peeked p given (peek_answer t p (length given)) (peek_buffer t p given)
event t m (look l) = looked l (look_answer t l)

-- only a request changes anything
abbrev pub state_after : State → Meaning → Call → State
state_after t m (ask r given) = (serve t m r given).state
state_after t m (peek p given) = t
state_after t m (look l) = t

abbrev pub store_after : State → Meaning → Call → Meaning
store_after t m (ask r given) = (serve t m r given).store
store_after t m (peek p given) = m
store_after t m (look l) = m

-- from a first server and a first store, calls lead to a server and a store, one after another
pub data Reaches (first : State) (below : Meaning) : List Event → State → Meaning → Type 0 where
  start : Reaches first below [] first below
  more : (h : List Event) (t : State) (m : Meaning) (c : Call)
      → Reaches first below h t m → Reaches first below (event t m c ∷ h) (state_after t m c) (store_after t m c)

-- ---- calls made one after another, the first of the list first
abbrev pub history : State → Meaning → List Call → List Event → List Event
history t m [] h = h
history t m (c ∷ cs) h = history (state_after t m c) (store_after t m c) cs (event t m c ∷ h)

abbrev pub end_state : State → Meaning → List Call → State
end_state t m [] = t
end_state t m (c ∷ cs) = end_state (state_after t m c) (store_after t m c) cs

abbrev pub end_store : State → Meaning → List Call → Meaning
end_store t m [] = m
end_store t m (c ∷ cs) = end_store (state_after t m c) (store_after t m c) cs

-- from any server and store
abbrev pub Performs : Type 0
Performs = (t : State) (m : Meaning) (cs : List Call) → Reaches t m (history t m cs []) (end_state t m cs) (end_store t m cs)
