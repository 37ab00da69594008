-- What every call keeps holds along every history.
use Rattle.std.proofs.Common.{◌≡◌, ℕ, ◌<◌, List, [], ◌∷◌, length, Some, None, Ok, Err, Option, Result, refl, arith}
use Rattle.values.specs.declared.hint_numbers.HintNumbers.{HintNumbers}
use Rattle.store.specs.declared.script.Access.{Access}
use Rattle.store.specs.Meaning.{Meaning}
use Rattle.store.specs.Laws.{Throughout}
use Rattle.rules.specs.declared.look.Look.{Look}
use Rattle.rules.specs.declared.request.Request.{Request}
use Rattle.rules.specs.Refusals.{Refused}
use Rattle.rules.specs.State.{State}
use Rattle.rules.specs.Requests.{accept, after, answer, refusal}
use Rattle.rules.specs.Looks.{look_answer, peek_answer, peek_buffer}
use Rattle.rules.specs.Histories.{Call, Event, event, peeked, looked, ask, peek, look, request_event, Reaches, start, more}
use Rattle.rules.specs.Accepted.{Accepted, accepted}

-- a request keeps what is said of a history, and of the server and the store that it leads to
abbrev pub OnRequest : (List Event → State → Meaning → Type 0) → Type 0
OnRequest P = (o : Option Refused) (h : List Event) (t : State) (m : Meaning) (r : Request) (given : List ℕ) → refusal t m r (length given) ≡ o → P h t m
    → P (request_event r given (after o t m r given) ∷ h) (after o t m r given).state (after o t m r given).store

-- each call keeps it
pub record Keeps (P : List Event → State → Meaning → Type 0) : Type 0 where
  pub request : OnRequest P
  pub peek : (h : List Event) (t : State) (m : Meaning) (p : ℕ) (given : List ℕ) → P h t m → P (peeked p given (peek_answer t p (length given)) (peek_buffer t p given) ∷ h) t m
  pub look : (h : List Event) (t : State) (m : Meaning) (l : Look) → P h t m → P (looked l (look_answer t l) ∷ h) t m

pub along : (P : List Event → State → Meaning → Type 0) → Keeps P → (first : State) (below : Meaning) → P [] first below
    → (h : List Event) (t : State) (m : Meaning) → Reaches first below h t m → P h t m
along P k first below b _ _ _ start = b
along P k first below b _ _ _ (more h t m (ask r given) w) = k.request (refusal t m r (length given)) h t m r given refl (along P k first below b h t m w)
along P k first below b _ _ _ (more h t m (peek p given) w) = k.peek h t m p given (along P k first below b h t m w)
along P k first below b _ _ _ (more h t m (look l) w) = k.look h t m l (along P k first below b h t m w)

-- ---- of the accepted requests alone
-- where each accepted request keeps it, so do refused ones, peeks and looks
abbrev pub OnAccepted : (List Accepted → State → Type 0) → Type 0
OnAccepted P = (xs : List Accepted) (t : State) (m : Meaning) (r : Request) (given : List ℕ) → refusal t m r (length given) ≡ None → P xs t
    → P (record { request = r; answer = answer t r } ∷ xs) (accept t m r given)

pub along_accepted : (P : List Accepted → State → Type 0) → OnAccepted P → (first : State) (below : Meaning) → P [] first
    → (h : List Event) (t : State) (m : Meaning) → Reaches first below h t m → P (accepted h) t
along_accepted P k first below = along (λ h t m. P (accepted h) t) (record { request = on_request; peek = λ h t m p given w. w; look = λ h t m l w. w }) first below
  where
    on_request : OnRequest (λ h t m. P (accepted h) t)
    on_request (Some f) h t m r given e w = w
    on_request None h t m r given e w = k (accepted h) t m r given e w

-- ---- a law of each call, by what holds before it
pub record Obeys (P : List Event → State → Meaning → Type 0) (Law : List Event → Event → Type 0) : Type 0 where
  pub request : (o : Option Refused) (h : List Event) (t : State) (m : Meaning) (r : Request) (given : List ℕ) → P h t m → Law h (request_event r given (after o t m r given))
  pub peek : (h : List Event) (t : State) (m : Meaning) (p : ℕ) (given : List ℕ) → P h t m → Law h (peeked p given (peek_answer t p (length given)) (peek_buffer t p given))
  pub look : (h : List Event) (t : State) (m : Meaning) (l : Look) → P h t m → Law h (looked l (look_answer t l))

pub throughout : (P : List Event → State → Meaning → Type 0) (Law : List Event → Event → Type 0) → Obeys P Law → (first : State) (below : Meaning)
    → ((h : List Event) (t : State) (m : Meaning) → Reaches first below h t m → P h t m)
    → (h : List Event) (t : State) (m : Meaning) → Reaches first below h t m → Throughout Law h
throughout P Law o first below before _ _ _ start = tt
throughout P Law o first below before _ _ _ (more h t m c w) = (obeys c, throughout P Law o first below before h t m w)
  where
    obeys : (c : Call) → Law h (event t m c)
    obeys (ask r given) = o.request (refusal t m r (length given)) h t m r given (before h t m w)
    obeys (peek p given) = o.peek h t m p given (before h t m w)
    obeys (look l) = o.look h t m l (before h t m w)

-- ---- requests
-- a read or a write of page p
abbrev pub asks : Access → ℕ → HintNumbers → Request
asks k p g = record { access = k; page = p; hints = g }

-- a refusal is no answer
pub refused : {X Y : Type 0} (f : Refused) (a : X) → ◌≡◌ {A = Result X Refused} (Err f) (Ok a) → Y
refused f a e = absurd (cc)

-- what an accepted request tells of the server
pub granted : (t : State) (m : Meaning) (r : Request) (len : ℕ) → refusal t m r len ≡ None → t.number < 16777215
unfolding refusal
granted t m r len e = grind arith
