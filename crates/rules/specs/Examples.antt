-- What worked cases are told with: a small store, small servers and short calls.
--
--   pages_64                   a store of 64 pages, page p full of byte p; 62 is sealed and 63 dead
--   server                     a new open server of given sizes
--   hint                       the hint set of client 0 with one value
--   reads, writes              calls with a buffer of 256 bytes
--   events                     calls with what they answered and left
--   answers, first_bytes       what calls answered, and the first byte of each buffer after
--   accepts                    an answer of an accepted request
use Rattle.std.specs.Prelude.{ℕ, cond, List, [], ◌∷◌, replicate, Ok, Option, Result, ◌==◌, slice_index}
use Rattle.values.specs.declared.hint_numbers.HintNumbers.{HintNumbers}
use Rattle.store.specs.declared.mark.Mark.TheVariants.{Open, Sealed, Dead}
use Rattle.store.specs.declared.script.Access.TheVariants.{Read, Write}
use Rattle.store.specs.Faults.{here}
use Rattle.store.specs.Meaning.{Meaning}
use Rattle.rules.specs.declared.answer.Answer.{Answer}
use Rattle.rules.specs.declared.answer.Decision.{Decision}
use Rattle.rules.specs.Refusals.{Refused}
use Rattle.rules.specs.State.{State, opened}
use Rattle.rules.specs.Histories.{Call, ask, Event, asked, peeked, looked, event, state_after, store_after}

abbrev pub pages_64 : Meaning
pages_64 = record {
  number = 64;
  tally = 0;
  pages = λ p. replicate 256 p;
  marks = λ p. cond (p == 62) Sealed (cond (p == 63) Dead Open);
  origins = here;
}

-- cache places, queue places, hint rows, page rows and the window
abbrev pub server : ℕ → ℕ → ℕ → ℕ → ℕ → State
server c q k j w = opened (record { cache_places = c; queue_places = q; hint_rows = k; page_rows = j; window = w })

abbrev pub hint : ℕ → HintNumbers
hint v = record { client = 0; count = 1; first = v; second = 0; third = 0; fourth = 0; fifth = 0 }

-- a page and a hint value
abbrev pub reads : ℕ → ℕ → Call
reads p v = ask (record { access = Read; page = p; hints = hint v }) (replicate 256 0)

-- and the byte that fills the page
abbrev pub writes : ℕ → ℕ → ℕ → Call
writes p v b = ask (record { access = Write; page = p; hints = hint v }) (replicate 256 b)

-- what calls are, the first one first
abbrev pub events : State → Meaning → List Call → List Event
events t m [] = []
events t m (c ∷ cs) = event t m c ∷ events (state_after t m c) (store_after t m c) cs

abbrev pub answers_of : List Event → List (Result Answer Refused)
answers_of [] = []
answers_of (asked r given a returned ∷ es) = a ∷ answers_of es
answers_of (peeked p given a returned ∷ es) = answers_of es
answers_of (looked l a ∷ es) = answers_of es

abbrev pub answers : State → Meaning → List Call → List (Result Answer Refused)
answers t m cs = answers_of (events t m cs)

abbrev pub first_bytes_of : List Event → List ℕ
first_bytes_of [] = []
first_bytes_of (asked r given a returned ∷ es) = slice_index returned 0 ∷ first_bytes_of es
first_bytes_of (peeked p given a returned ∷ es) = slice_index returned 0 ∷ first_bytes_of es
first_bytes_of (looked l a ∷ es) = first_bytes_of es

abbrev pub first_bytes : State → Meaning → List Call → List ℕ
first_bytes t m cs = first_bytes_of (events t m cs)

abbrev pub accepts : ℕ → Decision → Option ℕ → Option ℕ → Result Answer Refused
accepts number decision victim distance = Ok (record { number = number; decision = decision; victim = victim; distance = distance })
