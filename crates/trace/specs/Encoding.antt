-- The format of a trace from the writer's side: which bytes stand for sizes and requests.
--
--   Asked           a request: a call, a page, and what its hint set says
--   LawfulRequest   the requests that a trace can hold
--   word            the four bytes of a word, high byte first
--   request_bytes   the words of a request
--   trace_bytes     the words of sizes and requests
use Rattle.std.specs.Prelude.{ℕ, ◌+◌, ◌*◌, ◌/◌, ◌%◌, ◌^◌, ◌<◌, ◌≤◌, List, [], ◌∷◌, ◌++◌, length}
use Rattle.std.specs.List.{flat_map, AllByRecursion}
use Rattle.values.specs.declared.size_numbers.SizeNumbers.{SizeNumbers}
use Rattle.values.specs.HintSets.{Hints}
use Rattle.trace.specs.declared.item.Call.{Call}
use Rattle.trace.specs.declared.item.Call.TheVariants.{Read, Write}

pub record Asked : Type 0 where
  pub call : Call
  pub page : ℕ
  pub hints : Hints

-- a write fills its page with a byte
abbrev pub Filled : Call → Type 0
Filled Read = Unit {0}
Filled (Write b) = b < 2 ^ 8

pub record LawfulRequest (a : Asked) : Type 0 where
  pub fill : Filled a.call
  pub page : a.page < 2 ^ 16
  pub client : a.hints.client < 2 ^ 4
  pub count : length a.hints.values ≤ 5
  pub values : AllByRecursion (λ v. v < 2 ^ 16) a.hints.values

-- kind in the top four bits, then client, count, four bits that are 0, and value
abbrev pub word : ℕ → ℕ → ℕ → ℕ → List ℕ
word kind client count value =
    (kind * 2 ^ 4 + client) ∷ (count * 2 ^ 4) ∷ (value / 2 ^ 8) ∷ (value % 2 ^ 8) ∷ []

-- reads are of kind 1, writes of kind 2
abbrev pub kind_of : Call → ℕ
kind_of Read = 1
kind_of (Write b) = 2

-- a write ends with a fill word
abbrev pub fill_bytes : Call → List ℕ
fill_bytes Read = []
fill_bytes (Write b) = word 4 0 0 b

abbrev pub request_bytes : Asked → List ℕ
request_bytes a =
    word (kind_of a.call) a.hints.client (length a.hints.values) a.page
    ++ (flat_map (word 3 0 0) a.hints.values ++ fill_bytes a.call)

-- C, Q, k, j and W, numbered from 0, and then the requests
abbrev pub trace_bytes : SizeNumbers → List Asked → List ℕ
trace_bytes z asked =
    word 0 0 0 z.cache_places ++ (word 0 1 0 z.queue_places ++ (word 0 2 0 z.hint_rows
    ++ (word 0 3 0 z.page_rows ++ (word 0 4 0 z.window ++ flat_map request_bytes asked))))
