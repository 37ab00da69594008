-- Worked cases: what the laws of every history alone would not catch.
--
--   RefusalOrder     refusals 2, 3 and 4, in this order, before the store's
--   WriteCredits     a write to a page seen before credits nothing
--   CreditFirst      a repeat is credited before the request is counted
--   ReplacedRow      the priority of a hint set whose row replaced another
--   EqualPriority    of two cached pages with equal priority the lower number goes
--   FullQueue        a full queue drops the entry that entered earliest
--   WrittenCopy      a write to a cached page changes its copy
--   FarRepeat        a distance is reported up to 65,535
--   Looking          what looks and peeks answer
use Rattle.std.specs.Prelude.{◌≡◌, ℕ, Bool, true, false, List, [], ◌∷◌, map, replicate, Some, None, Ok, Err, Option}
use Rattle.std.specs.Option.{option_map}
use Rattle.keys.specs.Meanings.{hint_meaning}
use Rattle.counting.specs.Rows.{row_in}
use Rattle.store.specs.declared.script.Access.{Access}
use Rattle.store.specs.declared.script.Access.TheVariants.{Read, Write}
use Rattle.store.specs.Faults.{here}
use Rattle.rules.specs.declared.answer.Decision.TheVariants.{Hit, Free, Evict, Pass}
use Rattle.rules.specs.declared.entry.Entry.{Entry}
use Rattle.rules.specs.declared.entry.Place.TheVariants.{Cached, Queued, Unknown}
use Rattle.rules.specs.Refusals.{Refused, plain}
use Rattle.rules.specs.State.{State}
use Rattle.rules.specs.Requests.{distance_from, refusal}
use Rattle.rules.specs.Looks.{hint_count, hint_priority, page_count, page_place, peek_answer, peek_buffer, progress, whether_open}
use Rattle.rules.specs.Priorities.{priority_of}
use Rattle.rules.specs.Histories.{Call, peek, end_state}
use Rattle.rules.specs.Examples.{accepts, answers, first_bytes, hint, pages_64, reads, server, writes}

-- ---- refusals
-- a server that is open or shut and has accepted so many requests
abbrev pub at_number : Bool → ℕ → State
at_number is_open number = record {
  is_open = is_open;
  sizes = record { cache_places = 1; queue_places = 1; hint_rows = 1; page_rows = 1; window = 1 };
  number = number;
  places = record { cache = []; queue = [] };
  tables = record { requests = 0; live = []; closed = []; pages = [] };
}

-- with a buffer of so many bytes
abbrev pub refused : State → Access → ℕ → ℕ → Option Refused
refused t a p len = refusal t pages_64 (record { access = a; page = p; hints = hint 1 }) len

abbrev pub by_store : ℕ → ℕ → Option Refused
by_store number p = Some (record { number = number; origin = Some (here p) })

pub record RefusalOrder : Type 0 where
  pub shut_first : refused (at_number false 16777215) Read 64 255 ≡ Some (plain 2)
  pub buffer_second : refused (at_number true 16777215) Read 64 255 ≡ Some (plain 3)
  pub last_third : refused (at_number true 16777215) Read 64 256 ≡ Some (plain 4)
  pub store_last : refused (at_number true 16777214) Read 64 256 ≡ by_store 5 64
  pub short : refused (at_number true 0) Write 10 255 ≡ Some (plain 3)
  pub long : refused (at_number true 0) Write 10 257 ≡ Some (plain 3)
  pub sealed_read : refused (at_number true 0) Read 62 256 ≡ None
  pub sealed_write : refused (at_number true 0) Write 62 256 ≡ by_store 7 62
  pub dead_read : refused (at_number true 0) Read 63 256 ≡ by_store 6 63
  pub dead_write : refused (at_number true 0) Write 63 256 ≡ by_store 6 63

-- ---- credits
-- a server with one cache place, two queue places and two rows of each kind, after calls in its first window
abbrev pub later : List Call → State
later cs = end_state (server 1 2 2 2 8) pages_64 cs

-- the repeats and the distances of the live row of a hint value
abbrev pub credits : State → ℕ → Option (ℕ × ℕ)
credits t v = option_map (λ r. (r.repeats, r.distances)) (row_in hint_meaning t.tables.live (hint v))

pub record WriteCredits : Type 0 where
  pub write : credits (later (reads 10 1 ∷ writes 10 2 7 ∷ [])) 1 ≡ Some (0, 0)
  pub unreported : answers (server 1 2 2 2 8) pages_64 (reads 10 1 ∷ writes 10 2 7 ∷ []) ≡ accepts 1 Free None None ∷ accepts 2 Hit None None ∷ []
  pub read : credits (later (reads 10 1 ∷ reads 10 2 ∷ [])) 1 ≡ Some (1, 1)
  pub write_then_read : credits (later (writes 10 1 7 ∷ reads 10 2 ∷ [])) 1 ≡ Some (1, 1)

-- with one hint row: page 1's hint value 1 has lost its row when page 1 comes again, and gets one anew by the counting that follows
abbrev pub CreditFirst : Type 0
CreditFirst = credits (end_state (server 1 2 1 2 4) pages_64 (reads 1 1 ∷ reads 2 2 ∷ reads 1 1 ∷ [])) 1 ≡ Some (0, 0)

-- ---- priorities
-- with one hint row and windows of three: value 2 takes the row of value 1 with count 2 and error 1, and repeats at distance 1
abbrev pub replaced_row : State
replaced_row = end_state (server 1 2 1 2 3) pages_64 (reads 1 1 ∷ reads 2 2 ∷ reads 2 2 ∷ [])

pub record ReplacedRow : Type 0 where
  -- count 3 less error 1 makes two requests, and not three
  pub by_the_row : priority_of replaced_row.tables.closed (hint 2) ≡ record { numerator = 1; denominator = 2 }
  pub without_row : priority_of replaced_row.tables.closed (hint 1) ≡ record { numerator = 0; denominator = 1 }

-- pages 1 and 2 are cached under one hint value, page 1 last; value 2 has the greater priority from number 6 on
abbrev pub EqualPriority : Type 0
EqualPriority =
    answers (server 2 2 2 2 5) pages_64 (reads 1 1 ∷ reads 2 1 ∷ reads 1 1 ∷ reads 3 2 ∷ reads 3 2 ∷ reads 4 2 ∷ reads 2 2 ∷ [])
    ≡ accepts 1 Free None None
    ∷ accepts 2 Free None None
    ∷ accepts 3 Hit None (Some 2)
    ∷ accepts 4 Pass None None
    ∷ accepts 5 Pass None (Some 1)
    ∷ accepts 6 Evict (Some 2) None
    ∷ accepts 7 Evict (Some 1) (Some 5)
    ∷ []

-- ---- the queue
-- the pages that stand in it, from the earliest entered
abbrev pub queued_pages : State → List ℕ
queued_pages t = map (λ e. e.page) t.places.queue

pub record FullQueue : Type 0 where
  pub filled : queued_pages (later (reads 1 1 ∷ reads 2 1 ∷ reads 3 1 ∷ [])) ≡ 2 ∷ 3 ∷ []
  pub one_more : queued_pages (later (reads 1 1 ∷ reads 2 1 ∷ reads 3 1 ∷ reads 4 1 ∷ [])) ≡ 3 ∷ 4 ∷ []
  -- a page that is asked for again leaves its place and comes last
  pub again : queued_pages (later (reads 1 1 ∷ reads 2 1 ∷ reads 3 1 ∷ reads 2 1 ∷ reads 4 1 ∷ [])) ≡ 2 ∷ 4 ∷ []

-- ---- a cached copy
-- page 10 is read, filled with 7, read and peeked at
abbrev pub WrittenCopy : Type 0
WrittenCopy = first_bytes (server 1 2 2 2 8) pages_64 (reads 10 1 ∷ writes 10 1 7 ∷ reads 10 1 ∷ peek 10 (replicate 256 0) ∷ []) ≡ 10 ∷ 7 ∷ 7 ∷ 7 ∷ []

-- ---- far repeats
-- an entry of request 1
abbrev pub first_request : Option Entry
first_request = Some (record { page = 1; number = 1; hints = hint 1 })

pub record FarRepeat : Type 0 where
  pub near : distance_from 65535 first_request ≡ Some 65534
  pub far : distance_from 65536 first_request ≡ Some 65535
  pub farther : distance_from 65537 first_request ≡ Some 65535

-- ---- peek and the looks
-- page 10 is cached and page 20 queued, under hint values 1 and 2
abbrev pub looked_at : State
looked_at = later (reads 10 1 ∷ reads 20 2 ∷ reads 20 2 ∷ [])

abbrev pub entry_of : ℕ → ℕ → ℕ → Entry
entry_of p number v = record { page = p; number = number; hints = hint v }

pub record Looking : Type 0 where
  pub hint_counts : hint_count looked_at (hint 2) ≡ Ok (Some (2, 0))
  pub hint_absent : hint_count looked_at (hint 3) ≡ Ok None
  pub page_counts : page_count looked_at 10 ≡ Ok (Some (1, 0))
  pub cached : page_place looked_at 10 ≡ Ok (Cached (entry_of 10 1 1))
  pub queued : page_place looked_at 20 ≡ Ok (Queued (entry_of 20 3 2))
  pub unknown : page_place looked_at 30 ≡ Ok Unknown
  pub priority : hint_priority looked_at (hint 2) ≡ Ok (record { numerator = 0; denominator = 1 })
  pub so_far : progress looked_at ≡ Ok (3, 3)
  pub opened : whether_open looked_at ≡ Ok true
  pub peeked : peek_answer looked_at 10 256 ≡ Ok true
  pub peeked_bytes : peek_buffer looked_at 10 (replicate 256 0) ≡ replicate 256 10
  pub not_cached : peek_answer looked_at 20 256 ≡ Ok false
  pub untouched : peek_buffer looked_at 20 (replicate 256 5) ≡ replicate 256 5
  pub short : peek_answer looked_at 10 255 ≡ Err (plain 3)
  -- a shut server refuses all but the last
  pub shut_peek : peek_answer (at_number false 0) 10 255 ≡ Err (plain 2)
  pub shut_look : progress (at_number false 0) ≡ Err (plain 2)
  pub shut : whether_open (at_number false 0) ≡ Ok false
