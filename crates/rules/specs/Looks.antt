-- Peek and the looks, which leave server and store as they are.
--
--   peek_answer    whether a page is cached
--   peek_buffer    the buffer after a peek
--   hint_count, page_count, page_place, hint_priority, progress, whether_open
--                  what each look answers
--   look_answer    what any of them answers
use Rattle.std.specs.Prelude.{ℕ, Bool, true, false, cond, List, length, Some, None, Ok, Err, Option, Result, ◌==◌}
use Rattle.std.specs.Result.{result_map_both}
use Rattle.values.specs.declared.hint_numbers.HintNumbers.{HintNumbers}
use Rattle.keys.specs.Meanings.{hint_meaning, page_meaning}
use Rattle.counting.specs.Rows.{looked}
use Rattle.priority.specs.declared.priority_parts.PriorityParts.{PriorityParts}
use Rattle.rules.specs.declared.entry.Entry.{Entry}
use Rattle.rules.specs.declared.entry.Place.{Place}
use Rattle.rules.specs.declared.entry.Place.TheVariants.{Cached, Queued, Unknown}
use Rattle.rules.specs.declared.look.Look.{Look}
use Rattle.rules.specs.declared.look.Look.TheVariants.{HintCount, PageCount, PlaceOf, PriorityOf, Progress, IsOpen}
use Rattle.rules.specs.declared.look.Seen.{Seen}
use Rattle.rules.specs.declared.look.Seen.TheVariants.{Count, Place as SeenPlace, Priority, Numbers, Opened}
use Rattle.rules.specs.Refusals.{Refused, plain}
use Rattle.rules.specs.State.{CachedPage, State}
use Rattle.rules.specs.Pages.{in_cache, in_queue}
use Rattle.rules.specs.Priorities.{priority_of}
use Rattle.rules.specs.Requests.{cached_or}

-- refusal 2 of a shut server
abbrev pub if_open : {X : Type 0} → State → Result X Refused → Result X Refused
if_open t rest = cond t.is_open rest (Err (plain 2))

-- refusals 2 and 3, in this order, and nothing else
abbrev pub peek_answer : State → ℕ → ℕ → Result Bool Refused
peek_answer t p len = if_open t (cond (len == 256) (Ok (cached_or (λ _. true) false (in_cache p t.places.cache))) (Err (plain 3)))

-- the bytes of a cached page; else it is untouched
abbrev pub peek_buffer : State → ℕ → List ℕ → List ℕ
peek_buffer t p given =
    cond t.is_open (cond (length given == 256) (cached_or (λ x. x.bytes) given (in_cache p t.places.cache)) given) given

-- the count with its error in the live hint rows, and in the page rows
abbrev pub hint_count : State → HintNumbers → Result (Option (ℕ × ℕ)) Refused
hint_count t h = if_open t (Ok (looked hint_meaning t.tables.live h))

abbrev pub page_count : State → ℕ → Result (Option (ℕ × ℕ)) Refused
page_count t p = if_open t (Ok (looked page_meaning t.tables.pages p))

-- where a page is, with its number and its hint set
abbrev pub place_by : Option CachedPage → Option Entry → Place
place_by (Some x) o = Cached x.entry
place_by None (Some e) = Queued e
place_by None None = Unknown

abbrev pub page_place : State → ℕ → Result Place Refused
page_place t p = if_open t (Ok (place_by (in_cache p t.places.cache) (in_queue p t.places.queue)))

abbrev pub hint_priority : State → HintNumbers → Result PriorityParts Refused
hint_priority t h = if_open t (Ok (priority_of t.tables.closed h))

-- the number of the latest accepted request, and the window's requests
abbrev pub progress : State → Result (ℕ × ℕ) Refused
progress t = if_open t (Ok (t.number, t.tables.requests))

-- never refused
abbrev pub whether_open : State → Result Bool Refused
whether_open t = Ok t.is_open

abbrev pub seen : {X : Type 0} → (X → Seen) → Result X Refused → Result Seen Refused
seen f r = result_map_both f (λ e. e) r

abbrev pub look_answer : State → Look → Result Seen Refused
look_answer t (HintCount h) = seen Count (hint_count t h)
look_answer t (PageCount p) = seen Count (page_count t p)
look_answer t (PlaceOf p) = seen SeenPlace (page_place t p)
look_answer t (PriorityOf h) = seen Priority (hint_priority t h)
look_answer t Progress = seen (λ x. Numbers x.0 x.1) (progress t)
look_answer t IsOpen = seen Opened (whether_open t)
