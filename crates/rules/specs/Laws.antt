-- What holds of every history of a new open server, of any lawful sizes, above any lawful store.
--
--   Every           a law holds of every such history
--   Numbering       accepted requests have the numbers 1, 2, 3 and so on
--   Counting        the rows count the open window
--   Distance        reads report how long ago their page was requested
--   OnePlace        no page has two places
--   Conservation    hits and store reads are the accepted reads
--   Freshness       reads and peeks get the latest bytes
--   Undisturbed     refused calls, peeks and looks change nothing
--   LawfulHistory   all of them
use Rattle.std.specs.Prelude.{◌≡◌, ℕ, ◌+◌, ◌-◌, ◌<◌, ◌≤◌, min, true, ◌⊎◌, List, map, length, Some, None, Ok, Option}
use Rattle.values.specs.declared.size_numbers.SizeNumbers.{SizeNumbers}
use Rattle.values.specs.Sizes.{sizes_from}
use Rattle.keys.specs.Meanings.{hint_meaning, page_meaning}
use Rattle.counting.specs.Laws.{Lawful as LawfulRows}
use Rattle.store.specs.declared.script.Access.TheVariants.{Read, Write}
use Rattle.store.specs.Meaning.{Lawful, Meaning}
use Rattle.store.specs.Laws.{accepted_reads, GetsLatest as ReadsLatest, latest, Throughout}
use Rattle.rules.specs.declared.answer.Answer.{Answer}
use Rattle.rules.specs.State.{State, opened}
use Rattle.rules.specs.Pages.{cached_page, entry_page, how_many}
use Rattle.rules.specs.Histories.{Event, asked, peeked, looked, Reaches}
use Rattle.rules.specs.Accepted.{access_event, accepted, accesses, hits, latest_number, only_accepted, open_window, rise}

-- a law speaks of the sizes, the first store, the history, and the server and the store that it leads to
abbrev pub Every : (SizeNumbers → Meaning → List Event → State → Meaning → Type 0) → Type 0
Every Law =
    (sizes : SizeNumbers) (below : Meaning) (h : List Event) (t : State) (m : Meaning)
    → sizes_from sizes ≡ Ok sizes → Lawful below → Reaches (opened sizes) below h t m → Law sizes below h t m

-- ---- numbering
-- an accepted request has the number after that of the accepted one before it, and a write reports no distance
abbrev pub Numbers : List Event → Event → Type 0
Numbers h (asked r given answer returned) =
    (a : Answer) → answer ≡ Ok a → (a.number ≡ length (accepted h) + 1) × (r.access ≡ Write → a.distance ≡ None)
Numbers h (peeked p given answer returned) = Unit
Numbers h (looked l answer) = Unit

pub record Numbering (sizes : SizeNumbers) (below : Meaning) (h : List Event) (t : State) (m : Meaning) : Type 0 where
  pub numbers : Throughout Numbers h
  pub latest : t.number ≡ length (accepted h)
  pub limit : t.number ≤ 16777215

-- ---- counting
-- the laws of a table, of the hint sets and of the pages of the open window
pub record Counting (sizes : SizeNumbers) (below : Meaning) (h : List Event) (t : State) (m : Meaning) : Type 0 where
  pub hints : LawfulRows hint_meaning sizes.hint_rows t.tables.live (map (λ x. x.request.hints) (open_window sizes.window h))
  pub pages : LawfulRows page_meaning sizes.page_rows t.tables.pages (map (λ x. x.request.page) (open_window sizes.window h))
  pub requests : t.tables.requests ≡ length (open_window sizes.window h)

-- ---- distance
-- what number s reports, with so many queue places, where the page's latest request has a number or there is none: the exact
-- distance or 65,535, or nothing where the exact one is greater than the queue; nothing of a first request
abbrev pub Reports : ℕ → ℕ → Option ℕ → Option ℕ → Type 0
Reports queue s None reported = reported ≡ None
Reports queue s (Some t) reported = (reported ≡ Some (min (s - t) 65535)) ⊎ ((reported ≡ None) × (queue < s - t))

abbrev pub ReportsDistance : ℕ → List Event → Event → Type 0
ReportsDistance queue h (asked r given answer returned) =
    (a : Answer) → answer ≡ Ok a → r.access ≡ Read → Reports queue a.number (latest_number r.page (accepted h)) a.distance
ReportsDistance queue h (peeked p given answer returned) = Unit
ReportsDistance queue h (looked l answer) = Unit

abbrev pub Distance : SizeNumbers → Meaning → List Event → State → Meaning → Type 0
Distance sizes below h t m = Throughout (ReportsDistance sizes.queue_places) h

-- ---- one place
-- the used cache places and the queue entries that hold a page are together at most one
abbrev pub OnePlace : SizeNumbers → Meaning → List Event → State → Meaning → Type 0
OnePlace sizes below h t m = (p : ℕ) → how_many cached_page p t.places.cache + how_many entry_page p t.places.queue ≤ 1

-- ---- conservation
-- store reads are the tally's rise since the start
abbrev pub Conservation : SizeNumbers → Meaning → List Event → State → Meaning → Type 0
Conservation sizes below h t m = hits (accepted h) + rise below m ≡ accepted_reads (accesses h)

-- ---- freshness
-- an accepted read, and a peek that says yes, get the bytes of the page's latest earlier accepted write, or else its first bytes
abbrev pub GetsLatest : (ℕ → List ℕ) → List Event → Event → Type 0
GetsLatest first h (asked r given answer returned) = ReadsLatest first (accesses h) (access_event r given answer returned)
GetsLatest first h (peeked p given answer returned) = answer ≡ Ok true → returned ≡ latest first (accesses h) p
GetsLatest first h (looked l answer) = Unit

-- and the store holds these bytes of every page
pub record Freshness (sizes : SizeNumbers) (below : Meaning) (h : List Event) (t : State) (m : Meaning) : Type 0 where
  pub gets : Throughout (GetsLatest below.pages) h
  pub stored : (p : ℕ) → m.pages p ≡ latest below.pages (accesses h) p

-- ---- undisturbed
-- the accepted requests alone lead to the same server and store
abbrev pub Undisturbed : SizeNumbers → Meaning → List Event → State → Meaning → Type 0
Undisturbed sizes below h t m = Reaches (opened sizes) below (only_accepted h) t m

-- ---- all of them, and that the server keeps its sizes and stays open
pub record LawfulHistory (sizes : SizeNumbers) (below : Meaning) (h : List Event) (t : State) (m : Meaning) : Type 0 where
  pub numbering : Numbering sizes below h t m
  pub counting : Counting sizes below h t m
  pub distance : Distance sizes below h t m
  pub one_place : OnePlace sizes below h t m
  pub conservation : Conservation sizes below h t m
  pub freshness : Freshness sizes below h t m
  pub undisturbed : Undisturbed sizes below h t m
  pub sizes_stay : t.sizes ≡ sizes
  pub stays_open : t.is_open ≡ true
