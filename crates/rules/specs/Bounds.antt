-- How far the numbers of a server come, so that nothing wraps.
--
--   Bounds   of the places and the rows that every history leads to
use Rattle.std.specs.Prelude.{◌≡◌, ℕ, ◌<◌, ◌≤◌, List, length, Ok, slice_index_or}
use Rattle.std.specs.List.{AllByRecursion}
use Rattle.values.specs.declared.size_numbers.SizeNumbers.{SizeNumbers}
use Rattle.counting.specs.Bounds.{Bounded}
use Rattle.priority.specs.Learned.{row_parts}
use Rattle.priority.specs.Priorities.{priority_from}
use Rattle.store.specs.Meaning.{Meaning}
use Rattle.rules.specs.State.{CachedPage, State}
use Rattle.rules.specs.Histories.{Event}

pub record Bounds (sizes : SizeNumbers) (below : Meaning) (h : List Event) (t : State) (m : Meaning) : Type 0 where
  -- the places fit, and their numbers are of requests that were accepted
  pub cache_places : length t.places.cache ≤ sizes.cache_places
  pub queue_places : length t.places.queue ≤ sizes.queue_places
  pub number : t.number ≤ 16777215
  pub cache_numbers : AllByRecursion (λ x. x.entry.number ≤ t.number) t.places.cache
  pub queue_numbers : AllByRecursion (λ e. e.number ≤ t.number) t.places.queue
  -- no two cached pages have the same number
  pub cache_apart : (i j : ℕ) (d : CachedPage) → i < length t.places.cache → j < length t.places.cache
      → (slice_index_or t.places.cache i d).entry.number ≡ (slice_index_or t.places.cache j d).entry.number → i ≡ j
  -- the rows fit, and the window is not full between requests
  pub live_rows : length t.tables.live ≤ sizes.hint_rows
  pub page_rows : length t.tables.pages ≤ sizes.page_rows
  pub requests : t.tables.requests < sizes.window
  -- a row's repeats are at most the window's requests and its distances at most 65,535 each, and its count is above its error; only
  -- hint rows are credited
  pub live : AllByRecursion (Bounded t.tables.requests t.tables.requests) t.tables.live
  pub pages : AllByRecursion (Bounded t.tables.requests 0) t.tables.pages
  pub closed : AllByRecursion (Bounded sizes.window sizes.window) t.tables.closed
  -- each closed row gives the priority that it should: none is out of the limits
  pub priorities : AllByRecursion (λ r. priority_from (row_parts r) ≡ Ok (row_parts r)) t.tables.closed
