-- The bounds of every history.
use Rattle.std.proofs.Common.{◌≡◌, ℕ, ◌+◌, ◌<◌, ◌≤◌, List, [], length, get_or, Ok, Option, refl, subst, arith}
use Rattle.std.proofs.ByRecursion.{All-from_get_or, All-weaker}
use Rattle.values.specs.declared.hint_numbers.HintNumbers.{HintNumbers}
use Rattle.values.specs.declared.size_numbers.SizeNumbers.{SizeNumbers}
use Rattle.values.specs.Sizes.{sizes_from}
use Rattle.counting.specs.Bounds.{Bounded}
use Rattle.counting.specs.declared.row.Row.{Row}
use Rattle.priority.specs.Learned.{row_parts}
use Rattle.priority.specs.Priorities.{priority_from}
use Rattle.priority.proofs.Made.{made_exactly}
use Rattle.store.specs.Meaning.{Meaning}
use Rattle.rules.specs.declared.entry.Entry.{Entry}
use Rattle.rules.specs.State.{Places, State, entries, opened}
use Rattle.rules.specs.Pages.{entry_page}
use Rattle.rules.specs.Placing.{known}
use Rattle.rules.specs.Requests.{choice, distance, newcomer}
use Rattle.rules.specs.Histories.{Event}
use Rattle.rules.specs.Accepted.{Accepted, accepted, latest_number}
use Rattle.rules.specs.Laws.{Every}
use Rattle.rules.specs.Bounds.{Bounds}
use Rattle.rules.proofs.Along.{OnAccepted, along_accepted}
use Rattle.rules.proofs.Apart.{InOrder, in_order, numbers_apart}
use Rattle.rules.proofs.Chosen.{chosen}
use Rattle.rules.proofs.Counts.{Counted, counted_more, counted_start, small}
use Rattle.rules.proofs.Distances.{Placed, placed_more}
use Rattle.rules.proofs.Numberings.{numbered, numbering}
use Rattle.rules.proofs.Singles.{absent_at, set_once}
use Rattle.rules.proofs.Limits.{Rows, cache_length, in_range, learned, queue_length}
use Rattle.rules.proofs.Where.{spot, Where, never, gone, cached, queued}

-- ---- numbers of cached pages and of entries
module _ (n s : ℕ) (l : ℕ → Option ℕ) (a : Places) (was : (q : ℕ) → Where q n s (l q) a) where
  queued_before : (d : Entry) (i : ℕ) → i < length a.queue → (get_or a.queue i d).number ≤ s
  queued_before d i h = go (was (get_or a.queue i d).page)
    where
      go : Where (get_or a.queue i d).page n s (l (get_or a.queue i d).page) a → (get_or a.queue i d).number ≤ s
      go (never e c u) = absurd (absent_at entry_page _ i d a.queue h u refl)
      go (gone t e c u g) = absurd (absent_at entry_page _ i d a.queue h u refl)
      go (cached j y e o u g) = absurd (absent_at entry_page _ i d a.queue h u refl)
      go (queued j y e c o g) = let w = set_once entry_page _ j i y d d a.queue o refl h in rw w.1 (omega arith)

-- ---- along a history
record BoundedSoFar (xs : List Accepted) (t : State) : Type 0 where
  counts : Counted xs t
  places : Placed xs t
  cache_places : length t.places.cache ≤ t.sizes.cache_places
  queue_places : length t.places.queue ≤ t.sizes.queue_places
  rows : Rows t.sizes t.tables

bounded_more : OnAccepted BoundedSoFar
bounded_more xs t m r given e v =
    let k = known r.page t.places in
    let d = chosen t.sizes.cache_places t.tables.closed t.places.cache r.page r.hints in
    let x = newcomer t m r given in
    record {
      counts = counted_more xs t m r given e v.counts;
      places = placed_more xs t m r given e v.places;
      cache_places = cache_length t.sizes.cache_places r.page x t.places.cache (choice t r) d v.cache_places;
      queue_places = queue_length t.sizes.cache_places t.sizes.queue_places r.page x.entry t.places.cache (entries t.places.cache) t.places.queue (choice t r) d
          v.counts.positive.queue v.queue_places;
      rows = learned t.sizes (t.number + 1) r.page r.hints k (distance r.access (t.number + 1) k) t.tables v.counts.within (small xs t v.counts)
          (in_range r.access r.page t.sizes.queue_places t.number (latest_number r.page xs) t.places (v.places r.page)) v.rows;
    }

bounded_start : (sizes : SizeNumbers) → sizes_from sizes ≡ Ok sizes → BoundedSoFar [] (opened sizes)
bounded_start sizes ok = record {
  counts = counted_start sizes ok;
  places = λ q. never refl tt tt;
  cache_places = omega arith;
  queue_places = omega arith;
  rows = record { live = tt; pages = tt; closed = tt };
}

wide : (n : ℕ) → n ≤ 2048 → (r : Row HintNumbers) → Bounded n n r → Bounded 2048 2048 r
wide n l r v = record { real = v.real; count = omega (arith, v.count); repeats = omega (arith, v.repeats); least = v.least; most = v.most }

abbrev no_entry : Entry
no_entry = record { page = 0; number = 0; hints = record { client = 0; count = 0; first = 0; second = 0; third = 0; fourth = 0; fifth = 0 } }

own_bounds : (below : Meaning) (h : List Event) (t : State) (m : Meaning) → t.number ≤ 16777215 → InOrder (accepted h) → BoundedSoFar (accepted h) t → Bounds t.sizes below h t m
own_bounds below h t m limit ordered v =
    let n = t.sizes.queue_places in
    let l = λ (q : ℕ). latest_number q (accepted h) in
    record {
      cache_places = v.cache_places;
      queue_places = v.queue_places;
      number = limit;
      cache_numbers = All-from_get_or (λ x. x.entry.number ≤ t.number) t.places.cache (record { entry = no_entry; bytes = [] })
          (λ i k. (spot n t.number l t.places v.places (record { entry = no_entry; bytes = [] }) i k).before);
      queue_numbers = All-from_get_or (λ e. e.number ≤ t.number) t.places.queue no_entry (queued_before n t.number l t.places v.places no_entry);
      cache_apart = λ i j d. numbers_apart n t.number (accepted h) ordered t.places v.places d i j;
      live_rows = v.counts.counts.hints.short;
      page_rows = v.counts.counts.pages.short;
      requests = small (accepted h) t v.counts;
      live = v.rows.live;
      pages = v.rows.pages;
      closed = v.rows.closed;
      priorities = All-weaker (Bounded t.sizes.window t.sizes.window) (λ r. priority_from (row_parts r) ≡ Ok (row_parts r))
          (λ r b. made_exactly r (wide t.sizes.window v.counts.within.window r b)) t.tables.closed v.rows.closed;
    }

pub bounds : Every Bounds
bounds sizes below h t m ok good w =
    let n = numbering sizes below h t m ok good w in
    let v = along_accepted BoundedSoFar bounded_more (opened sizes) below (bounded_start sizes ok) h t m w in
    subst (λ z. Bounds z below h t m) (numbered sizes below h t m ok good w).same_sizes (own_bounds below h t m n.limit (in_order h n.numbers) v)
