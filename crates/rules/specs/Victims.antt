-- The order in which cached pages give way, and the one that does.
--
--   TotalOrder   the order is one, and tells any two pages with different numbers apart
--   Victim       what makes an entry of the cache the victim
--   Victims      where a page is let into a full cache, the victim is one, and has the lesser priority
use Rattle.std.specs.Prelude.{◌≡◌, ℕ, ◌≤◌, true, false, ◌⊎◌, List, get_or, ◌≢◌, slice_index_or}
use Rattle.std.specs.Cmp.{IsStrictWeakOrder}
use Rattle.std.specs.List.{AllByRecursion}
use Rattle.values.specs.declared.hint_numbers.HintNumbers.{HintNumbers}
use Rattle.order.specs.Least.{FirstLeast}
use Rattle.counting.specs.declared.row.Row.{Row}
use Rattle.priority.specs.Priorities.{less}
use Rattle.rules.specs.declared.entry.Entry.{Entry}
use Rattle.rules.specs.Priorities.{gives_way, priority_of}
use Rattle.rules.specs.Choices.{evict, choose}

pub record TotalOrder (closed : List (Row HintNumbers)) : Type 0 where
  pub ranks : IsStrictWeakOrder (gives_way closed)
  pub told_apart : (x y : Entry) → (x.number ≢ y.number) → (gives_way closed x y ≡ true) ⊎ (gives_way closed y x ≡ true)

-- v stands at place i of the entries
pub record Victim (closed : List (Row HintNumbers)) (es : List Entry) (i : ℕ) (v : Entry) : Type 0 where
  pub place : FirstLeast (gives_way closed) es i
  -- no hint set of the cache has a lesser priority
  pub least : AllByRecursion (λ e. less (priority_of closed e.hints) (priority_of closed v.hints) ≡ false) es
  -- among those of equal priority none has a lower number
  pub lowest : AllByRecursion (λ e. less (priority_of closed v.hints) (priority_of closed e.hints) ≡ false → v.number ≤ e.number) es

-- page p with hint set h, in a cache of so many places with the entries es
abbrev pub Victims : Type 0
Victims =
    (closed : List (Row HintNumbers)) (room : ℕ) (es : List Entry) (p : ℕ) (h : HintNumbers) (i : ℕ) (d : Entry)
    → choose room closed es p h ≡ evict i
    → Victim closed es i (slice_index_or es i d) × (less (priority_of closed (get_or es i d).hints) (priority_of closed h) ≡ true)

abbrev pub GivesWay : Type 0
GivesWay = (closed : List (Row HintNumbers)) → TotalOrder closed
