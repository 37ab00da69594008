-- Ranks by the closed rows, in the rules' order.
use Rattle.std.proofs.Common.{◌≡◌, ℕ, List, refl}
use Rattle.std.specs.Cmp.{IsStrictWeakOrder}
use Rattle.std.specs.Ordering.{is_lt, nat_cmp, ordering_then}
use Rattle.std.proofs.lemmas.Cmp.{nat_cmp_total, on_total, then_total}
use Rattle.std.proofs.lemmas.List.MinMax.{ranks_by}
use Rattle.std.specs.declared.cmp.Ordering.{Ordering}
use Rattle.values.specs.declared.hint_numbers.HintNumbers.{HintNumbers}
use Rattle.order.specs.Least.{least_in, less_by}
use Rattle.order.proofs.Orders.{least_in_same}
use Rattle.counting.specs.declared.row.Row.{Row}
use Rattle.priority.specs.Fractions.{by_value_total}
use Rattle.priority.specs.Priorities.{by_value, parts_of}
use Rattle.priority.specs.declared.priority.Priority.{Priority}
use Rattle.priority.proofs.Priorities.{less_rank, same_parts}
use Rattle.rules.specs.declared.entry.Entry.{Entry}
use Rattle.rules.specs.Priorities.{gives_way, priority_of}
use Rattle.rules.proofs.Orders.{priority_within}

-- the order of ranks
abbrev pub compared : Priority × ℕ → Priority × ℕ → Ordering
compared x y = ordering_then (by_value x.0 y.0) (nat_cmp x.1 y.1)

-- it is total, and tells which of two ranks is the lower
pub lower_rank_ranks : IsStrictWeakOrder (λ x y. is_lt (compared x y))
lower_rank_ranks = ranks_by (then_total (on_total (λ (t : Priority × ℕ). t.0) by_value_total) (on_total (λ (t : Priority × ℕ). t.1) nat_cmp_total)) (λ x. x)

module _ (closed : List (Row HintNumbers)) where
  -- the rules' priority, whose parts are always within the limits
  abbrev pub priority_in : HintNumbers → Priority
  priority_in h = record { parts = priority_of closed h; in_limits = priority_within closed h }

  pub parts_in : (h : HintNumbers) → parts_of (priority_in h) ≡ priority_of closed h
  parts_in h = refl

  -- an entry's rank: the priority of its hint set, and its number
  abbrev pub ranked_by : Entry → Priority × ℕ
  ranked_by e = (priority_in e.hints, e.number)

  -- a rank that was looked up
  pub ranked_as : (e : Entry) (r : Priority × ℕ) → parts_of r.0 ≡ priority_of closed e.hints → r.1 ≡ e.number → r ≡ ranked_by e
  ranked_as e r h k i = (same_parts r.0 (priority_in e.hints) h i, k i)

  rank_order : (x y : Entry) → less_by compared ranked_by x y ≡ gives_way closed x y
  rank_order x y = less_rank (priority_in x.hints) (priority_in y.hints) x.number y.number

  -- the least of the ranks is the rules' victim
  pub least_rank : (es : List Entry) → least_in (less_by compared ranked_by) es ≡ least_in (gives_way closed) es
  least_rank es = least_in_same rank_order es
