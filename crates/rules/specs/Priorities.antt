-- The priority of a hint set, and the order in which cached pages give way.
--
--   row_priority   what a closed row gives
--   priority_of    a hint set's priority by the closed rows
--   gives_way      which of two cached pages gives way first
use Rattle.std.specs.Prelude.{Bool, List, Option, nat_lt}
use Rattle.std.specs.Option.{option_map_or}
use Rattle.std.specs.Result.{result_unwrap_or}
use Rattle.values.specs.declared.hint_numbers.HintNumbers.{HintNumbers}
use Rattle.keys.specs.Meanings.{hint_meaning}
use Rattle.order.specs.Then.{first_then}
use Rattle.counting.specs.Rows.{row_in}
use Rattle.counting.specs.declared.row.Row.{Row}
use Rattle.priority.specs.Learned.{row_parts}
use Rattle.priority.specs.Priorities.{less, lowest, priority_from}
use Rattle.priority.specs.declared.priority_parts.PriorityParts.{PriorityParts}
use Rattle.rules.specs.declared.entry.Entry.{Entry}

-- parts that are refused count as the lowest; those of a row that a server has closed never are
abbrev pub row_priority : Row HintNumbers → PriorityParts
row_priority r = result_unwrap_or (priority_from (row_parts r)) lowest

-- 0 over 1 without a row
abbrev pub priority_by : Option (Row HintNumbers) → PriorityParts
priority_by o = option_map_or row_priority o lowest

unfoldable pub priority_of : List (Row HintNumbers) → HintNumbers → PriorityParts
priority_of closed h = priority_by (row_in hint_meaning closed h)

-- one hint set has a lesser priority than the other
abbrev pub worth_less : List (Row HintNumbers) → Entry → Entry → Bool
worth_less closed x y = less (priority_of closed x.hints) (priority_of closed y.hints)

-- one request came before the other
abbrev pub earlier : Entry → Entry → Bool
earlier x y = nat_lt x.number y.number

-- the least priority, and the lowest number among equals
abbrev pub gives_way : List (Row HintNumbers) → Entry → Entry → Bool
gives_way closed = first_then (worth_less closed) earlier
