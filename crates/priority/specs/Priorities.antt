-- Priorities: fractions within limits, and their order.
--
--   parts_of   the parts of a priority
--   by_value   how one priority stands to another: as fractions
--   lower      whether one priority is lower than another
--   refused    the number of a refusal
--
-- With the words of Parts.
use Rattle.std.specs.Prelude.{ℕ, Bool}
use Rattle.std.specs.declared.cmp.Ordering.{Ordering}
use Rattle.priority.specs.declared.priority.BadPriority.{BadPriority}
use Rattle.priority.specs.declared.priority.Priority.{Priority}
use Rattle.priority.specs.declared.priority_parts.PriorityParts.{PriorityParts}
pub use Rattle.priority.specs.Parts.{compared, less, lowest, priority_from, within}

abbrev pub parts_of : Priority → PriorityParts
parts_of p = p.parts

abbrev pub by_value : Priority → Priority → Ordering
by_value x y = compared (parts_of x) (parts_of y)

abbrev pub lower : Priority → Priority → Bool
lower x y = less (parts_of x) (parts_of y)

abbrev pub refused : BadPriority → ℕ
refused e = 9
