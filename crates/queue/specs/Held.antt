-- What is read off a queue.
--
--   held         its elements in the order of entering, the earliest first
--   places       how many places it has
--   next_place   the row that the next element is written to
use Rattle.std.specs.Prelude.{ℕ, List, length}
use Rattle.queue.specs.Rings.{in_order, next_row}
use Rattle.queue.specs.declared.ring.Queue.{Queue}

abbrev pub held : {T : Type 0} → Queue T → List T
held q = in_order q.rows.now q.head q.len

abbrev pub places : {T : Type 0} → Queue T → ℕ
places q = length q.rows.now

abbrev pub next_place : {T : Type 0} → Queue T → ℕ
next_place q = next_row (places q) q.head q.len
