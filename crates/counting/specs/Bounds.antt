-- How far the numbers of a row can come.
--
--   Bounded   a row after so many countings and so many credits of its table
use Rattle.std.specs.Prelude.{ℕ, ◌*◌, ◌<◌, ◌≤◌}
use Rattle.counting.specs.declared.row.Row.{Row}

pub record Bounded {K : Type 0} (countings credits : ℕ) (r : Row K) : Type 0 where
  pub real : r.error < r.count
  pub count : r.count ≤ countings
  pub repeats : r.repeats ≤ credits
  -- each credited distance is from 1 to 65,535
  pub least : r.repeats ≤ r.distances
  pub most : r.distances ≤ 65535 * r.repeats
