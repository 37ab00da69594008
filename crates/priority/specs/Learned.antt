-- What a row of a hint set teaches.
--
--   requests    the requests that surely bore the hint set
--   row_parts   the parts of the priority that the row gives
use Rattle.std.specs.Prelude.{ℕ, ◌-◌, ◌*◌, cond, nat_le}
use Rattle.counting.specs.declared.row.Row.{Row}
use Rattle.priority.specs.Parts.{lowest}
use Rattle.priority.specs.declared.priority_parts.PriorityParts.{PriorityParts}

-- the count less the error, and 0 where the error is greater
abbrev pub requests : {K : Type 0} → Row K → ℕ
requests r = r.count - r.error

-- R × R over n × T, not reduced, and 0 over 1 without a repeat
abbrev pub row_parts : {K : Type 0} → Row K → PriorityParts
row_parts r =
    cond (nat_le 1 r.repeats)
    (record { numerator = r.repeats * r.repeats; denominator = requests r * r.distances })
    lowest
