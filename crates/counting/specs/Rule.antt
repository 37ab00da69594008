-- The rule of Space-Saving: what one counting, and one credit, does to the used rows of a table.
--
--   refuses    whether a table refuses a counting
--   counting   the used rows after a counting
--   credit     the used rows after a repeat
use Rattle.std.specs.Prelude.{ℕ, Bool, cond, ◌||◌, List, [], ◌∷◌, ◌++◌, length, Some, None, Option, ◌==◌, nat_le, nat_lt}
use Rattle.order.specs.Least.{least}
use Rattle.counting.specs.Rows.{amend, credited, found, fresh, raised, replaced, sooner}
use Rattle.counting.specs.declared.row.Row.{Row}

-- it has no rows, or 2,048 countings since it was emptied
abbrev pub refuses : ℕ → ℕ → Bool
refuses room so_far = room == 0 || nat_le 2048 so_far

-- a key without a row takes the first unused one, and in a full table the row that gives way first
abbrev pub entered_as : {K : Type 0} → ℕ → List (Row K) → K → ℕ → List (Row K)
entered_as room rs k number =
    cond (nat_lt (length rs) room) (rs ++ fresh k number ∷ []) (amend (replaced k number) rs (least sooner rs))

-- a key with a row has one more in it
abbrev pub counted_as : {K : Type 0} → ℕ → List (Row K) → K → ℕ → Option (ℕ × Row K) → List (Row K)
counted_as room rs k number (Some p) = amend raised rs p.0
counted_as room rs k number None = entered_as room rs k number

-- the used rows of a table with room for so many, after a key is counted at a request number
unfoldable pub counting : {K : Type 0} → (K → List ℕ) → ℕ → List (Row K) → K → ℕ → List (Row K)
counting meaning room rs k number = counted_as room rs k number (found meaning rs k)

-- a key without a row has no repeat to add
abbrev pub credited_as : {K : Type 0} → List (Row K) → ℕ → Option (ℕ × Row K) → List (Row K)
credited_as rs distance (Some p) = amend (credited distance) rs p.0
credited_as rs distance None = rs

-- a key with a row has one more repeat in it, at a distance
unfoldable pub credit : {K : Type 0} → (K → List ℕ) → List (Row K) → K → ℕ → List (Row K)
credit meaning rs k distance = credited_as rs distance (found meaning rs k)
