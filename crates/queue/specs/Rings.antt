-- How a ring of rows keeps elements: from a first row on, and after the last row from row 0 on.
--
--   in_order   the elements, the earliest first
--   row_of     the row of the element at a place in the order
--   next_row   the row that the next element is written to
use Rattle.std.specs.Prelude.{ℕ, ◌+◌, ◌-◌, cond, List, ◌++◌, take, drop, nat_lt}

-- the rows, the first row of the elements, and how many elements there are
unfoldable pub in_order : {A : Type 0} → List A → ℕ → ℕ → List A
in_order rows first many = take many (drop first rows ++ take first rows)

-- in a ring of n rows
abbrev pub row_of : ℕ → ℕ → ℕ → ℕ
row_of n first place = cond (nat_lt place (n - first)) (first + place) (place - (n - first))

-- the row after the last element, or in a full ring the row of the earliest
abbrev pub next_row : ℕ → ℕ → ℕ → ℕ
next_row n first many = row_of n first (cond (nat_lt many n) many 0)
