-- A counting table over handed rows.
--
--   State          all the rows, how many of them are used, and the countings since it was emptied
--   state_of       the state of a table
--   used_rows      the rows in use
--   emptied        the state with no row used
--   after_count    the state after a counting, refused or not
--   after_credit   the state after a repeat
--   answer         what a counting answers
--   numbered       the code's answer in these words: a refusal is its number
use Rattle.std.specs.Prelude.{ℕ, ◌+◌, cond, List, ◌++◌, length, take, drop, Ok, Err, Result}
use Rattle.std.specs.Result.{result_map_both}
use Rattle.counting.specs.Rule.{counting, credit, refuses}
use Rattle.counting.specs.declared.row.Row.{Row}
use Rattle.counting.specs.declared.table.NotCounted.{NotCounted}
use Rattle.counting.specs.declared.table.Table.{Table}

pub record State (K : Type 0) : Type 0 where
  pub rows : List (Row K)
  pub used : ℕ
  pub counted : ℕ

abbrev pub state_of : {K : Type 0} → Table K → State K
state_of t = record { rows = t.rows.now; used = t.used; counted = t.counted }

abbrev pub used_rows : {K : Type 0} → State K → List (Row K)
used_rows t = take t.used t.rows

abbrev pub emptied : {K : Type 0} → List (Row K) → State K
emptied all = record { rows = all; used = 0; counted = 0 }

-- all rows, where the first ones have become others
abbrev pub over : {A : Type 0} → List A → List A → List A
over new all = new ++ drop (length new) all

-- rows past the used ones stay
abbrev pub accepted : {K : Type 0} → State K → List (Row K) → State K
accepted t new = record { rows = over new t.rows; used = length new; counted = t.counted + 1 }

abbrev pub after_count : {K : Type 0} → (K → List ℕ) → State K → K → ℕ → State K
after_count meaning t k number =
    cond (refuses (length t.rows) t.counted) t
    (accepted t (counting meaning (length t.rows) (used_rows t) k number))

abbrev pub after_credit : {K : Type 0} → (K → List ℕ) → State K → K → ℕ → State K
after_credit meaning t k distance = record {
  rows = over (credit meaning (used_rows t) k distance) t.rows;
  used = t.used;
  counted = t.counted;
}

abbrev pub answer : {K : Type 0} → State K → Result Unit ℕ
answer t = cond (refuses (length t.rows) t.counted) (Err 4) (Ok tt)

abbrev pub numbered : Result Unit NotCounted → Result Unit ℕ
numbered r = result_map_both (λ x. x) (λ e. 4) r
