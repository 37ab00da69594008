-- What the counts are worth: the laws of a table after any list of countings.
--
--   window       the keys that were accepted, the latest first
--   after_all    the state of a table after countings in order, refused ones included
--   times        how often a key stands in a window
--   Unlisted     no row has the key
--   Lawful       what the rows of a table say of its window
--   Uncredited   no row has a repeat
use Rattle.std.specs.Prelude.{◌≡◌, ℕ, ◌+◌, ◌*◌, ◌≤◌, cond, List, [], ◌∷◌, length, fold, count_by, sum_by, ◌≢◌}
use Rattle.std.specs.List.{AllByRecursion}
use Rattle.keys.specs.Meanings.{alike}
use Rattle.counting.specs.Rule.{refuses}
use Rattle.counting.specs.Tables.{State, after_count, emptied}
use Rattle.counting.specs.declared.count_all.Counting.{Counting}
use Rattle.counting.specs.declared.row.Row.{Row}

-- a counting is accepted unless the table refuses
abbrev pub accept : {K : Type 0} → ℕ → List K → Counting K → List K
accept room w c = cond (refuses room (length w)) w (c.key ∷ w)

abbrev pub window : {K : Type 0} → ℕ → List (Counting K) → List K
window room cs = fold (accept room) [] cs

abbrev pub after_all : {K : Type 0} → (K → List ℕ) → List (Row K) → List (Counting K) → State K
after_all meaning all cs = fold (λ t c. after_count meaning t c.key c.number) (emptied all) cs

abbrev pub times : {K : Type 0} → (K → List ℕ) → K → List K → ℕ
times meaning k w = count_by (λ x. alike (meaning x) (meaning k)) w

abbrev pub Unlisted : {K : Type 0} → (K → List ℕ) → List (Row K) → K → Type 0
Unlisted meaning rs k = AllByRecursion (λ r. meaning r.key ≢ meaning k) rs

-- a row's count is at least its key's times in the window
abbrev pub AtLeast : {K : Type 0} → (K → List ℕ) → List K → Row K → Type 0
AtLeast meaning w r = times meaning r.key w ≤ r.count

-- and exceeds them by at most the row's error
abbrev pub AtMost : {K : Type 0} → (K → List ℕ) → List K → Row K → Type 0
AtMost meaning w r = r.count ≤ times meaning r.key w + r.error

-- the used rows of a table with room for so many, and its window
pub record Lawful {K : Type 0} (meaning : K → List ℕ) (room : ℕ) (rs : List (Row K)) (w : List K) : Type 0 where
  pub at_least : AllByRecursion (AtLeast meaning w) rs
  pub at_most : AllByRecursion (AtMost meaning w) rs
  pub errors : AllByRecursion (λ r. room * r.error ≤ length w) rs
  pub unlisted : (k : K) → Unlisted meaning rs k → room * times meaning k w ≤ length w
  pub sums : sum_by (λ r. r.count) rs ≡ length w
  pub small : AllByRecursion (λ r. r.count ≤ 2048) rs

abbrev pub Uncredited : {K : Type 0} → List (Row K) → Type 0
Uncredited rs = AllByRecursion (λ r. (r.repeats ≡ 0) × (r.distances ≡ 0)) rs
